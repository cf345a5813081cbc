use Rattle.std.proofs.Common.{◌≡◌, Some, None, position, sym, ap, ◌∙◌}
use Rattle.spr_io.specs.MemoryBay.{Bay, is_slot, in_slot, stored}
use Rattle.spr_io.proofs.Slots.{slot_at, none_at}
use Rattle.spr_io.proofs.memory_bay.MemBay.look.Goals as goal

pub returns-in-Some : goal.returns-in-Some
returns-in-Some c =
    let at : position (is_slot c.args.disk.now c.args.file.now) c.self.inside.slots.items ≡ Some c.in-Some.at = rw c.deref.ensures.value at (sym c.in-Some.ensures) in
    let slot = slot_at c.args.disk.now c.args.file.now c.self.inside.slots.items c.in-Some.at c.index.result.now at c.index.ensures in
    c.store.ensures ∙ sym (ap in_slot slot) ∙ ap (λ (b : Bay). stored b c.args.disk.now c.args.file.now) c.self.view_is

pub returns-in-None : goal.returns-in-None
returns-in-None c =
    let none : position (is_slot c.args.disk.now c.args.file.now) c.self.inside.slots.items ≡ None = rw c.deref.ensures.value at (sym c.in-None.ensures) in
    sym (ap in_slot (none_at c.args.disk.now c.args.file.now c.self.inside.slots.items none)) ∙ ap (λ (b : Bay). stored b c.args.disk.now c.args.file.now) c.self.view_is
