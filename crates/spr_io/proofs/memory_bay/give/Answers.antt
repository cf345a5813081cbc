use Rattle.std.proofs.Common.{◌≡◌, Some, None, true, false, position, sym, refl}
use Rattle.spr_io.specs.MemoryBay.{is_slot, slot_of}
use Rattle.spr_io.proofs.Slots.{slot_at, none_at, sets, gives_out, is_empty, is_filled, same_slots}
use Rattle.spr_io.proofs.memory_bay.give.Goals as goal

pub returns-in-Some-clause-answer : goal.returns-in-Some-clause-answer
returns-in-Some-clause-answer c =
    let at : position (is_slot c.args.disk.now c.args.file.now) c.args.slots.now.items ≡ Some c.in-Some.at = rw c.deref.ensures.value at (sym c.in-Some.ensures) in
    let slot = slot_at c.args.disk.now c.args.file.now c.args.slots.now.items c.in-Some.at c.index_mut-slot.result.now at c.index_mut-slot.ensures.value in
    gives_out (slot_of c.args.slots.now.items c.args.disk.now c.args.file.now) c.index_mut-slot.result.now c.args.refused c.give.result slot c.give.ensures.answer

pub returns-in-Some-clause-given : goal.returns-in-Some-clause-given
returns-in-Some-clause-given c taken =
    let at : position (is_slot c.args.disk.now c.args.file.now) c.args.slots.now.items ≡ Some c.in-Some.at = rw c.deref.ensures.value at (sym c.in-Some.ensures) in
    rw (c.give.ensures.given taken) (sets c.args.disk.now c.args.file.now c.args.slots.now.items c.in-Some.at c.index_mut-slot.result.now (Some c.args.store) c.args.store.count at c.index_mut-slot.ensures.value)

pub returns-in-Some-clause-lost : goal.returns-in-Some-clause-lost
returns-in-Some-clause-lost c refused out =
    let at : position (is_slot c.args.disk.now c.args.file.now) c.args.slots.now.items ≡ Some c.in-Some.at = rw c.deref.ensures.value at (sym c.in-Some.ensures) in
    let slot = slot_at c.args.disk.now c.args.file.now c.args.slots.now.items c.in-Some.at c.index_mut-slot.result.now at c.index_mut-slot.ensures.value in
    let empty = is_empty (slot_of c.args.slots.now.items c.args.disk.now c.args.file.now) c.index_mut-slot.result.now slot out in
    rw (c.give.ensures.lost empty refused, empty) (sets c.args.disk.now c.args.file.now c.args.slots.now.items c.in-Some.at c.index_mut-slot.result.now None c.args.store.count at c.index_mut-slot.ensures.value)

pub returns-in-Some-clause-same : goal.returns-in-Some-clause-same
returns-in-Some-clause-same c filled =
    let at : position (is_slot c.args.disk.now c.args.file.now) c.args.slots.now.items ≡ Some c.in-Some.at = rw c.deref.ensures.value at (sym c.in-Some.ensures) in
    let slot = slot_at c.args.disk.now c.args.file.now c.args.slots.now.items c.in-Some.at c.index_mut-slot.result.now at c.index_mut-slot.ensures.value in
    let same = is_filled (slot_of c.args.slots.now.items c.args.disk.now c.args.file.now) c.index_mut-slot.result.now (c.give.new.self ≡ c.index_mut-slot.result.now) slot filled c.give.ensures.same in
    same_slots c.args.slots.now.items c.in-Some.at c.index_mut-slot.result.now c.give.new.self c.index_mut-slot.ensures.value same

pub returns-in-None-clause-answer : goal.returns-in-None-clause-answer
returns-in-None-clause-answer c =
    let none : position (is_slot c.args.disk.now c.args.file.now) c.args.slots.now.items ≡ None = rw c.deref.ensures.value at (sym c.in-None.ensures) in
    rw (none_at c.args.disk.now c.args.file.now c.args.slots.now.items none) refl

pub returns-in-None-clause-lost : goal.returns-in-None-clause-lost
returns-in-None-clause-lost c refused out =
    let none : position (is_slot c.args.disk.now c.args.file.now) c.args.slots.now.items ≡ None = rw c.deref.ensures.value at (sym c.in-None.ensures) in
    let e : false ≡ true = rw (none_at c.args.disk.now c.args.file.now c.args.slots.now.items none) at out in
    absurd cc
