use Rattle.std.proofs.Common.{Some, None, sym}
use Rattle.spr_io.proofs.Slots.{sets, sets_again}
use Rattle.spr_io.proofs.memory_bay.put.Goals as goal

pub returns-in-Some-clause-ok : goal.returns-in-Some-clause-ok
returns-in-Some-clause-ok c =
    let at = rw c.deref.ensures.value at (sym c.in-Some.ensures) in
    rw c.put.ensures (sets c.args.disk.now c.args.file.now c.args.slots.now.items c.in-Some.at c.index_mut-slot.result.now (Some c.args.store) c.args.store.count at c.index_mut-slot.ensures.value)

pub returns-in-Ok-clause-ok : goal.returns-in-Ok-clause-ok
returns-in-Ok-clause-ok c =
    let set = sets c.args.disk.now c.args.file.now c.add.new.slots.items c.in-Ok.at c.index_mut-slot-in-Ok.result.now (Some c.args.store) c.args.store.count c.in-Ok.ensures.place c.index_mut-slot-in-Ok.ensures.value in
    rw c.put-in-Ok.ensures (sets_again c.args.disk.now c.args.file.now None (Some c.args.store) 0 c.args.store.count c.args.slots.now.items c.add.new.slots.items _ c.in-Ok.ensures.slots set)
