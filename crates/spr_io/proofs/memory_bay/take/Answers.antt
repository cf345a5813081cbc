use Rattle.std.proofs.Common.{◌≡◌, Some, None, position, sym, refl}
use Rattle.spr_io.specs.MemoryBay.{is_slot, slot_of}
use Rattle.spr_io.proofs.Slots.{slot_at, none_at, sets, refuses_of, lies_there}
use Rattle.spr_io.proofs.memory_bay.take.Goals as goal

pub returns-in-Some-take-clause-fits : goal.returns-in-Some-take-clause-fits
returns-in-Some-take-clause-fits c =
    let at : position (is_slot c.args.disk.now c.args.file.now) c.args.slots.now.items ≡ Some c.in-Some.at = rw c.deref.ensures.value at (sym c.in-Some.ensures) in
    let slot = slot_at c.args.disk.now c.args.file.now c.args.slots.now.items c.in-Some.at c.index_mut-slot.result.now at c.index_mut-slot.ensures.value in
    let refuses = refuses_of (slot_of c.args.slots.now.items c.args.disk.now c.args.file.now) c.index_mut-slot.result.now c.in-Some-take.store c.args.size c.args.blocks slot c.in-Some-take.ensures.some.0 in
    rw (refuses, c.in-Some-take.ensures.some.1) refl

pub returns-in-Some-take-clause-store : goal.returns-in-Some-take-clause-store
returns-in-Some-take-clause-store c =
    let at : position (is_slot c.args.disk.now c.args.file.now) c.args.slots.now.items ≡ Some c.in-Some.at = rw c.deref.ensures.value at (sym c.in-Some.ensures) in
    let slot = slot_at c.args.disk.now c.args.file.now c.args.slots.now.items c.in-Some.at c.index_mut-slot.result.now at c.index_mut-slot.ensures.value in
    rw c.settle.ensures (sym (lies_there (slot_of c.args.slots.now.items c.args.disk.now c.args.file.now) c.index_mut-slot.result.now c.in-Some-take.store c.args.size c.args.blocks slot c.in-Some-take.ensures.some.0))

pub returns-in-Some-take-clause-slots : goal.returns-in-Some-take-clause-slots
returns-in-Some-take-clause-slots c =
    let at : position (is_slot c.args.disk.now c.args.file.now) c.args.slots.now.items ≡ Some c.in-Some.at = rw c.deref.ensures.value at (sym c.in-Some.ensures) in
    rw (c.settle.ensures, c.in-Some-take.ensures.some.2) (sets c.args.disk.now c.args.file.now c.args.slots.now.items c.in-Some.at c.index_mut-slot.result.now None c.in-Some-take.store.count at c.index_mut-slot.ensures.value)

pub returns-in-None-take-clause-failed : goal.returns-in-None-take-clause-failed
returns-in-None-take-clause-failed c failed =
    let at : position (is_slot c.args.disk.now c.args.file.now) c.args.slots.now.items ≡ Some c.in-Some.at = rw c.deref.ensures.value at (sym c.in-Some.ensures) in
    let slot = slot_at c.args.disk.now c.args.file.now c.args.slots.now.items c.in-Some.at c.index_mut-slot.result.now at c.index_mut-slot.ensures.value in
    rw slot c.in-None-take.ensures.none.1

pub returns-in-Ok-clause-fits : goal.returns-in-Ok-clause-fits
returns-in-Ok-clause-fits c =
    let none : position (is_slot c.args.disk.now c.args.file.now) c.args.slots.now.items ≡ None = rw c.deref.ensures.value at (sym c.in-None.ensures) in
    rw (none_at c.args.disk.now c.args.file.now c.args.slots.now.items none) refl

pub returns-in-Ok-clause-store : goal.returns-in-Ok-clause-store
returns-in-Ok-clause-store c =
    let none : position (is_slot c.args.disk.now c.args.file.now) c.args.slots.now.items ≡ None = rw c.deref.ensures.value at (sym c.in-None.ensures) in
    rw (none_at c.args.disk.now c.args.file.now c.args.slots.now.items none) c.in-Ok.ensures.store

pub returns-in-Err-clause-memory : goal.returns-in-Err-clause-memory
returns-in-Err-clause-memory c lacks =
    let none : position (is_slot c.args.disk.now c.args.file.now) c.args.slots.now.items ≡ None = rw c.deref.ensures.value at (sym c.in-None.ensures) in
    none_at c.args.disk.now c.args.file.now c.args.slots.now.items none
