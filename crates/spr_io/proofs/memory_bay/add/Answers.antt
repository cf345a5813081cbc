use Rattle.std.proofs.Common.{None}
use Rattle.spr_io.proofs.Slots.{adds, place_of_added}
use Rattle.spr_io.proofs.memory_bay.add.Goals as goal

pub returns-clause-place : goal.returns-clause-place
returns-clause-place c =
    let place = place_of_added c.args.disk.now c.args.file.now c.args.slots.now.items None 0 c.requires in
    rw (c.in_ok-push.ensures.items, c.in_ok-new.ensures, c.len-at.ensures, c.args.slots.now.ok.0) place

pub returns-clause-slots : goal.returns-clause-slots
returns-clause-slots c = rw (c.in_ok-push.ensures.items, c.in_ok-new.ensures) (adds c.args.disk.now c.args.file.now c.args.slots.now.items None 0 c.requires)
