use Rattle.spr_volume.specs.TowerShared.{log_of}
use Rattle.spr_volume.proofs.Holding.{gives_same, same_hold}
use Rattle.spr_volume.proofs.holds.hold_place.Goals as goal

pub give-requires-clause-list : goal.give-requires-clause-list
give-requires-clause-list g c = gives_same c.args.seat.now c.take-file.new.seat (log_of c.take-file.result) c.take-file.ensures.seat

pub returns-clause-seat : goal.returns-clause-seat
returns-clause-seat g c = same_hold c.args.seat.now c.take-file.new.seat c.give.new.seat _ _ c.requires.seat.1 c.take-file.ensures.seat c.give.ensures
