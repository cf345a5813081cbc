use Rattle.std.proofs.Common.{[], refl, ap, ◌∙◌, arith}
use Rattle.spr_volume.specs.TowerCalls.{sync_of}
use Rattle.spr_volume.specs.TowerShared.{IsNeeded, IsPlain, log_of}
use Rattle.spr_volume.proofs.Holding.{held_is, known_given, same_hold, tries_grow, place_later}
use Rattle.spr_volume.proofs.holds.hold_sync.Goals as goal

pub try_sync-moved-requires-clause-from : goal.try_sync-moved-requires-clause-from
try_sync-moved-requires-clause-from g c κs within =
    let known = c.requires.from in
    let later = place_later c.args.seat.now.first c.args.seat.now.end c.args.seat.now.seen (log_of c.take-file.result) c.take-file.ensures.list in
    omega arith

pub give-requires-clause-list : goal.give-requires-clause-list
give-requires-clause-list g c =
    tries_grow c.args.seat.now c.take-file.new.seat c.args.caller (sync_of c.args.caller c.args.node c.args.from c.args.keep) (log_of c.take-file.result) (log_of c.try_sync-moved.new.self) [] c.try_sync-moved.result
    c.requires.caller.0 c.requires.caller.1 (λ trail. refl) c.take-file.ensures.seat c.try_sync-moved.ensures.tries

pub returns-clause-seat : goal.returns-clause-seat
returns-clause-seat g c = same_hold c.args.seat.now c.take-file.new.seat c.give.new.seat _ _ c.requires.seat.1 c.take-file.ensures.seat c.give.ensures

pub returns-clause-held : goal.returns-clause-held
returns-clause-held g c =
    held_is c.args.seat.now c.give.new.seat c.args.caller (sync_of c.args.caller c.args.node c.args.from c.args.keep) (log_of c.take-file.result) (log_of c.try_sync-moved.new.self) [] c.try_sync-moved.result c.place-place.result
    c.take-file.ensures.list c.try_sync-moved.ensures.tries c.place-place.ensures (ap (λ k. k.seen) c.give.ensures)

pub returns-clause-plain : goal.returns-clause-plain
returns-clause-plain g c =
    known_given IsPlain c.try_sync-moved.new.self.began c.args.lock.now.part (log_of c.try_sync-moved.new.self) c.give.new.seat.seen (c.try_sync-moved.ensures.began ∙ c.take-file.ensures.part) (ap (λ k. k.seen) c.give.ensures) c.sound.ensures.plain

pub returns-clause-needed : goal.returns-clause-needed
returns-clause-needed g c =
    known_given IsNeeded c.try_sync-moved.new.self.began c.args.lock.now.part (log_of c.try_sync-moved.new.self) c.give.new.seat.seen (c.try_sync-moved.ensures.began ∙ c.take-file.ensures.part) (ap (λ k. k.seen) c.give.ensures) c.sound.ensures.needed
