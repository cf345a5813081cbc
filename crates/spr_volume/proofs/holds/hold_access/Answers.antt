use Rattle.std.proofs.Common.{refl, ap, ◌∙◌}
use Rattle.spr_volume.specs.TowerCalls.{access_of}
use Rattle.spr_volume.specs.TowerShared.{IsNeeded, IsPlain, log_of}
use Rattle.spr_volume.proofs.Holding.{held_is, known_given, same_hold, tries_grow}
use Rattle.spr_volume.proofs.holds.hold_access.Goals as goal

pub give-requires-clause-list : goal.give-requires-clause-list
give-requires-clause-list g c =
    tries_grow c.args.seat.now c.take-file.new.seat c.args.caller (access_of c.args.caller c.args.node c.args.life c.args.op.now) (log_of c.take-file.result) (log_of c.try_access-moved.new.self) c.try_access-moved.new.out c.try_access-moved.result
    c.requires.caller.0 c.requires.caller.1 (λ trail. refl) c.take-file.ensures.seat c.try_access-moved.ensures.tries

pub returns-clause-seat : goal.returns-clause-seat
returns-clause-seat g c = same_hold c.args.seat.now c.take-file.new.seat c.give.new.seat _ _ c.requires.seat.1 c.take-file.ensures.seat c.give.ensures

pub returns-clause-held : goal.returns-clause-held
returns-clause-held g c =
    held_is c.args.seat.now c.give.new.seat c.args.caller (access_of c.args.caller c.args.node c.args.life c.args.op.now) (log_of c.take-file.result) (log_of c.try_access-moved.new.self) c.try_access-moved.new.out c.try_access-moved.result c.place-place.result
    c.take-file.ensures.list c.try_access-moved.ensures.tries c.place-place.ensures (ap (λ k. k.seen) c.give.ensures)

pub returns-clause-plain : goal.returns-clause-plain
returns-clause-plain g c =
    known_given IsPlain c.try_access-moved.new.self.began c.args.lock.now.part (log_of c.try_access-moved.new.self) c.give.new.seat.seen (c.try_access-moved.ensures.began ∙ c.take-file.ensures.part) (ap (λ k. k.seen) c.give.ensures) c.sound.ensures.plain

pub returns-clause-needed : goal.returns-clause-needed
returns-clause-needed g c =
    known_given IsNeeded c.try_access-moved.new.self.began c.args.lock.now.part (log_of c.try_access-moved.new.self) c.give.new.seat.seen (c.try_access-moved.ensures.began ∙ c.take-file.ensures.part) (ap (λ k. k.seen) c.give.ensures) c.sound.ensures.needed
