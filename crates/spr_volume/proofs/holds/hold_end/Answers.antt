use Rattle.std.proofs.Common.{[], length, refl, ap, ◌∙◌}
use Rattle.hist_plain.specs.History.{mine}
use Rattle.stack_engine.proofs.Endings.{ended_by}
use Rattle.spr_volume.specs.TowerCalls.{end_of}
use Rattle.spr_volume.specs.TowerShared.{IsNeeded, IsPlain, log_of}
use Rattle.spr_volume.proofs.Holding.{held_is, known_given, same_hold, tries_grow}
use Rattle.spr_volume.proofs.holds.hold_end.Goals as goal

pub give-requires-clause-list : goal.give-requires-clause-list
give-requires-clause-list g c =
    tries_grow c.args.seat.now c.take-file.new.seat c.args.caller (end_of c.args.caller c.args.node c.args.end) (log_of c.take-file.result) (log_of c.try_end-moved.new.self) [] c.try_end-moved.result
    c.requires.caller.0 c.requires.caller.1 (λ trail. ended_by c.args.end c.args.caller (length (mine trail c.args.caller)) c.args.node) c.take-file.ensures.seat c.try_end-moved.ensures.tries

pub returns-clause-seat : goal.returns-clause-seat
returns-clause-seat g c = same_hold c.args.seat.now c.take-file.new.seat c.give.new.seat _ _ c.requires.seat.1 c.take-file.ensures.seat c.give.ensures

pub returns-clause-held : goal.returns-clause-held
returns-clause-held g c =
    held_is c.args.seat.now c.give.new.seat c.args.caller (end_of c.args.caller c.args.node c.args.end) (log_of c.take-file.result) (log_of c.try_end-moved.new.self) [] c.try_end-moved.result c.place-place.result
    c.take-file.ensures.list c.try_end-moved.ensures.tries c.place-place.ensures (ap (λ k. k.seen) c.give.ensures)

pub returns-clause-plain : goal.returns-clause-plain
returns-clause-plain g c =
    known_given IsPlain c.try_end-moved.new.self.began c.args.lock.now.part (log_of c.try_end-moved.new.self) c.give.new.seat.seen (c.try_end-moved.ensures.began ∙ c.take-file.ensures.part) (ap (λ k. k.seen) c.give.ensures) c.sound.ensures.plain

pub returns-clause-needed : goal.returns-clause-needed
returns-clause-needed g c =
    known_given IsNeeded c.try_end-moved.new.self.began c.args.lock.now.part (log_of c.try_end-moved.new.self) c.give.new.seat.seen (c.try_end-moved.ensures.began ∙ c.take-file.ensures.part) (ap (λ k. k.seen) c.give.ensures) c.sound.ensures.needed
