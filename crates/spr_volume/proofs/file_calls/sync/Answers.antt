use Rattle.std.proofs.Common.{Ok, [], refl, ap, ◌∙◌, arith}
use Rattle.std.proofs.lemmas.Result.{err_from_is_err_and, IfOk-at_ok}
use Rattle.tower_log.specs.Log.{place_of}
use Rattle.spr_volume.specs.TowerCalls.{sync_of}
use Rattle.spr_volume.specs.FileCalls.{IsSync}
use Rattle.spr_volume.proofs.Holding.{again, done, held_later, place_later, refused, same_then}
use Rattle.spr_volume.proofs.file_calls.sync.Goals as goal

pub returns-in_err-answer-clause-called : goal.returns-in_err-answer-clause-called
returns-in_err-answer-clause-called g c =
    let i = c.loop.invariant in
    let event = sync_of c.args.caller c.args.node c.hold_place-from.result c.args.keep in
    let p = err_from_is_err_and c.from_residual.result c.from_residual.ensures.1 in
    rw (p.1, p.2) (refused c.args.seat.now c.loop.seat c.hold_sync-hold.new.seat c.args.caller event [] c.hold_sync-hold.result.moved c.hold_sync-hold.result.place i.seat i.quietly c.hold_sync-hold.ensures.held
    c.in_err-answer.field-0.0 (IsSync c.args.caller c.args.node c.args.keep (place_of c.args.seat.now.seen)) c.in_err-answer.was)

pub returns-in-Done-clause-called : goal.returns-in-Done-clause-called
returns-in-Done-clause-called g c =
    let i = c.loop.invariant in
    let event = sync_of c.args.caller c.args.node c.hold_place-from.result c.args.keep in
    let least = place_later c.args.seat.now.first c.args.seat.now.end c.args.seat.now.seen c.hold_place-from.new.seat.seen c.hold_place-from.ensures.quietly in
    let from = c.hold_place-from.ensures.place in
    let known = i.from in
    done c.args.seat.now c.loop.seat c.hold_sync-hold.new.seat c.args.caller event [] c.hold_sync-hold.result.moved c.hold_sync-hold.result.place i.seat i.quietly c.hold_sync-hold.ensures.held
    c.in-Done.answer (IsSync c.args.caller c.args.node c.args.keep (place_of c.args.seat.now.seen)) (c.in_ok-answer.was ∙ ap Ok c.in-Done.is)
    (λ before later. record { from = c.hold_place-from.result; least_is = omega arith; reached = omega arith; is = refl })

pub returns-in-Done-clause-done : goal.returns-in-Done-clause-done
returns-in-Done-clause-done g c = IfOk-at_ok _ (c.in_ok-answer.was ∙ ap Ok c.in-Done.is) c.hold_sync-hold.ensures.done c.in-Done.answer refl

pub loop-preserved-in-Stepped-3 : goal.loop-preserved-in-Stepped-3
loop-preserved-in-Stepped-3 g c =
    let i = c.loop.invariant in
    let event = sync_of c.args.caller c.args.node c.hold_place-from.result c.args.keep in
    let quietly = again c.args.seat.now c.loop.seat c.hold_sync-hold.new.seat c.args.caller event [] c.hold_sync-hold.result.moved c.hold_sync-hold.result.place i.seat i.quietly c.hold_sync-hold.ensures.held
    c.in_ok-answer.field-0 c.in_ok-answer.was (λ answer is. cc (is, c.in-Stepped.is)) in
    record {
      can = tt;
      finite = tt;
      seat = same_then c.args.seat.now c.loop.seat c.hold_sync-hold.new.seat i.seat c.hold_sync-hold.ensures.seat;
      quietly = quietly;
      from = (let known = i.from in let later = held_later c.loop.seat.first c.loop.seat.end c.args.caller event c.loop.seat.seen c.hold_sync-hold.new.seat.seen [] c.hold_sync-hold.result.moved c.hold_sync-hold.result.place c.hold_sync-hold.ensures.held in omega arith);
    }

pub loop-preserved : goal.loop-preserved
loop-preserved g c =
    let i = c.loop.invariant in
    let event = sync_of c.args.caller c.args.node c.hold_place-from.result c.args.keep in
    let quietly = again c.args.seat.now c.loop.seat c.hold_sync-hold.new.seat c.args.caller event [] c.hold_sync-hold.result.moved c.hold_sync-hold.result.place i.seat i.quietly c.hold_sync-hold.ensures.held
    c.in_ok-answer.field-0 c.in_ok-answer.was (λ answer is. cc (is, c.in-Busy.is)) in
    record {
      can = tt;
      finite = tt;
      seat = same_then c.args.seat.now c.loop.seat c.hold_sync-hold.new.seat i.seat c.hold_sync-hold.ensures.seat;
      quietly = quietly;
      from = (let known = i.from in let later = held_later c.loop.seat.first c.loop.seat.end c.args.caller event c.loop.seat.seen c.hold_sync-hold.new.seat.seen [] c.hold_sync-hold.result.moved c.hold_sync-hold.result.place c.hold_sync-hold.ensures.held in omega arith);
    }
