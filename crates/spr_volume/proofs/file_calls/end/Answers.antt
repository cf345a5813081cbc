use Rattle.std.proofs.Common.{Ok, [], refl, ap, ◌∙◌}
use Rattle.std.proofs.lemmas.Result.{err_from_is_err_and, IfOk-at_ok}
use Rattle.spr_volume.specs.TowerCalls.{end_of}
use Rattle.spr_volume.specs.FileCalls.{IsEnd}
use Rattle.spr_volume.proofs.Holding.{again, done, refused, same_then}
use Rattle.spr_volume.proofs.file_calls.end.Goals as goal

pub returns-in_err-answer-clause-called : goal.returns-in_err-answer-clause-called
returns-in_err-answer-clause-called g c =
    let i = c.loop.invariant in
    let event = end_of c.args.caller c.args.node c.args.end in
    let p = err_from_is_err_and c.from_residual.result c.from_residual.ensures.1 in
    rw (p.1, p.2) (refused c.args.seat.now c.loop.seat c.hold_end-hold.new.seat c.args.caller event [] c.hold_end-hold.result.moved c.hold_end-hold.result.place i.seat i.quietly c.hold_end-hold.ensures.held
    c.in_err-answer.field-0.0 (IsEnd c.args.caller c.args.node c.args.end) c.in_err-answer.was)

pub returns-in-Done-clause-called : goal.returns-in-Done-clause-called
returns-in-Done-clause-called g c =
    let i = c.loop.invariant in
    let event = end_of c.args.caller c.args.node c.args.end in
    done c.args.seat.now c.loop.seat c.hold_end-hold.new.seat c.args.caller event [] c.hold_end-hold.result.moved c.hold_end-hold.result.place i.seat i.quietly c.hold_end-hold.ensures.held
    c.in-Done.answer (IsEnd c.args.caller c.args.node c.args.end) (c.in_ok-answer.was ∙ ap Ok c.in-Done.is) (λ before later. refl)

pub loop-preserved-in-Stepped-3 : goal.loop-preserved-in-Stepped-3
loop-preserved-in-Stepped-3 g c =
    let i = c.loop.invariant in
    let event = end_of c.args.caller c.args.node c.args.end in
    record {
      can = tt;
      finite = tt;
      seat = same_then c.args.seat.now c.loop.seat c.hold_end-hold.new.seat i.seat c.hold_end-hold.ensures.seat;
      quietly = again c.args.seat.now c.loop.seat c.hold_end-hold.new.seat c.args.caller event [] c.hold_end-hold.result.moved c.hold_end-hold.result.place i.seat i.quietly c.hold_end-hold.ensures.held
          c.in_ok-answer.field-0 c.in_ok-answer.was (λ answer is. cc (is, c.in-Stepped.is));
    }

pub loop-preserved : goal.loop-preserved
loop-preserved g c =
    let i = c.loop.invariant in
    let event = end_of c.args.caller c.args.node c.args.end in
    record {
      can = tt;
      finite = tt;
      seat = same_then c.args.seat.now c.loop.seat c.hold_end-hold.new.seat i.seat c.hold_end-hold.ensures.seat;
      quietly = again c.args.seat.now c.loop.seat c.hold_end-hold.new.seat c.args.caller event [] c.hold_end-hold.result.moved c.hold_end-hold.result.place i.seat i.quietly c.hold_end-hold.ensures.held
          c.in_ok-answer.field-0 c.in_ok-answer.was (λ answer is. cc (is, c.in-Busy.is));
    }

pub returns-in-Done-clause-done : goal.returns-in-Done-clause-done
returns-in-Done-clause-done g c = IfOk-at_ok _ (c.in_ok-answer.was ∙ ap Ok c.in-Done.is) c.hold_end-hold.ensures.done c.in-Done.answer refl
