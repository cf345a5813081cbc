use Rattle.std.proofs.lemmas.Result.{err_from_is_err_and}
use Rattle.sub_replicon.proofs.DomainLaws.{held_more, leave_more, stops_at}
use Rattle.sub_replicon.proofs.held.take_out_all.Goals as goal

pub returns-in_err-take_out-clause-why : goal.returns-in_err-take_out-clause-why
returns-in_err-take_out-clause-why c =
    let p = err_from_is_err_and c.from_residual.result c.from_residual.ensures.1 in
    rw (p.1, p.2, c.in_err-take_out.ensures.err)
    (stops_at
    c.args.ids.now
    c.loop-id.id-index
    c.args.domain.now
    c.loop-id.domain
    c.in_err-take_out.field-0.0
    c.loop-id-test.true
    c.requires
    c.loop-id.invariant.held
    c.loop-id.invariant.leave
    c.in_err-take_out.ensures.value)

pub loop-id-preserved : goal.loop-id-preserved
loop-id-preserved c =
    let ids = c.args.ids.now in
    let i = c.loop-id.id-index in
    record {
      held = held_more ids i c.args.domain.now c.loop-id.domain c.in_ok-take_out.field-0 c.loop-id-test.true c.requires c.loop-id.invariant.held c.loop-id.invariant.leave c.in_ok-take_out.ensures.value;
      leave = leave_more ids i c.args.domain.now c.loop-id.domain c.take_out.new.self c.loop-id-test.true c.requires c.loop-id.invariant.leave c.in_ok-take_out.ensures.updates;
    }
