use Rattle.std.proofs.Common.{rules, arith}
use Rattle.hist_lock.proofs.SampleLemmas.{made_none, made_next, made_few, same_then, on_err_of}
use Rattle.hist_lock.proofs.sample.enter_many.Goals as goal

pub loop-number-init : goal.loop-number-init
loop-number-init g c = record { seat = search rules; made = made_none c.args.caller c.args.seat.now.seen }

pub loop-number-preserved : goal.loop-number-preserved
loop-number-preserved g c = record {
  seat = same_then c.args.seat.now c.loop-number.seat c.enter.new.seat c.loop-number.invariant.seat c.in_ok-enter.ensures.seat;
  made = made_next c.args.caller c.loop-number.number c.args.seat.now.seen c.loop-number.seat.seen c.enter.new.seat.seen c.loop-number.invariant.made c.in_ok-enter.ensures.made;
}

pub returns-in_err-enter-clause-err : goal.returns-in_err-enter-clause-err
returns-in_err-enter-clause-err g c =
    on_err_of c.from_residual.result _
    (made_few c.args.caller c.loop-number.number c.args.count c.loop-number.seat.first c.loop-number.seat.end c.args.seat.now.seen c.loop-number.seat.seen c.enter.new.seat.seen
    (omega arith) (omega (arith, c.loop-number.invariant.seat.first)) (omega (arith, c.loop-number.invariant.seat.end)) c.loop-number.invariant.made c.in_err-enter.ensures.err)
