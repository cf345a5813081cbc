use Rattle.std.proofs.Common.{ap}
use Rattle.hist_lock.proofs.SampleLemmas.{on_ok, on_err, entered, none_entered}
use Rattle.hist_lock.proofs.sample.enter.Goals as goal

pub returns-clause-made : goal.returns-clause-made
returns-clause-made g c = on_ok c.enter-done.result _ _
    (entered c.args.seat.now c.args.caller c.args.number c.take-roll.result.calls.items c.enter-done.new.self.calls.items c.give.new.seat.seen c.requires.caller.0 c.requires.caller.1 c.take-roll.ensures.list (ap (λ k. k.seen) c.give.ensures))
    c.enter-done.ensures.ok

pub returns-clause-err : goal.returns-clause-err
returns-clause-err g c = on_err c.enter-done.result _ _
    (none_entered c.args.seat.now c.take-roll.result.calls.items c.enter-done.new.self.calls.items c.give.new.seat.seen c.take-roll.ensures.list (ap (λ k. k.seen) c.give.ensures))
    c.enter-done.ensures.err
