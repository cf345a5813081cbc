use Rattle.std.proofs.Common.{◌+◌, ◌-◌, ◌/◌, rules}
use Rattle.hist_lock.proofs.SampleLemmas.{both_made}
use Rattle.hist_lock.proofs.sample.+enter_all+fn-enter_all-join_mut+arg2+fn-enter_all-join_mut+arg3.Goals as goal

pub returns-clause-made : goal.returns-clause-made
returns-clause-made g t c =
    both_made _ _ _ _ _ _ c.join_mut-low.result.0 c.join_mut-low.result.1 c.in_ok-low.field-0 c.args.first (c.args.first + (c.args.end - c.args.first) / 2) c.args.end c.args.count
    c.split.new.seat.seen c.unwrap-other.result.seen c.args.seat.now.seen c.meet.new.seat.seen c.meet.ensures.this c.meet.ensures.that
    (search rules) (search rules) (search rules) (search rules) (search rules) (search rules) (search rules) (search rules) (search rules)
