use Rattle.std.proofs.Common.{◌+◌, ◌-◌, ◌*◌}
use Rattle.hist_lock.proofs.sample.+enter_all+fn-enter_all-join_mut+arg2+fn-enter_all-join_mut+arg3.Given as goal

abbrev pub decreases-enter_all : goal.decreases-enter_all
decreases-enter_all g l = 2 * (l.end - l.first)

abbrev pub decreases-join_mut+arg2 : goal.decreases-join_mut+arg2
decreases-join_mut+arg2 g l = 2 * (l.at - l.first) + 1

abbrev pub decreases-join_mut+arg3 : goal.decreases-join_mut+arg3
decreases-join_mut+arg3 g l = 2 * (l.end - l.at) + 1
