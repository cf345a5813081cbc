use Rattle.std.proofs.Common.{◌≤◌}
use Rattle.trial_run.proofs.written.Written.times.Given as goal

abbrev pub invariant-loop-start : goal.invariant-loop-start
invariant-loop-start l = l.count ≤ l.start
