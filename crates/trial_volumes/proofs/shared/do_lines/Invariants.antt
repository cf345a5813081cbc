use Rattle.std.proofs.Common.{◌≡◌}
use Rattle.trial_volumes.proofs.shared.do_lines.Given as goal

-- the tower is the one that was handed in
abbrev pub invariant-loop-line : goal.invariant-loop-line
invariant-loop-line l = l.shared.began ≡ l.fn.shared.began
