use Rattle.std.proofs.Common.{◌≡◌}
use Rattle.rust_tests.proofs.volumes.open_often.Given as goal

-- the tower is the one that was handed in
abbrev pub invariant-loop-time : goal.invariant-loop-time
invariant-loop-time l = l.shared.began ≡ l.fn.shared.began
