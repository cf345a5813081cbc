use Rattle.std.proofs.Common.{◌≡◌, ◌<◌, ◌≤◌, ℕ, length, get_or}
use Rattle.tower_plan.specs.Plan.{depth_of}
use Rattle.tower_plan.proofs.table.depths.Given as goal

abbrev pub invariant-loop-node : goal.invariant-loop-node
invariant-loop-node l = record {
  len : length l.depths ≡ 32;
  done : (n : ℕ) → n < l.node → get_or l.depths n 0 ≡ depth_of l.tree n;
  low : (n : ℕ) → n < l.node → get_or l.depths n 0 ≤ n;
}
