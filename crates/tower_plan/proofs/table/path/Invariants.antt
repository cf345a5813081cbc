use Rattle.std.proofs.Common.{◌≡◌, ◌<◌, ℕ, false, length, get_or, ◌||◌}
use Rattle.tower_core.specs.TreeShape.{is_within, nodes}
use Rattle.tower_plan.proofs.table.path.Given as goal

abbrev pub invariant-loop-at : goal.invariant-loop-at
invariant-loop-at l = record {
  len : length l.on ≡ 32;
  inside : l.at < nodes l.tree;
  done : (n : ℕ) → n < nodes l.tree → (get_or l.on n false || is_within l.tree l.at n) ≡ is_within l.tree l.node n;
}

abbrev pub decreases-loop-at : goal.decreases-loop-at
decreases-loop-at l = l.at
