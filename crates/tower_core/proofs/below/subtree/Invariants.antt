use Rattle.std.proofs.Common.{◌≡◌, ◌<◌, ℕ, false, length, get_or}
use Rattle.tower_core.specs.TreeShape.{is_within}
use Rattle.tower_core.proofs.below.subtree.Given as goal

abbrev pub invariant-loop-node : goal.invariant-loop-node
invariant-loop-node l = record {
  len : length l.within ≡ 32;
  done : (n : ℕ) → n < l.node → get_or l.within n false ≡ is_within l.tree n l.top;
}
