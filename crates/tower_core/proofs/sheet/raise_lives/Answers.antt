use Rattle.std.proofs.Common.{◌<◌, ◌≤◌, ◌⊎◌, inl, inr, arith, ℕ}
use Rattle.tower_core.specs.TreeShape.{nodes}
use Rattle.tower_core.proofs.Paths.{is_within-beyond}
use Rattle.tower_core.proofs.sheet.raise_lives.Goals as goal

below_or_not : (a b : ℕ) → (a < b) ⊎ (b ≤ a)
below_or_not a b = grind arith

pub returns : goal.returns
returns c = λ n. elim (below_or_not n (nodes c.args.tree.now)) [
  | inl inside ↦ c.loop-node.invariant.done n (omega arith)
  | inr beyond ↦ rw (is_within-beyond c.args.tree.now n c.args.top c.nodes-node-end.ensures.tree beyond c.requires.upper) (c.loop-node.invariant.ahead n (omega arith))
]
