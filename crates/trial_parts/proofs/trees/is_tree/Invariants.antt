use Rattle.std.proofs.Common.{ℕ, ◌<◌}
use Rattle.trial_parts.specs.Trees.{Hangs}
use Rattle.trial_parts.proofs.trees.is_tree.Given as goal

-- the nodes so far hang well
abbrev pub invariant-loop-node : goal.invariant-loop-node
invariant-loop-node l = (k : ℕ) → 0 < k → k < l.node → Hangs l.parents l.frames k
