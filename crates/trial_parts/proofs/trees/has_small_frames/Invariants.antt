use Rattle.std.proofs.Common.{ℕ, ◌<◌, ◌≤◌}
use Rattle.tower_core.specs.TreeShape.{frames_of}
use Rattle.trial_parts.proofs.trees.has_small_frames.Given as goal

-- the nodes so far have few frames
abbrev pub invariant-loop-node : goal.invariant-loop-node
invariant-loop-node l = (k : ℕ) → k < l.node → frames_of l.tree k ≤ 1024
