use Rattle.std.proofs.Common.{◌≡◌, take}
use Rattle.trial_parts.proofs.trees.copy_tree.Given as goal

-- the lists have what the tree's have at the nodes so far
abbrev pub invariant-loop-node : goal.invariant-loop-node
invariant-loop-node l = record {
  parents : l.parents.items ≡ take l.node l.tree.parents;
  frames : l.frames.items ≡ take l.node l.tree.frames;
}
