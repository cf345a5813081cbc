use Rattle.std.proofs.Common.{◌≡◌, ◌<◌}
use Rattle.tower_core.specs.TreeShape.{is_within, nodes}
use Rattle.tower_core.proofs.tree.Tree.within.Given as goal

abbrev pub invariant-loop-at : goal.invariant-loop-at
invariant-loop-at l = (l.at < nodes l.self) × (is_within l.fn.self l.fn.node l.fn.top ≡ is_within l.self l.at l.top)

abbrev pub decreases-loop-at : goal.decreases-loop-at
decreases-loop-at l = l.at
