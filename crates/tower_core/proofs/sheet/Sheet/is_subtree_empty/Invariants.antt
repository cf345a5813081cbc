use Rattle.std.proofs.Common.{◌≡◌, ◌<◌, ℕ, true}
use Rattle.tower_core.specs.TreeShape.{is_within}
use Rattle.tower_core.specs.Trail.{HoldsNothing}
use Rattle.tower_core.specs.Sheet.{seen, pages_of}
use Rattle.tower_core.proofs.sheet.Sheet.is_subtree_empty.Given as goal

abbrev pub invariant-loop-node : goal.invariant-loop-node
invariant-loop-node l = (node : ℕ) → node < l.node → is_within l.tree node l.top ≡ true → HoldsNothing (pages_of l.self) (seen l.self) node
