use Rattle.std.proofs.Common.{◌≡◌, ◌<◌, ℕ}
use Rattle.tower_core.specs.declared.right.Right.{Right}
use Rattle.tower_core.specs.TreeShape.{parent}
use Rattle.tower_core.specs.Page.{cell_of}
use Rattle.tower_core.proofs.page.Page.no_child_holds.Given as goal

abbrev pub invariant-loop-child : goal.invariant-loop-child
invariant-loop-child l = (c : ℕ) → 0 < c → c < l.child → parent l.tree c ≡ l.node → (cell_of l.self c).right ≡ Right.Nothing
