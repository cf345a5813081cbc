-- A sheet that a trail of allowed events reaches: what a plan asks of it.
use Rattle.std.specs.Prelude.{◌≡◌, ℕ}
use Rattle.tower_core.specs.declared.right.Right.{Right}
use Rattle.tower_core.specs.declared.sheet.Sheet.{Sheet}
use Rattle.tower_core.specs.TreeShape.{TreeShape, nodes}
use Rattle.tower_core.specs.Trail.{IsCoherentState}
use Rattle.tower_core.specs.Sheet.{nodes_of, pages_of, seen}

pub record IsReached (shape : TreeShape) (sheet : Sheet) : Type 0 where
  pub same_tree : nodes_of sheet ≡ nodes shape
  pub coherent : IsCoherentState shape (pages_of sheet) (seen sheet)
  pub ground : (page : ℕ) → ((seen sheet).column page).right 0 ≡ Right.Write
