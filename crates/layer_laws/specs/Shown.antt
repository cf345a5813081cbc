-- The nodes' own tables of one page, and what a trail says of the page.
use Rattle.std.specs.Prelude.{◌≡◌, ◌≢◌, ℕ, Bool, not, ◌==◌, List}
use Rattle.tower_core.specs.declared.right.Right.{Right}
use Rattle.tower_core.specs.TreeShape.{TreeShape, parent, IsUpper, IsChild}
use Rattle.tower_core.specs.Column.{Column}
use Rattle.layer_laws.specs.Side.{Side}

abbrev pub differs : ℕ → ℕ → Bool
differs a b = not (a == b)

-- THE RIGHTS: each node's table has its own right, its children's, and whether its copy is changed: whether its place is
-- another than its parent's. This says nothing of bytes
pub record AreRights (shape : TreeShape) (col : Column) (sides : ℕ → Side) : Type 0 where
  pub right : (node : ℕ) → IsUpper shape node → (sides node).right ≡ col.right node
  pub changed : (node : ℕ) → IsUpper shape node → col.right node ≢ Right.Nothing → (sides node).changed ≡ differs (col.at node) (col.at (parent shape node))
  pub kids : (node child : ℕ) → IsUpper shape node → IsChild shape child node → (sides node).kids child ≡ col.right child
  -- nobody else has a right in the table
  pub strays : (node child : ℕ) → IsUpper shape node → (sides node).kids child ≢ Right.Nothing → IsChild shape child node

-- THE BYTES: each copy is the page at its own place, and the ground's page is the one at the ground's place. `content k`
-- is the page at place k
pub record AreCopies (shape : TreeShape) (col : Column) (content : ℕ → List ℕ) (sides : ℕ → Side) (base : List ℕ) : Type 0 where
  pub copy : (node : ℕ) → IsUpper shape node → col.right node ≢ Right.Nothing → (sides node).copy ≡ content (col.at node)
  pub ground : base ≡ content (col.at 0)
