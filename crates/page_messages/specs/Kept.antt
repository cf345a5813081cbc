-- What holds of each page of a node's table.
use Rattle.std.specs.Prelude.{◌≡◌, ◌≢◌, ◌<◌, ℕ, length}
use Rattle.tower_core.specs.declared.right.Right.{Right}
use Rattle.layer_laws.specs.Side.{Side}
use Rattle.page_messages.specs.Masks.{IsIn}

-- a page has so many bytes, and these are the children
pub record IsKept (page_size children : ℕ) (s : Side) : Type 0 where
  -- who may do anything has a page
  pub held : s.right ≢ Right.Nothing → length s.copy ≡ page_size
  -- bytes that are kept without a right, for their room, are a page
  pub room : 0 < length s.copy → length s.copy ≡ page_size
  -- who has nothing gave nothing
  pub capped : (child : ℕ) → s.kids child ≢ Right.Nothing → s.right ≢ Right.Nothing
  -- only children have rights
  pub known : (child : ℕ) → s.kids child ≢ Right.Nothing → IsIn children child
