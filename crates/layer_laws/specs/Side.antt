-- One page in a node's own table, and what a message or an access makes of it.
use Rattle.std.specs.Prelude.{ℕ, Bool, true, false, List, Option, Some, None}
use Rattle.tower_core.specs.declared.right.Right.{Right}
use Rattle.tower_core.specs.Column.{updated}

-- one page in a node's own table
pub record Side : Type 0 where
  -- what the node may do with the page
  pub right : Right
  -- its copy of the page, where it may do anything
  pub copy : List ℕ
  -- whether the copy may differ from what its parent's shows
  pub changed : Bool
  -- what each child may do
  pub kids : ℕ → Right

-- the bytes after a message that brings some, or none
abbrev pub brought : Option (List ℕ) → List ℕ → List ℕ
brought None old = old
brought (Some bytes) old = bytes

-- a copy is changed once bytes came up from a child
abbrev pub marked : Option (List ℕ) → Bool → Bool
marked None old = old
marked (Some bytes) old = true

-- after a message about the node itself, which brought these bytes down: its copy shows what its parent's does
abbrev pub own_after : Right → Option (List ℕ) → Side → Side
own_after right down s = record { right = right; copy = brought down s.copy; changed = false; kids = s.kids }

-- after a message about a child, which brought these bytes up: the table has the child's right
abbrev pub kid_after : ℕ → Right → Option (List ℕ) → Side → Side
kid_after child right up s = record { right = s.right; copy = brought up s.copy; changed = marked up s.changed; kids = updated s.kids child right }

-- after a write or a clear at the node, which left these bytes
abbrev pub written : List ℕ → Side → Side
written bytes s = record { right = s.right; copy = bytes; changed = true; kids = s.kids }
