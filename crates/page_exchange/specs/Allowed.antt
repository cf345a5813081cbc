-- What the two tables of a node and its parent allow of a message about the node.
use Rattle.std.specs.Prelude.{◌≡◌, ◌≢◌, ℕ, Bool, true, false}
use Rattle.tower_core.specs.TreeShape.{TreeShape, parent, IsUpper}
use Rattle.tower_core.specs.declared.right.Right.{Right}
use Rattle.layer_laws.specs.Side.{Side}
use Rattle.page_messages.specs.declared.kinds.Asked.{Asked}
use Rattle.page_messages.specs.declared.kinds.Called.{Called}
use Rattle.page_messages.specs.Rules.{MayAsk, MayServe, MayCall, MayObey, NoKidHolds, NoKidWrites}

-- the question for a grant
abbrev pub grant_asked : Bool → Asked
grant_asked true = Asked.PageInWrite
grant_asked false = Asked.PageInRead

-- the node may ask, and its parent may serve it, with data or without. The ground has no table
pub record AllowAsking (shape : TreeShape) (sides : ℕ → Side) (node : ℕ) (full : Bool) (what : Asked) : Type 0 where
  pub own : MayAsk (sides node) what
  pub above : IsUpper shape (parent shape node) → MayServe (sides (parent shape node)) node full what

-- the parent may order, and the node may obey
pub record AllowCalling (shape : TreeShape) (sides : ℕ → Side) (node : ℕ) (what : Called) : Type 0 where
  pub own : MayObey (sides node) what
  pub above : IsUpper shape (parent shape node) → MayCall (sides (parent shape node)) node what

-- the node may read its copy, and write it
pub record AllowsReading (s : Side) : Type 0 where
  pub right : s.right ≢ Right.Nothing
  pub kids : NoKidWrites s

pub record AllowsWriting (s : Side) : Type 0 where
  pub right : s.right ≡ Right.Write
  pub kids : NoKidHolds s
