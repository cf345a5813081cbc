-- What a step makes of the nodes' own tables of one page.
use Rattle.std.specs.Prelude.{◌≡◌, ◌≢◌, ℕ, ◌<◌, ◌==◌, Bool, true, false, if◌then◌else◌, List, Option, Some, None}
use Rattle.tower_core.specs.declared.right.Right.{Right}
use Rattle.tower_core.specs.declared.step.Step.{Step}
use Rattle.tower_core.specs.declared.step.Step.TheVariants.{Untouched, Reads, Writes, Grants, PagesOut, Denies, Pushes, Flushes, Deletes}
use Rattle.tower_core.specs.TreeShape.{TreeShape, parent, IsUpper}
use Rattle.layer_laws.specs.Side.{Side, brought, own_after, kid_after, written}

-- what the parent of a node has: its copy, or the ground's page
abbrev pub page_above : TreeShape → (ℕ → Side) → List ℕ → ℕ → List ℕ
page_above shape sides base node = if parent shape node == 0 then base else (sides (parent shape node)).copy

-- a grant brings the bytes down to a node that has none
abbrev pub down_for : Right → List ℕ → Option (List ℕ)
down_for Right.Nothing page = Some page
down_for right page = None

-- a push brings the bytes up where they are changed
abbrev pub up_for : Bool → List ℕ → Option (List ℕ)
up_for true page = Some page
up_for false page = None

abbrev pub pushed_by : Side → Option (List ℕ)
pushed_by s = up_for s.changed s.copy

abbrev pub granted : Bool → Right
granted true = Right.Write
granted false = Right.Read

-- no table changed
abbrev pub AreStill : (ℕ → Side) → (ℕ → Side) → Type 0
AreStill old new = (node : ℕ) → new node ≡ old node

-- the node wrote these bytes, and no other table changed
pub record AreWritten (node : ℕ) (bytes : List ℕ) (old new : ℕ → Side) : Type 0 where
  pub own : new node ≡ written bytes (old node)
  pub others : (m : ℕ) → m ≢ node → new m ≡ old m

-- A MESSAGE about the node and its answer: the node's table takes its part, so does its parent's, and no other changes
pub record AreExchanged (shape : TreeShape) (node : ℕ) (right : Right) (down up : Option (List ℕ)) (old new : ℕ → Side) : Type 0 where
  pub own : new node ≡ own_after right down (old node)
  pub above : IsUpper shape (parent shape node) → new (parent shape node) ≡ kid_after node right up (old (parent shape node))
  pub others : (m : ℕ) → m ≢ node → m ≢ parent shape node → new m ≡ old m

-- THE STEP at the nodes: what moves their tables. `brings` is what a grant brings down, and what a write leaves
abbrev pub AreSent : TreeShape → Option (List ℕ) → Step → (ℕ → Side) → (ℕ → Side) → Type 0
AreSent shape brings Untouched old new = AreStill old new
AreSent shape brings (Reads node) old new = AreStill old new
AreSent shape brings (Writes node) old new = AreWritten node (brought brings (old node).copy) old new
AreSent shape brings (Grants node write) old new = AreExchanged shape node (granted write) brings None old new
AreSent shape brings (PagesOut node) old new = AreExchanged shape node Right.Nothing None (pushed_by (old node)) old new
AreSent shape brings (Denies node) old new = AreExchanged shape node Right.Read None (pushed_by (old node)) old new
AreSent shape brings (Pushes node) old new = AreExchanged shape node Right.Write None (pushed_by (old node)) old new
AreSent shape brings (Flushes node) old new = AreExchanged shape node Right.Nothing None (pushed_by (old node)) old new
AreSent shape brings (Deletes node) old new = AreExchanged shape node Right.Nothing None None old new

-- the ground's page, after a push to it or to a node
pub record IsPushed (shape : TreeShape) (node : ℕ) (up : Option (List ℕ)) (base base' : List ℕ) : Type 0 where
  pub to_ground : parent shape node ≡ 0 → base' ≡ brought up base
  pub to_node : 0 < parent shape node → base' ≡ base

-- THE STEP at the ground
abbrev pub IsGrounded : TreeShape → Step → (ℕ → Side) → List ℕ → List ℕ → Type 0
IsGrounded shape (PagesOut node) old base base' = IsPushed shape node (pushed_by (old node)) base base'
IsGrounded shape (Denies node) old base base' = IsPushed shape node (pushed_by (old node)) base base'
IsGrounded shape (Pushes node) old base base' = IsPushed shape node (pushed_by (old node)) base base'
IsGrounded shape (Flushes node) old base base' = IsPushed shape node (pushed_by (old node)) base base'
IsGrounded shape step old base base' = base' ≡ base

-- THE BYTES of the step: a grant brings what the parent has, and a write leaves the page at the place after it
abbrev pub AreBrought : TreeShape → Option (List ℕ) → Step → (ℕ → Side) → List ℕ → List ℕ → Type 0
AreBrought shape brings (Grants node write) old base next = brings ≡ down_for (old node).right (page_above shape old base node)
AreBrought shape brings (Writes node) old base next = next ≡ brought brings (old node).copy
AreBrought shape brings step old base next = Unit {0}
