-- The nodes' own tables of all pages, along a trail.
use Rattle.std.specs.Prelude.{◌≡◌, ℕ, ◌+◌, ◌≤◌, List, length, Option}
use Rattle.hist_plain.specs.declared.event.Event.{Event}
use Rattle.tower_core.specs.declared.right.Right.{Right}
use Rattle.tower_core.specs.TreeShape.{TreeShape}
use Rattle.tower_core.specs.Trail.{state_of, step_of}
use Rattle.layer_laws.specs.Side.{Side}
use Rattle.layer_laws.specs.Shown.{AreRights, AreCopies}
use Rattle.layer_laws.specs.Sent.{AreSent, IsGrounded, AreBrought}

-- the tables are by page and node, the ground's bytes by page, and what the places show by page and place

-- the rights in the tables are those of the trail
abbrev pub AreAllRights : TreeShape → List Event → (ℕ → ℕ → Side) → Type 0
AreAllRights shape trail sides = (page : ℕ) → AreRights shape ((state_of shape trail).column page) (sides page)

-- the copies, and the ground's pages, are those of the trail
abbrev pub AreAllCopies : TreeShape → List Event → (ℕ → ℕ → List ℕ) → (ℕ → ℕ → Side) → (ℕ → List ℕ) → Type 0
AreAllCopies shape trail content sides base = (page : ℕ) → AreCopies shape ((state_of shape trail).column page) (content page) (sides page) (base page)

-- the event moves the tables: on each page by the step that it is there, which on all pages but its own is none
abbrev pub AreMoved : TreeShape → List Event → Event → Option (List ℕ) → (ℕ → ℕ → Side) → (ℕ → ℕ → Side) → Type 0
AreMoved shape trail event brings old new = (page : ℕ) → AreSent shape brings (step_of (state_of shape trail).life page event) (old page) (new page)

-- the bytes that the event moves, and those at the place after it; what earlier places show stays
pub record AreBytesMoved (shape : TreeShape) (trail : List Event) (event : Event) (brings : Option (List ℕ)) (content content' : ℕ → ℕ → List ℕ) (old : ℕ → ℕ → Side) (base base' : ℕ → List ℕ) : Type 0 where
  pub ground : (page : ℕ) → IsGrounded shape (step_of (state_of shape trail).life page event) (old page) (base page) (base' page)
  pub bytes : (page : ℕ) → AreBrought shape brings (step_of (state_of shape trail).life page event) (old page) (base page) (content' page (length trail + 1))
  pub earlier : (page place : ℕ) → place ≤ length trail → content' page place ≡ content page place

-- nobody but the ground has anything
pub record AreBare (sides : ℕ → ℕ → Side) : Type 0 where
  pub right : (page node : ℕ) → (sides page node).right ≡ Right.Nothing
  pub kids : (page node child : ℕ) → (sides page node).kids child ≡ Right.Nothing
