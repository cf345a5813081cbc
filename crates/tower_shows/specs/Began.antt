-- What the tables of a file's nodes, and the pages of its ground, have to do with the trail.
use Rattle.std.specs.Prelude.{◌≡◌, ℕ, ◌*◌, ◌<◌, List, length, slice_get, Option, Some, IfSome, IsSome}
use Rattle.std.specs.List.{AllByRecursion}
use Rattle.hist_plain.specs.declared.event.Event.{Event}
use Rattle.hist_plain.specs.History.{page_in}
use Rattle.tower_core.specs.declared.step.Step.{Step}
use Rattle.tower_core.specs.TreeShape.{TreeShape, IsTree}
use Rattle.tower_core.specs.Trail.{IsAllowed, IsRun, of_page, start, state_of, step_of}
use Rattle.tower_core.specs.Legal.{FitsFile, IsLegal, shown}
use Rattle.layer_laws.specs.Side.{Side}
use Rattle.layer_laws.specs.Tables.{AreAllCopies, AreAllRights}
use Rattle.layer_laws.specs.PlacesShown.{page_shown}
use Rattle.page_exchange.specs.Ground.{Tells}

-- THE RIGHTS: each event stays in the file and was allowed where it stands, and the rights in the tables are those of
-- the trail. This says nothing of bytes
pub record IsTrueTo (shape : TreeShape) (size pages : ℕ) (trail : List Event) (sides : ℕ → ℕ → Side) : Type 0 where
  pub tree : IsTree shape
  pub run : IsRun shape pages start trail
  pub fits : AllByRecursion (FitsFile size pages) trail
  pub rights : AreAllRights shape trail sides

-- the event stays in the file and may come next
pub record IsNextIn (shape : TreeShape) (size pages : ℕ) (trail : List Event) (event : Event) : Type 0 where
  pub fits : FitsFile size pages event
  pub allowed : IsAllowed shape pages (state_of shape trail) event

-- a page as the ground shows it
abbrev pub ground_shown : TreeShape → ℕ → List ℕ → List Event → ℕ → List ℕ
ground_shown shape size opening trail page = shown shape size opening trail 0 page

-- these are the pages of the file, in order
pub record ArePagesOf (size pages : ℕ) (opening : List ℕ) (told : List (List ℕ)) : Type 0 where
  pub many : length told ≡ pages
  pub each : (page : ℕ) → page < pages → slice_get told page ≡ Some (page_in size opening page)

-- THE BYTES, where the ground tells its pages: the trail is legal over the file that began with these bytes, each copy is
-- the page at its node's place, and each page of the ground is the one at the ground's place
pub record BeganWith (shape : TreeShape) (size pages : ℕ) (opening : List ℕ) (trail : List Event) (sides : ℕ → ℕ → Side) (told : Option (List (List ℕ))) : Type 0 where
  pub sized : length opening ≡ pages * size
  pub legal : IsLegal shape size pages opening trail
  pub copies : AreAllCopies shape trail (page_shown shape size opening trail) sides (ground_shown shape size opening trail)
  pub is_told : IsSome told
  pub many : IfSome told (λ ps. length ps ≡ pages)
  pub ground : Tells told (ground_shown shape size opening trail)

-- the event is this step on this page, and none on any other
abbrev pub IsStepOn : TreeShape → List Event → Event → ℕ → Step → Type 0
IsStepOn shape trail event page step = (p : ℕ) → step_of (state_of shape trail).life p event ≡ of_page p page step

-- no table differs
abbrev pub AreSame : (ℕ → ℕ → Side) → (ℕ → ℕ → Side) → Type 0
AreSame old new = (page node : ℕ) → new page node ≡ old page node
