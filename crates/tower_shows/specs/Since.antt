-- Pages as they were from a place on: what a completed sync says of the ground and of each disk.
use Rattle.std.specs.Prelude.{◌≡◌, ℕ, ◌<◌, ◌≤◌, List, length, slice_get, Some}
use Rattle.hist_plain.specs.declared.event.Event.{Event}
use Rattle.tower_core.specs.TreeShape.{TreeShape}
use Rattle.tower_core.specs.Trail.{at_of}
use Rattle.layer_laws.specs.PlacesShown.{page_shown}

-- these bytes are the page as it was at a place from this one on
pub record IsSince (shape : TreeShape) (size : ℕ) (opening : List ℕ) (trail : List Event) (from page : ℕ) (bytes : List ℕ) : Type 0 where
  pub place : ℕ
  pub not_before : from ≤ place
  pub not_after : place ≤ length trail
  pub is : bytes ≡ page_shown shape size opening trail page place

-- each of these pages is so
abbrev pub AreSince : TreeShape → ℕ → List ℕ → List Event → ℕ → List (List ℕ) → Type 0
AreSince shape size opening trail from told = (page : ℕ) (bytes : List ℕ) → slice_get told page ≡ Some bytes → IsSince shape size opening trail from page bytes

-- so is each page of the ground, and each that a message may bring it later: what any place shows that is not before the
-- ground's own
abbrev pub GroundIsSince : TreeShape → ℕ → ℕ → List ℕ → List Event → ℕ → Type 0
GroundIsSince shape size pages opening trail from = (page place : ℕ) → page < pages → at_of shape trail 0 page ≤ place → place ≤ length trail
    → IsSince shape size opening trail from page (page_shown shape size opening trail page place)
