-- Trees of which one layer alone stands on the ground, and pages that are read from the ground again.
use Rattle.std.specs.Prelude.{◌≡◌, ℕ, ◌==◌, ◌&&◌, ◌||◌, Bool, true, false, List, [], ◌∷◌, take, slice_get, Some}
use Rattle.hist_plain.specs.declared.event.Event.{Event}
use Rattle.hist_plain.specs.declared.event.Event.TheVariants as events
use Rattle.tower_core.specs.TreeShape.{IsUpper, TreeShape, frames_of, parent}
use Rattle.layer_laws.specs.Granted.{is_granted_in}
use Rattle.tower_log.specs.declared.logged.Entry.{Entry}
use Rattle.tower_log.specs.declared.logged.Logged.{Logged}
use Rattle.tower_log.specs.Log.{entries_of, trail_of}
use Rattle.tower_shows.specs.Began.{ground_shown}
use Rattle.tower_shows.specs.Reads.{IsRead}

-- node 1 alone stands on the ground, and it is no leaf
pub record StandsByFirst (tree : TreeShape) : Type 0 where
  pub bare : frames_of tree 1 ≡ 0
  pub alone : (node : ℕ) → IsUpper tree node → parent tree node ≡ 0 → node ≡ 1

-- the event takes the page from node 1: it is told to give the page back, or to forget it
abbrev pub takes_from_first : ℕ → Event → Bool
takes_from_first page (events.FlushBack node p) = (node == 1) && (p == page)
takes_from_first page (events.DeleteRange node p) = (node == 1) && (p == page)
takes_from_first page event = false

abbrev pub is_taken_in : ℕ → List Event → Bool
is_taken_in page [] = false
is_taken_in page (event ∷ trail) = takes_from_first page event || is_taken_in page trail

-- the entry at this place read the page from the ground, and the page had been granted before
pub record IsReadAgain (tree : TreeShape) (log : List Logged) (place page : ℕ) (entry : Entry) : Type 0 where
  pub stands : slice_get (entries_of log) place ≡ Some entry
  pub read : IsRead tree (take place (trail_of log)) page entry.event
  pub again : is_granted_in page (take place (trail_of log)) ≡ true

-- A PAGE IS READ AGAIN only if it was taken from node 1 before
abbrev pub AreTakenBefore : TreeShape → List Logged → Type 0
AreTakenBefore tree log = (place page : ℕ) (entry : Entry) → IsReadAgain tree log place page entry → is_taken_in page (take place (trail_of log)) ≡ true

-- EACH PAGE THAT WAS READ AGAIN is the one that the file has there
abbrev pub FindsAgain : TreeShape → ℕ → List ℕ → List Logged → Type 0
FindsAgain tree size opening log = (place page : ℕ) (entry : Entry) → IsReadAgain tree log place page entry → entry.bytes ≡ ground_shown tree size opening (take place (trail_of log)) page
