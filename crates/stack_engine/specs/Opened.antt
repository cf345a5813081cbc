-- What an engine's log, copies and disks have to do with the file that its trail began with, where the ground tells its
-- pages.
use Rattle.std.specs.Prelude.{◌≡◌, ℕ, ◌≤◌, max, List, unwrap_or, Option, Some, None, IfSome, Contains}
use Rattle.std.specs.List.{fold}
use Rattle.hist_plain.specs.declared.event.Event.{Event}
use Rattle.hist_plain.specs.declared.event.Event.TheVariants as events
use Rattle.page_ground.specs.Seen.{Imaged}
use Rattle.page_ground.specs.Seen.{AreBehind, live_in, pages_in}
use Rattle.page_ground.specs.Seen.{kept_in as kept_on}
use Rattle.tower_core.specs.TreeShape.{TreeShape}
use Rattle.tower_log.specs.Log.{place_of}
use Rattle.tower_shows.specs.Began.{BeganWith}
use Rattle.tower_shows.specs.Since.{AreSince, GroundIsSince}
pub use Rattle.stack_engine.specs.Answers.{AreAnswers, KeepsPagesOf}
use Rattle.stack_engine.specs.Engine.{EngineSeen, events_in, file_in, log_in, sides_in, tree_in}

-- the latest place that a completed sync is from: each completed sync has written the file as it was at its own place or later, and syncs of
-- several callers may end in another order than they began
abbrev pub from_after : Option ℕ → Event → Option ℕ
from_after found (events.Synced caller number node from keep) = Some (max (unwrap_or found 0) from)
from_after found event = found

abbrev pub last_from : List Event → Option ℕ
last_from trail = fold from_after None trail

-- what is kept is pages as they were from a place on, if it is told
abbrev pub KeepsSince : TreeShape → ℕ → List ℕ → List Event → ℕ → Option (Option Imaged) → Type 0
KeepsSince shape size opening trail from kept =
    IfSome (pages_in kept) (λ pages. (ps : List (List ℕ)) × (pages ≡ Some ps) × AreSince shape size opening trail from ps)

-- WHAT THE SYNCS LEFT that were completed: from the latest place that one is from on the ground shows the file as it was then or later, and so does what each live
-- disk keeps; and an opened disk that has other pages has a lower generation than each live one
pub record IsSynced (opening : List ℕ) (e : EngineSeen) (from : ℕ) : Type 0 where
  pub reached : from ≤ place_of (log_in e)
  pub ground : GroundIsSince (tree_in e) (file_in e).page_size (file_in e).pages opening (events_in e) from
  pub disks : (disk : ℕ) → Contains (live_in e.ground.disks) disk → KeepsSince (tree_in e) (file_in e).page_size opening (events_in e) from (kept_on e.ground.disks disk)
  pub behind : AreBehind (AreSince (tree_in e) (file_in e).page_size opening (events_in e) from) e.ground

-- THE ENGINE IS OF THE FILE that began with these bytes
pub record IsOf (opening : List ℕ) (e : EngineSeen) : Type 0 where
  pub began : BeganWith (tree_in e) (file_in e).page_size (file_in e).pages opening (events_in e) (sides_in e) e.ground.pages
  pub keeps : KeepsPagesOf (file_in e).page_size opening (log_in e)
  pub answers : AreAnswers (tree_in e) (file_in e).page_size opening (log_in e)
  pub synced : (from : ℕ) → last_from (events_in e) ≡ Some from → IsSynced opening e from
