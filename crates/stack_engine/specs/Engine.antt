-- What contracts see of a file's engine: the ground, the tables of the nodes above it, and the log.
use Rattle.std.specs.Prelude.{◌≡◌, ◌≢◌, ℕ, ◌<◌, ◌≤◌, ◌==◌, ◌&&◌, not, List, Bool}
use Rattle.hist_plain.specs.declared.TheConstants.{MAX_EVENTS}
use Rattle.hist_plain.specs.declared.event.Event.{Event}
use Rattle.hist_plain.specs.History.{IsNumbered}
use Rattle.tower_core.specs.declared.sheet.Sheet.{Sheet}
use Rattle.tower_core.specs.Sheet.{nodes_of, pages_of, seen}
use Rattle.tower_core.specs.Column.{Column}
use Rattle.tower_core.specs.TreeShape.{TreeShape, frames_of, nodes, parent}
use Rattle.tower_core.specs.Trail.{State, holds, state_of}
use Rattle.layer_laws.specs.Side.{Side}
use Rattle.page_ground.specs.Seen.{DiskSeen, Seen, faults_in, opened_in}
use Rattle.page_messages.specs.declared.paged.PagedFile.{PagedFile}
use Rattle.page_exchange.specs.declared.tables.Tables.{Tables}
use Rattle.vmm_cache.specs.Used.{AreUses}
use Rattle.page_exchange.specs.Tables.{IsUnderFile, machines_of, paged_of, sides, tree_of, uses, wire_of}
use Rattle.page_exchange.specs.Wire.{WireSeen}
use Rattle.tower_log.specs.declared.logged.Logged.{Logged}
use Rattle.tower_log.specs.Log.{place_of, trail_of}
use Rattle.tower_log.specs.Notes.{Rises, counts_of}
use Rattle.tower_log.specs.Trail.{TrailSeen}
use Rattle.tower_shows.specs.Began.{IsNextIn, IsTrueTo}
use Rattle.stack_engine.specs.Answers.{KeepsWholePages, ShowsWhatItRead}

pub record EngineSeen : Type 0 where
  pub ground : Seen
  pub tables : Tables
  pub trail : TrailSeen

abbrev pub tree_in : EngineSeen → TreeShape
tree_in e = tree_of e.tables

abbrev pub file_in : EngineSeen → PagedFile
file_in e = paged_of e.tables

abbrev pub sides_in : EngineSeen → ℕ → ℕ → Side
sides_in e = sides e.tables

abbrev pub uses_in : EngineSeen → ℕ → List ℕ
uses_in e = uses e.tables

-- the number of each node's machine, that of the ground first
abbrev pub machines_in : EngineSeen → List ℕ
machines_in e = machines_of e.tables

-- the frames that went last, and their packets
abbrev pub wire_in : EngineSeen → WireSeen
wire_in e = wire_of e.tables

abbrev pub log_in : EngineSeen → List Logged
log_in e = e.trail.log

abbrev pub events_in : EngineSeen → List Event
events_in e = trail_of e.trail.log

abbrev pub state_in : EngineSeen → State
state_in e = state_of (tree_in e) (events_in e)

abbrev pub column_in : EngineSeen → ℕ → Column
column_in e page = (state_in e).column page

-- whether a grant of the page to the node reads it from the ground: the node has nothing of the page, and stands on the ground
abbrev pub reads_ground : Tables → ℕ → ℕ → Bool
reads_ground t node page = not (holds (sides t page node).right) && (parent (tree_of t) node == 0)

-- the event may come next
abbrev pub IsNext : EngineSeen → Event → Type 0
IsNext e event = IsNextIn (tree_in e) (file_in e).page_size (file_in e).pages (events_in e) event

-- the notes of each disk have rising counts, above its store's count when it was opened, and at most that count now
abbrev pub NotesRise : List DiskSeen → List Logged → Type 0
NotesRise disks log = (disk : ℕ) → Rises (opened_in disks disk) (faults_in disks disk) (counts_of disk log)

-- WHAT HOLDS OF EVERY ENGINE, whatever its stores tell
pub record IsSound (e : EngineSeen) : Type 0 where
  pub true_to : IsTrueTo (tree_in e) (file_in e).page_size (file_in e).pages (events_in e) (sides_in e)
  pub under : IsUnderFile e.ground (file_in e)
  -- each leaf lists the pages that it holds by their last uses
  pub listed : (leaf : ℕ) → 0 < leaf → frames_of (tree_in e) leaf ≢ 0 → AreUses (state_in e) leaf (uses_in e leaf)
  pub few : place_of (log_in e) ≤ MAX_EVENTS
  pub numbered : IsNumbered (events_in e)
  pub notes : NotesRise e.ground.disks (log_in e)
  pub page_size : e.trail.page_size ≡ (file_in e).page_size
  -- each file of which the reads found the pages is the one that is shown and that answers
  pub shows : ShowsWhatItRead (tree_in e) (file_in e).page_size (file_in e).pages (log_in e) (sides_in e)
  pub keeps : KeepsWholePages (file_in e).page_size (file_in e).pages (log_in e)

-- the sheet stands at the end of the trail
pub record IsSheetOf (e : EngineSeen) (sheet : Sheet) : Type 0 where
  pub nodes_are : nodes_of sheet ≡ nodes (tree_in e)
  pub pages_are : pages_of sheet ≡ (file_in e).pages
  pub state_is : seen sheet ≡ state_in e

pub record IsEngine (e : EngineSeen) (sheet : Sheet) : Type 0 where
  pub sound : IsSound e
  pub sheet_is : IsSheetOf e sheet
