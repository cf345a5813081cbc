-- The same file later on.
use Rattle.std.specs.Prelude.{◌≡◌, ◌⊎◌, ℕ, ◌+◌, ◌<◌, ◌≤◌, false, List, [], ◌∷◌, ◌++◌, length, is_some, Option, Some, None, Contains}
use Rattle.std.specs.List.{AllByRecursion}
use Rattle.hist_plain.specs.declared.event.Answer.{Answer}
use Rattle.hist_plain.specs.declared.event.Answer.TheVariants as answers
use Rattle.hist_plain.specs.declared.event.Event.{Event}
use Rattle.hist_plain.specs.declared.event.Event.TheVariants as events
use Rattle.page_ground.specs.Seen.{Imaged}
use Rattle.page_ground.specs.Seen.{Seen, faults_in, held_in, is_up_in, live_in, numbers_in, opened_in, pages_in}
use Rattle.page_ground.specs.Seen.{kept_in as kept_on}
use Rattle.tower_core.specs.Trail.{State, state_after}
use Rattle.tower_core.specs.TreeShape.{TreeShape}
use Rattle.tower_log.specs.declared.logged.Logged.{Logged}
use Rattle.tower_log.specs.declared.logged.Logged.TheVariants.{Entered, Noted}
use Rattle.tower_log.specs.Notes.{counts_of, last_count}
use Rattle.page_exchange.specs.Tables.{IsSameFile}
use Rattle.tower_shows.specs.Since.{AreSince}
use Rattle.stack_engine.specs.Engine.{EngineSeen, events_in, file_in, log_in, state_in, tree_in}
use Rattle.stack_engine.specs.Moves.{answer_to}
use Rattle.stack_engine.specs.Opened.{IsOf, KeepsSince, last_from}
use Rattle.spr_volume.specs.Needed.{AreNeeded}

-- this disk alone is live
pub record IsOnDisk (disk : ℕ) (ground : Seen) : Type 0 where
  pub live : Contains (live_in ground.disks) disk
  pub alone : (other : ℕ) → Contains (live_in ground.disks) other → other ≡ disk

-- a note is of one of these disks
abbrev pub IsNoteOf : List ℕ → Logged → Type 0
IsNoteOf disks (Entered entry) = Unit {0}
IsNoteOf disks (Noted note) = Contains disks note.disk

-- how many notes there are
abbrev pub notes_in : List Logged → ℕ
notes_in [] = 0
notes_in (Entered entry ∷ log) = notes_in log
notes_in (Noted note ∷ log) = notes_in log + 1

-- THE DISKS LATER ON, after these things of the log. They are the same ones, those were opened that were, and what they kept is told if it was. No disk gets live, some
-- disk is live if one was, and one that is so no more has failed since. The counts of faults rise, and each note is of a disk that was live.
-- Each disk that is live at the end failed once at least for each note: a fault that another disk masked is not told. Neither
-- the generation falls, nor the one that is due.
pub record AreLater (more : List Logged) (old new : Seen) : Type 0 where
  pub disks : numbers_in new.disks ≡ numbers_in old.disks
  pub up : (disk : ℕ) → is_up_in new.disks disk ≡ is_up_in old.disks disk
  pub told : (disk : ℕ) → is_some (kept_on new.disks disk) ≡ is_some (kept_on old.disks disk)
  pub live : (disk : ℕ) → Contains (live_in new.disks) disk → Contains (live_in old.disks) disk
  pub some : 0 < length (live_in old.disks) → 0 < length (live_in new.disks)
  pub lost : (disk : ℕ) → Contains (live_in old.disks) disk → Contains (live_in new.disks) disk ⊎ (faults_in old.disks disk < faults_in new.disks disk)
  pub faults : (disk : ℕ) → faults_in old.disks disk ≤ faults_in new.disks disk
  pub opened : (disk : ℕ) → opened_in new.disks disk ≡ opened_in old.disks disk
  -- what was not opened holds what it held
  pub aside : (disk : ℕ) → is_up_in old.disks disk ≡ false → held_in new.disks disk ≡ held_in old.disks disk
  pub level : old.generation ≤ new.generation
  pub due : old.due ≤ new.due
  pub notes : AllByRecursion (IsNoteOf (live_in old.disks)) more
  pub paid : (disk : ℕ) → Contains (live_in new.disks) disk → faults_in old.disks disk + notes_in more ≤ faults_in new.disks disk

-- what a disk keeps until a sync is completed: what it kept when this was told, or pages as they were at some place since
abbrev pub KeepsFirst : List ℕ → Option (Option Imaged) → EngineSeen → ℕ → Type 0
KeepsFirst opening first e disk = last_from (events_in e) ≡ None
    → (pages_in (kept_on e.ground.disks disk) ≡ pages_in first) ⊎ KeepsSince (tree_in e) (file_in e).page_size opening (events_in e) 0 (kept_on e.ground.disks disk)

-- an image became one of no lower generation, with pages as they were at some place since
pub record IsTurned (opening : List ℕ) (first now : Option Imaged) (e : EngineSeen) : Type 0 where
  pub old : Imaged
  pub new : Imaged
  pub was : first ≡ Some old
  pub is : now ≡ Some new
  pub later : old.generation ≤ new.generation
  pub since : AreSince (tree_in e) (file_in e).page_size opening (events_in e) 0 new.pages

-- the image that a disk has, live or not: the one that it had when this was told, or one that this became
abbrev pub TurnsFirst : List ℕ → Option Imaged → EngineSeen → ℕ → Type 0
TurnsFirst opening first e disk = (held_in e.ground.disks disk ≡ first) ⊎ IsTurned opening first (held_in e.ground.disks disk) e

-- what an event is answered where the lives of the nodes are these, without the bytes of a read: an access by the life of its node, a page
-- message not at all, and every other event by `done`
abbrev pub answer_by : State → Event → Option Answer
answer_by s (events.Access caller number node life op) = Some (answer_to (s.life node) life op)
answer_by s (events.DestroyCache caller number node) = Some answers.Done
answer_by s (events.DonePager caller number node) = Some answers.Done
answer_by s (events.Synced caller number node from keep) = Some answers.Done
answer_by s event = None

-- each of these things of the log, which follow a state, is answered so
abbrev pub AreAnswered : TreeShape → State → List Logged → Type 0
AreAnswered tree s [] = Unit {0}
AreAnswered tree s (Entered entry ∷ log) = (entry.answer ≡ answer_by s entry.event) × AreAnswered tree (state_after tree s entry.event) log
AreAnswered tree s (Noted note ∷ log) = AreAnswered tree s log

-- THE SAME FILE LATER ON
pub record IsLater (old new : EngineSeen) : Type 0 where
  pub file : IsSameFile old.tables new.tables
  pub of : (opening : List ℕ) → IsOf opening old → IsOf opening new
  pub more : List Logged
  pub log : log_in new ≡ log_in old ++ more
  pub disks : AreLater more old.ground new.ground
  -- whatever lies under the file
  pub answered : AreAnswered (tree_in old) (state_in old) more
  pub needed : AreNeeded (tree_in old) (file_in old).pages (events_in old) more
  -- if one disk alone is live, its count is that of its last note, or what it was: no fault of it goes without a note
  pub noted : (disk : ℕ) → IsOnDisk disk old.ground → faults_in new.ground.disks disk ≡ last_count (faults_in old.ground.disks disk) (counts_of disk more)
  pub kept : (opening : List ℕ) (first : Option (Option Imaged)) (disk : ℕ) → IsOf opening old → Contains (live_in new.ground.disks) disk
      → KeepsFirst opening first old disk → KeepsFirst opening first new disk
  pub turned : (opening : List ℕ) (first : Option Imaged) (disk : ℕ) → IsOf opening old → TurnsFirst opening first old disk → TurnsFirst opening first new disk
  -- if a sync was completed since, for the first time, what was due then is paid
  pub lifts : (from : ℕ) → last_from (events_in old) ≡ None → last_from (events_in new) ≡ Some from → old.ground.due ≤ new.ground.generation
