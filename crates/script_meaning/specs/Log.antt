-- What the log of a file says, one thing after another: each event with its answer, and each note; and what the names' history says.
use Rattle.std.specs.Prelude.{◌≡◌, ◌==◌, ℕ, suc, ◌≤◌, List, [], ◌∷◌, ◌++◌, filter, slice_get, Option, Some, unwrap_or}
use Rattle.hist_plain.specs.declared.event.Event.{Event}
use Rattle.hist_plain.specs.declared.event.Event.TheVariants as events
use Rattle.hist_plain.specs.declared.event.Keep.{Keep}
use Rattle.hist_plain.specs.Event.{caller_of}
use Rattle.hist_plain.specs.History.{Entry, is_by}
use Rattle.hist_plain.specs.declared.TheConstants.{MAX_EVENTS}
use Rattle.tower_log.specs.declared.logged.Logged.{Logged}
use Rattle.tower_log.specs.declared.logged.Logged.TheVariants.{Entered, Noted}
use Rattle.tower_log.specs.Log.{place_of, told_by}
use Rattle.name_context.specs.declared.entry.NameEntry.{NameEntry}
use Rattle.name_context.specs.Names.{Name}
use Rattle.name_context.specs.History.{NamesSeen, after}

-- what a log says, one thing after another
pub data Item : Type 0 where
  entered : Entry → Item
  noted : (caller disk count : ℕ) → Item

-- what a log says from a place on
abbrev pub items_from : ℕ → List Logged → List Item
items_from place [] = []
items_from place (Entered entry ∷ log) = entered (record { place = place; event = entry.event; told = told_by entry }) ∷ items_from (suc place) log
items_from place (Noted note ∷ log) = noted note.caller note.disk note.count ∷ items_from place log

abbrev pub items : List Logged → List Item
items log = items_from 0 log

-- who did it, if it was a caller
abbrev pub who : Item → Option ℕ
who (entered e) = caller_of e.event
who (noted caller disk count) = Some caller

-- what a caller did, in order
abbrev pub by_caller : ℕ → List Item → List Item
by_caller caller all = filter (λ i. is_by caller (who i)) all

-- a call on the names, with the names that it found
pub record NameItem : Type 0 where
  pub entry : NameEntry
  pub names : List Name

-- what a history says that begins with these names
abbrev pub name_items_from : List Name → List NameEntry → List NameItem
name_items_from names [] = []
name_items_from names (entry ∷ history) = record { entry = entry; names = names } ∷ name_items_from (after names entry) history

abbrev pub name_items : NamesSeen → List NameItem
name_items seen = name_items_from seen.began seen.history

-- what a caller did with the names, in order
abbrev pub names_by : ℕ → List NameItem → List NameItem
names_by caller all = filter (λ i. i.entry.caller == caller) all

-- WHAT A RUN HAS DONE so far: the log of each file, and the names at the start with the history of the calls on them
pub record Histories : Type 0 where
  pub logs : List (List Logged)
  pub names : NamesSeen

-- the log of a file of a list; a file that is not there has an empty one
abbrev pub log_of : List (List Logged) → ℕ → List Logged
log_of logs file = unwrap_or (slice_get logs file) []

abbrev pub log_at : Histories → ℕ → List Logged
log_at h file = log_of h.logs file

-- the trail of a file has all events that it may have
abbrev pub IsFull : Histories → ℕ → Type 0
IsFull h file = MAX_EVENTS ≤ place_of (log_at h file)

-- the trail ends with a caller's completed sync
pub record EndsSynced (caller : ℕ) (trail : List Event) : Type 0 where
  pub before : List Event
  pub number : ℕ
  pub node : ℕ
  pub from : ℕ
  pub keep : Keep
  pub is : trail ≡ before ++ events.Synced caller number node from keep ∷ []
