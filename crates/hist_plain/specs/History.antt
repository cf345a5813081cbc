-- A history: events in their order, and what the plain file is and answers along it.
use Rattle.std.specs.Prelude.{◌≡◌, ℕ, suc, List, [], ◌∷◌, take, filter, replicate, ◌==◌, Bool, false, Option, Some, None}
use Rattle.hist_plain.specs.declared.event.Event.{Event}
use Rattle.hist_plain.specs.File.{Shape, File}
use Rattle.hist_plain.specs.Event.{caller_of, number_of}
use Rattle.hist_plain.specs.Plain.{Told, applied, reply, Suits, bytes_at, place_of}

-- the file after these events, in order
abbrev pub replay : Shape → File → List Event → File
replay shape file [] = file
replay shape file (event ∷ events) = replay shape (applied shape file event) events

-- a page of these bytes
abbrev pub page_in : ℕ → List ℕ → ℕ → List ℕ
page_in page_size bytes page = bytes_at bytes (place_of page_size page 0) page_size

-- a page at a place: as it is after that many events
abbrev pub page_at : Shape → File → List Event → ℕ → ℕ → List ℕ
page_at shape file events page place = page_in shape.page_size (replay shape file (take place events)).bytes page

-- all bytes of a page are zeros
abbrev pub IsZeroPage : ℕ → List ℕ → Type 0
IsZeroPage page_size bytes = bytes ≡ replicate page_size 0

-- what happened at a place of a history: an event, and its answer if it has one
pub record Entry : Type 0 where
  pub place : ℕ
  pub event : Event
  pub told : Option Told

-- the events of a history from a place on, each with its answer by the plain file at that place
abbrev pub entries_from : Shape → File → ℕ → List Event → List Entry
entries_from shape file place [] = []
entries_from shape file place (event ∷ events) = record { place = place; event = event; told = reply shape file event } ∷ entries_from shape (applied shape file event) (suc place) events

-- each event names a node of the tree and stays in the file as it is then
abbrev pub AllSuit : Shape → File → List Event → Type 0
AllSuit shape file [] = Unit {0}
AllSuit shape file (event ∷ events) = Suits shape file event × AllSuit shape (applied shape file event) events

-- the events of a caller, in order
abbrev pub is_by : ℕ → Option ℕ → Bool
is_by caller (Some other) = other == caller
is_by caller None = false

abbrev pub mine : List Event → ℕ → List Event
mine history caller = filter (λ event. is_by caller (caller_of event)) history

-- the numbers are counted from first on
abbrev pub IsCounted : ℕ → List Event → Type 0
IsCounted first [] = Unit {0}
IsCounted first (event ∷ events) = (number_of event ≡ first) × IsCounted (suc first) events

-- each caller's numbers are 0, 1, 2 and so on
abbrev pub IsNumbered : List Event → Type 0
IsNumbered history = (caller : ℕ) → IsCounted 0 (mine history caller)
