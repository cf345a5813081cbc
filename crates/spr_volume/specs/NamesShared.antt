-- The names of a stack under a lock, and what a seat of it knows.
use Rattle.std.specs.Prelude.{◌≡◌, ℕ, Bool, List, Some}
use Rattle.hist_lock.specs.Known.{Known, Lock}
use Rattle.hist_lock.specs.Ranges.{Follows, in_range}
use Rattle.name_context.specs.declared.entry.NameEntry.{NameEntry}
use Rattle.name_context.specs.History.{NamesSeen}
use Rattle.name_context.specs.Names.{Name}

abbrev pub NamesLock : Type 0
NamesLock = Lock NamesSeen NameEntry (List Name)

abbrev pub NamesSeat : Type 0
NamesSeat = Known NameEntry (List Name)

-- whether an entry is one of the range's callers'
abbrev pub is_own : ℕ → ℕ → NameEntry → Bool
is_own first end entry = in_range first end (Some entry.caller)

-- THE HISTORY GOES ON, without an entry of the range's callers
abbrev pub Quietly : ℕ → ℕ → List NameEntry → List NameEntry → Type 0
Quietly first end old new = Follows (is_own first end) old new

-- the names with this history
abbrev pub names_with : List Name → List NameEntry → NamesSeen
names_with began history = record { began = began; history = history }

-- the seat is as it was, but for the history that it knows, and for whether it ever took the names
abbrev pub IsSame : NamesSeat → NamesSeat → Type 0
IsSame old new = new ≡ record old { seen = new.seen; took = new.took }
