-- A log as it is kept: its notes stand apart from its entries.
use Rattle.std.specs.Prelude.{ℕ, ◌-◌, ◌≤◌, List, [], ◌∷◌, ◌++◌, map, take, drop}
use Rattle.tower_log.specs.declared.logged.Entry.{Entry}
use Rattle.tower_log.specs.declared.logged.Logged.{Logged}
use Rattle.tower_log.specs.declared.logged.Logged.TheVariants.{Entered, Noted}
use Rattle.tower_log.specs.declared.notes.Placed.{Placed}

-- the entries alone, as things of a log
abbrev pub entered : List Entry → List Logged
entered entries = map (λ entry. Entered entry) entries

-- the log from a place on: before each note, the entries up to its place
abbrev pub merged : ℕ → List Entry → List Placed → List Logged
merged place entries [] = entered entries
merged place entries (placed ∷ notes) = entered (take (placed.before - place) entries) ++ Noted placed.note ∷ merged placed.before (drop (placed.before - place) entries) notes

-- the notes' places rise, from one place up to another
abbrev pub ArePlaced : ℕ → ℕ → List Placed → Type 0
ArePlaced place end [] = place ≤ end
ArePlaced place end (placed ∷ notes) = (place ≤ placed.before) × ArePlaced placed.before end notes
