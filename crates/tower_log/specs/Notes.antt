-- The notes of a log.
use Rattle.std.specs.Prelude.{ℕ, ◌<◌, ◌≤◌, ◌==◌, List, [], ◌∷◌, if◌then◌else◌}
use Rattle.tower_log.specs.declared.logged.Logged.{Logged}
use Rattle.tower_log.specs.declared.logged.Logged.TheVariants.{Entered, Noted}

-- the counts of the notes of a disk, in order
abbrev pub counts_of : ℕ → List Logged → List ℕ
counts_of disk [] = []
counts_of disk (Entered entry ∷ log) = counts_of disk log
counts_of disk (Noted note ∷ log) = if note.disk == disk then note.count ∷ counts_of disk log else counts_of disk log

-- the last of these counts, or the first number if there are none
abbrev pub last_count : ℕ → List ℕ → ℕ
last_count first [] = first
last_count first (count ∷ counts) = last_count count counts

-- counts that rise, the first above one number and the last up to another
abbrev pub Rises : ℕ → ℕ → List ℕ → Type 0
Rises before now [] = before ≤ now
Rises before now (count ∷ counts) = (before < count) × Rises count now counts
