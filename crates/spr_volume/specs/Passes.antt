-- What contracts see of a volume and of a pass.
use Rattle.std.specs.Prelude.{◌≡◌, ℕ, false, List, [], slice_get, Option, Some, unwrap_or}
use Rattle.atomic_table.specs.Seated.{TableId}
use Rattle.hist_lock.specs.Ranges.{Added}
use Rattle.tower_log.specs.declared.logged.Logged.{Logged}
use Rattle.stack_engine.specs.Tower.{TowerSeen}
use Rattle.name_context.specs.declared.entry.NameEntry.{NameEntry}
use Rattle.name_context.specs.History.{NamesSeen}
use Rattle.name_context.specs.Names.{Name}
use Rattle.spr_volume.specs.TowerShared.{IsNeeded, IsPlain}
use Rattle.spr_volume.specs.FilePasses.{FilesSeen, FilesKnown, Owner}
pub use Rattle.spr_volume.specs.FilePasses.{AreBack, IsBack, Quietly, is_own, logs}
use Rattle.spr_volume.specs.NamesShared.{NamesLock, NamesSeat}
use Rattle.spr_volume.specs.NamesShared.{Quietly as NamesQuietly}

-- which lock the names have, and the names at the start
pub record Register : Type 0 where
  pub lock : TableId
  pub names : Option (List Name)

-- what a volume's passes are known by: the locks of its files, with the tower that was handed in for each, and that of its names
pub record Owners : Type 0 where
  pub files : List Owner
  pub names : Register

-- a volume: its locks, the tower that was handed in for each file, the names as they were handed in, and one more than the last of
-- its callers, which begin with 0
pub record VolumeSeen : Type 0 where
  pub owners : Owners
  pub towers : List TowerSeen
  pub names : NamesSeen
  pub end : ℕ

-- a pass: its locks, its callers from first up to end, and the beginning that it knows of each file's log, and of the names' history
pub record Knows : Type 0 where
  pub owners : Owners
  pub first : ℕ
  pub end : ℕ
  pub logs : List (List Logged)
  pub history : List NameEntry

abbrev pub register : NamesLock → Register
register l = record { lock = l.name; names = Some l.part }

abbrev pub register_of : NamesSeat → Register
register_of s = record { lock = s.lock; names = s.part }

-- a volume of these files, with its names under this lock
abbrev pub volume_of : FilesSeen → NamesLock → VolumeSeen
volume_of f l = record {
  owners = record { files = f.owners; names = register l };
  towers = f.towers;
  names = record { began = l.part; history = l.began };
  end = f.end;
}

-- a pass of files, and a seat of the names
abbrev pub pass_of : FilesKnown → NamesSeat → Knows
pass_of f s = record {
  owners = record { files = f.owners; names = register_of s };
  first = f.first;
  end = f.end;
  logs = f.logs;
  history = s.seen;
}

-- the lock is for the callers from 0 up to end
pub record IsLock (end : ℕ) (l : NamesLock) : Type 0 where
  pub first_is : l.first ≡ 0
  pub end_is : l.end ≡ end

-- the seat has this range, and has not taken the names
pub record IsSeat (first end : ℕ) (s : NamesSeat) : Type 0 where
  pub first_is : s.first ≡ first
  pub end_is : s.end ≡ end
  pub free : s.taken ≡ false

-- a pass of this volume
abbrev pub IsOf : VolumeSeen → Knows → Type 0
IsOf v p = p.owners ≡ v.owners

-- what a pass knows of a file; of one that is not there, nothing
abbrev pub known : Knows → ℕ → List Logged
known p file = unwrap_or (slice_get p.logs file) []

-- a volume of these towers and names, for so many callers
pub record IsMounted (towers : List TowerSeen) (names : NamesSeen) (callers : ℕ) (v : VolumeSeen) : Type 0 where
  pub towers_are : v.towers ≡ towers
  pub names_are : v.names ≡ names
  pub end_is : v.end ≡ callers

-- the pass of all callers, which knows the logs and the history as they were handed in
abbrev pub whole : VolumeSeen → Knows
whole v = record { owners = v.owners; first = 0; end = v.end; logs = logs v.towers; history = v.names.history }

-- the pass with another range
abbrev pub with_range : Knows → ℕ → ℕ → Knows
with_range p first end = record { owners = p.owners; first = first; end = end; logs = p.logs; history = p.history }

-- a pass, but with what another one knows
abbrev pub as_known : Knows → Knows → Knows
as_known p other = record { owners = p.owners; first = p.first; end = p.end; logs = other.logs; history = other.history }

-- each log and the history go on, without an entry of the range's callers
pub record AllQuietly (first end : ℕ) (old new : Knows) : Type 0 where
  pub files : (file : ℕ) → Quietly first end (known old file) (known new file)
  pub names : NamesQuietly first end old.history new.history

-- the answers that a pass knows of a file are the plain file's
abbrev pub KnowsPlain : VolumeSeen → Knows → ℕ → Type 0
KnowsPlain v p file = (t : TowerSeen) → slice_get v.towers file ≡ Some t → IsPlain t.engine (known p file)

-- the page messages that a pass knows of a file are needed
abbrev pub KnowsNeeded : VolumeSeen → Knows → ℕ → Type 0
KnowsNeeded v p file = (t : TowerSeen) → slice_get v.towers file ≡ Some t → IsNeeded t.engine (known p file)

-- WHAT THE NAMES ARE AFTER ALL CALLS: those that were handed in, with calls more, each of a caller below end
pub record AreNamesBack (end : ℕ) (old new : NamesSeen) : Type 0 where
  pub began : new.began ≡ old.began
  pub callers : Added (λ (e : NameEntry). Some e.caller) 0 end old.history new.history
