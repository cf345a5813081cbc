-- What contracts see of a volume and of a pass.
use Rattle.std.specs.Prelude.{◌≡◌, ℕ, ◌<◌, ◌≤◌, List, [], ◌∷◌, length, map, slice_get, Option, Some, unwrap_or, Bool, false}
use Rattle.std.specs.List.{AllByRecursion}
use Rattle.atomic_table.specs.Seated.{TableId}
use Rattle.hist_lock.specs.Known.{Known, Lock}
use Rattle.hist_lock.specs.Ranges.{Added, Follows, in_range}
use Rattle.tower_log.specs.declared.logged.Logged.{Logged}
use Rattle.stack_engine.specs.Engine.{log_in}
use Rattle.stack_engine.specs.Tower.{TowerSeen}
use Rattle.spr_volume.specs.Later.{IsLater}
use Rattle.spr_volume.specs.TowerShared.{IsNeeded, IsPlain, SharedSeen, by}

-- the lock of a file, and what a seat of it knows
abbrev pub FileLock : Type 0
FileLock = Lock SharedSeen Logged TowerSeen

abbrev pub FileSeat : Type 0
FileSeat = Known Logged TowerSeen

-- which lock a file has, and the tower that was handed in for it
pub record Owner : Type 0 where
  pub lock : TableId
  pub tower : Option TowerSeen

-- a volume: its files, the tower that was handed in for each, and one more than the last of its callers, which begin with 0
pub record FilesSeen : Type 0 where
  pub owners : List Owner
  pub towers : List TowerSeen
  pub end : ℕ

-- a pass: its files, its callers from first up to end, and the beginning of each file's log that it knows
pub record FilesKnown : Type 0 where
  pub owners : List Owner
  pub first : ℕ
  pub end : ℕ
  pub logs : List (List Logged)

abbrev pub owner : FileLock → Owner
owner l = record { lock = l.name; tower = Some l.part }

abbrev pub owner_of : FileSeat → Owner
owner_of s = record { lock = s.lock; tower = s.part }

-- the lock began with the tower that was handed in, for the callers from 0 up to end
pub record IsLock (end : ℕ) (l : FileLock) : Type 0 where
  pub first_is : l.first ≡ 0
  pub end_is : l.end ≡ end
  pub began_is : l.began ≡ log_in l.part.engine

-- the seat has this range, and no value
pub record IsSeat (first end : ℕ) (s : FileSeat) : Type 0 where
  pub first_is : s.first ≡ first
  pub end_is : s.end ≡ end
  pub free : s.taken ≡ false

-- the seats of a pass have its range, which has a caller; and where caller 0 is one, there is room for as many towers
pub record IsPass (first end : ℕ) (seats : List FileSeat) (room : List TowerSeen) (capacity : ℕ) : Type 0 where
  pub seated : AllByRecursion (IsSeat first end) seats
  pub some : first < end
  pub empty : room ≡ []
  pub enough : first ≡ 0 → length seats ≤ capacity

-- a pass of this volume
abbrev pub IsOf : FilesSeen → FilesKnown → Type 0
IsOf v p = p.owners ≡ v.owners

-- the log of each tower
abbrev pub logs : List TowerSeen → List (List Logged)
logs towers = map (λ t. log_in t.engine) towers

-- what a pass knows of a file; of one that is not there, nothing
abbrev pub known : FilesKnown → ℕ → List Logged
known p file = unwrap_or (slice_get p.logs file) []

-- a volume of these towers, for so many callers
pub record IsMounted (towers : List TowerSeen) (callers : ℕ) (v : FilesSeen) : Type 0 where
  pub towers_are : v.towers ≡ towers
  pub end_is : v.end ≡ callers

-- the pass of all callers, which knows the logs as they were handed in
abbrev pub whole : FilesSeen → FilesKnown
whole v = record { owners = v.owners; first = 0; end = v.end; logs = logs v.towers }

-- the pass with another range
abbrev pub with_range : FilesKnown → ℕ → ℕ → FilesKnown
with_range p first end = record { owners = p.owners; first = first; end = end; logs = p.logs }

-- the pass with other logs
abbrev pub with_logs : FilesKnown → List (List Logged) → FilesKnown
with_logs p new = record { owners = p.owners; first = p.first; end = p.end; logs = new }

-- whether an entry is one of the range's callers'
abbrev pub is_own : ℕ → ℕ → Logged → Bool
is_own first end logged = in_range first end (by logged)

-- A LOG GOES ON, without an entry of the range's callers
abbrev pub Quietly : ℕ → ℕ → List Logged → List Logged → Type 0
Quietly first end old new = Follows (is_own first end) old new

-- each log goes on so
abbrev pub AllQuietly : ℕ → ℕ → FilesKnown → FilesKnown → Type 0
AllQuietly first end old new = (file : ℕ) → Quietly first end (known old file) (known new file)

-- the answers that a pass knows of a file are the plain file's
abbrev pub KnowsPlain : FilesSeen → FilesKnown → ℕ → Type 0
KnowsPlain v p file = (t : TowerSeen) → slice_get v.towers file ≡ Some t → IsPlain t.engine (known p file)

-- the page messages that a pass knows of a file are needed
abbrev pub KnowsNeeded : FilesSeen → FilesKnown → ℕ → Type 0
KnowsNeeded v p file = (t : TowerSeen) → slice_get v.towers file ≡ Some t → IsNeeded t.engine (known p file)

-- WHAT A FILE IS AFTER ALL CALLS: the tower that was handed in, later on, of which every caller was one of those below end
pub record IsBack (end : ℕ) (old new : TowerSeen) : Type 0 where
  pub later : IsLater old.engine new.engine
  pub callers : Added by 0 end (log_in old.engine) (log_in new.engine)

-- each tower is so
abbrev pub AreBack : ℕ → List TowerSeen → List TowerSeen → Type 0
AreBack end [] [] = Unit {0}
AreBack end [] (n ∷ ns) = ⊥
AreBack end (t ∷ ts) [] = ⊥
AreBack end (t ∷ ts) (n ∷ ns) = IsBack end t n × AreBack end ts ns
