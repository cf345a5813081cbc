-- Rows of a volume: its locks, and seats of them, one for each file, in the order of the files.
use Rattle.std.specs.Prelude.{◌≡◌, ℕ, ◌<◌, List, [], ◌∷◌, false}
use Rattle.hist_lock.specs.Known.{Begins, IsFree, meeting, whole as whole_seat, with_range}
use Rattle.stack_engine.specs.Engine.{log_in}
use Rattle.stack_engine.specs.Tower.{TowerSeen}
use Rattle.spr_volume.specs.TowerShared.{SharedSeen, log_of, shared}
use Rattle.spr_volume.specs.FilePasses.{FileLock, FileSeat, IsBack, Quietly}

-- each seat is a free one of its lock
abbrev pub AreFree : List FileLock → List FileSeat → Type 0
AreFree [] [] = Unit {0}
AreFree [] (s ∷ ss) = ⊥
AreFree (l ∷ ls) [] = ⊥
AreFree (l ∷ ls) (s ∷ ss) = IsFree l s × AreFree ls ss

-- the callers below a limit, and the others
abbrev pub below : ℕ → FileSeat → FileSeat
below at s = with_range s s.first at

abbrev pub above : ℕ → FileSeat → FileSeat
above at s = with_range s at s.end

-- the limit lies within the seat's range
abbrev pub IsWithin : ℕ → FileSeat → Type 0
IsWithin at s = (s.first < at) × (at < s.end)

-- the seats' ranges are neighbours
abbrev pub AreNeighbours : List FileSeat → List FileSeat → Type 0
AreNeighbours [] [] = Unit {0}
AreNeighbours [] (t ∷ ts) = ⊥
AreNeighbours (s ∷ ss) [] = ⊥
AreNeighbours (s ∷ ss) (t ∷ ts) = (s.end ≡ t.first) × AreNeighbours ss ts

-- the seat of both ranges, in whose list each of the two lists goes on without an entry of its own callers
pub record IsMet (s t met : FileSeat) : Type 0 where
  pub is : met ≡ meeting s t
  pub this : Quietly s.first s.end s.seen met.seen
  pub that : Quietly t.first t.end t.seen met.seen

abbrev pub AreMet : List FileSeat → List FileSeat → List FileSeat → Type 0
AreMet [] [] [] = Unit {0}
AreMet (s ∷ ss) (t ∷ ts) (met ∷ mets) = IsMet s t met × AreMet ss ts mets
AreMet ss ts mets = ⊥

-- a lock that began just now with this tower, for the callers from 0 up to end, and the seat of all of them
pub record IsFresh (end : ℕ) (t : TowerSeen) (l : FileLock) (s : FileSeat) : Type 0 where
  pub begins : Begins log_of (λ (x : SharedSeen). x.began) (shared t) 0 end l
  pub seat_is : s ≡ whole_seat l

abbrev pub AreFresh : ℕ → List TowerSeen → List FileLock → List FileSeat → Type 0
AreFresh end [] [] [] = Unit {0}
AreFresh end (t ∷ ts) (l ∷ ls) (s ∷ ss) = IsFresh end t l s × AreFresh end ts ls ss
AreFresh end ts ls ss = ⊥

-- a free seat of all callers of the lock, which are those below some number
pub record IsWhole (l : FileLock) (s : FileSeat) : Type 0 where
  pub free : IsFree l s
  pub first_is : s.first ≡ l.first
  pub end_is : s.end ≡ l.end
  pub from_0 : l.first ≡ 0
  pub began_is : l.began ≡ log_in l.part.engine

abbrev pub AreWhole : List FileLock → List FileSeat → Type 0
AreWhole [] [] = Unit {0}
AreWhole [] (s ∷ ss) = ⊥
AreWhole (l ∷ ls) [] = ⊥
AreWhole (l ∷ ls) (s ∷ ss) = IsWhole l s × AreWhole ls ss

-- the tower that a lock gave when it was closed with this seat; it is the very one that it began with, if nobody took it
pub record IsClosed (l : FileLock) (s : FileSeat) (t : TowerSeen) : Type 0 where
  pub log : log_in t.engine ≡ s.seen
  pub back : IsBack l.end l.part t
  pub untouched : s.took ≡ false → t ≡ l.value.tower

abbrev pub AreClosed : List FileLock → List FileSeat → List TowerSeen → Type 0
AreClosed [] [] [] = Unit {0}
AreClosed (l ∷ ls) (s ∷ ss) (t ∷ ts) = IsClosed l s t × AreClosed ls ss ts
AreClosed ls ss ts = ⊥
