-- What lies under a file tells contracts, and what each call of it keeps.
use Rattle.std.specs.Prelude.{◌≡◌, ◌⊎◌, ℕ, ◌+◌, ◌^◌, ◌<◌, ◌≤◌, ◌==◌, if◌then◌else◌, Bool, true, false, List, [], ◌∷◌, length, map, slice_get, slice_set, is_some, Option, Some, None, IfSome, Contains}
use Rattle.std.specs.Option.{option_map}
use Rattle.page_ground.specs.declared.fault.StoreFault.{StoreFault}

-- what an image stands for: its generation, and its pages
pub record Imaged : Type 0 where
  pub generation : ℕ
  pub pages : List (List ℕ)

-- one disk: its number, whether it is live, whether it was opened, the image that it has, if it is told, what the blocks that it kept stand
-- for, if they are told, and the count of faults of its store, now and when the disk was opened
pub record DiskSeen : Type 0 where
  pub disk : ℕ
  pub live : Bool
  pub up : Bool
  pub holds : Option Imaged
  pub kept : Option (Option Imaged)
  pub faults : ℕ
  pub opened : ℕ

-- the pages of a file, their generation, and the disks that hold them
pub record Seen : Type 0 where
  -- the bytes of a page, and how many pages there are
  pub page_size : ℕ
  pub number : ℕ
  -- the pages, if they are told
  pub pages : Option (List (List ℕ))
  -- the ground's generation, and the one that it has at least once all that it owes is paid
  pub generation : ℕ
  pub due : ℕ
  pub disks : List DiskSeen

-- what disk `n` kept, if that is told
abbrev pub kept_in : List DiskSeen → ℕ → Option (Option Imaged)
kept_in [] n = None
kept_in (d ∷ ds) n = if n == d.disk then d.kept else kept_in ds n

-- whether disk `n` was opened
abbrev pub is_up_in : List DiskSeen → ℕ → Bool
is_up_in [] n = false
is_up_in (d ∷ ds) n = if n == d.disk then d.up else is_up_in ds n

-- the image that disk `n` has, if it is told
abbrev pub held_in : List DiskSeen → ℕ → Option Imaged
held_in [] n = None
held_in (d ∷ ds) n = if n == d.disk then d.holds else held_in ds n

-- how many faults disk `n` has had, and how many it had when it was opened
abbrev pub faults_in : List DiskSeen → ℕ → ℕ
faults_in [] n = 0
faults_in (d ∷ ds) n = if n == d.disk then d.faults else faults_in ds n

abbrev pub opened_in : List DiskSeen → ℕ → ℕ
opened_in [] n = 0
opened_in (d ∷ ds) n = if n == d.disk then d.opened else opened_in ds n

-- the numbers of the live disks
abbrev pub live_in : List DiskSeen → List ℕ
live_in [] = []
live_in (d ∷ ds) = if d.live then d.disk ∷ live_in ds else live_in ds

-- the numbers of all disks
abbrev pub numbers_in : List DiskSeen → List ℕ
numbers_in disks = map (λ d. d.disk) disks

-- a page was read, if the pages are told
abbrev pub ReadsPage : Option (List (List ℕ)) → ℕ → List ℕ → Type 0
ReadsPage pages page bytes = IfSome pages (λ ps. slice_get ps page ≡ Some bytes)

-- the pages after one was written
abbrev pub with_page : ℕ → List ℕ → Option (List (List ℕ)) → Option (List (List ℕ))
with_page page bytes pages = option_map {T = List (List ℕ)} (λ ps. slice_set ps page bytes) pages

-- the pages of what blocks stand for
abbrev pub pages_in : Option (Option Imaged) → Option (Option (List (List ℕ)))
pages_in kept = option_map {T = Option Imaged} (λ i. option_map {T = Imaged} (λ v. v.pages) i) kept

-- if both are told, what was kept stands for these pages
abbrev pub KeptAt : Option (Option Imaged) → Option (List (List ℕ)) → Type 0
KeptAt kept pages = IfSome kept (λ i. IfSome pages (λ ps. option_map {T = Imaged} (λ v. v.pages) i ≡ Some ps))

-- these are the pages, if they are told
abbrev pub Are : Option (List (List ℕ)) → List (List ℕ) → Type 0
Are pages ps = IfSome pages (λ told. ps ≡ told)

-- an opened disk that has not such pages has a lower generation than each live one, but where that has the last generation
abbrev pub AreBehind : (List (List ℕ) → Type 0) → Seen → Type 0
AreBehind P seen = (disk other : ℕ) (i j : Imaged) → Contains (live_in seen.disks) disk → is_up_in seen.disks other ≡ true → held_in seen.disks disk ≡ Some i → held_in seen.disks other ≡ Some j
    → P j.pages ⊎ (j.generation < i.generation) ⊎ (2 ^ 63 ≤ i.generation + 1)

-- each live disk kept these pages, what has others is behind, and what was due is paid
pub record AllKept (seen : Seen) (pages : Option (List (List ℕ))) : Type 0 where
  pub kept : (d : ℕ) → Contains (live_in seen.disks) d → KeptAt (kept_in seen.disks d) pages
  pub behind : AreBehind (Are pages) seen
  pub paid : seen.due ≤ seen.generation

-- an image becomes one of no lower generation, with the ground's pages as they are at the call's start or at its end
pub record Turns (before after : Option (List (List ℕ))) (held holds : Option Imaged) : Type 0 where
  pub old : Imaged
  pub new : Imaged
  pub was : held ≡ Some old
  pub is : holds ≡ Some new
  pub later : old.generation ≤ new.generation
  pub pages : Are before new.pages ⊎ Are after new.pages

-- What every call keeps, also a refused one.
pub record Keeps (before after : Seen) : Type 0 where
  pub same_size : after.page_size ≡ before.page_size
  pub same_number : after.number ≡ before.number
  pub many : IfSome after.pages (λ ps. length ps ≡ after.number)
  -- the disks are the same ones, and each tells what it kept if it did
  pub same_disks : numbers_in after.disks ≡ numbers_in before.disks
  pub same_told : (d : ℕ) → is_some (kept_in after.disks d) ≡ is_some (kept_in before.disks d)
  -- a live disk has kept what it had kept before, or the pages from the call's start
  pub kept : (d : ℕ) → Contains (live_in after.disks) d → (pages_in (kept_in after.disks d) ≡ pages_in (kept_in before.disks d)) ⊎ KeptAt (kept_in after.disks d) before.pages
  -- the opened disks are the same ones; a disk has the image that it had, or one with the ground's pages
  pub same_up : (d : ℕ) → is_up_in after.disks d ≡ is_up_in before.disks d
  pub turned : (d : ℕ) → (held_in after.disks d ≡ held_in before.disks d) ⊎ Turns before.pages after.pages (held_in before.disks d) (held_in after.disks d)
  -- no disk gets live, some disk is live, and a disk that is so no more has failed in the call
  pub live : (d : ℕ) → Contains (live_in after.disks) d → Contains (live_in before.disks) d
  pub some : 0 < length (live_in after.disks)
  pub lost : (d : ℕ) → Contains (live_in before.disks) d → Contains (live_in after.disks) d ⊎ (faults_in before.disks d < faults_in after.disks d)
  -- the counts never fall, and the disks were opened before
  pub later : (d : ℕ) → faults_in before.disks d ≤ faults_in after.disks d
  pub same_opened : (d : ℕ) → opened_in after.disks d ≡ opened_in before.disks d
  pub since : (d : ℕ) → opened_in before.disks d ≤ faults_in before.disks d
  -- what was not opened holds what it held
  pub aside : (d : ℕ) → is_up_in before.disks d ≡ false → held_in after.disks d ≡ held_in before.disks d
  -- neither the generation falls, nor the one that is due
  pub level : before.generation ≤ after.generation
  pub due : before.due ≤ after.due

-- A call that did what it was asked: on a disk that is still live no fault happened in it.
pub record IsCalm (before after : Seen) : Type 0 where
  pub disk : ℕ
  pub live : Contains (live_in after.disks) disk
  pub same : faults_in after.disks disk ≡ faults_in before.disks disk

-- A call that failed: each live disk failed in it, and it names one of them, with the count that its store has since.
pub record IsFault (before after : Seen) (fault : StoreFault) : Type 0 where
  pub named : Contains (live_in before.disks) fault.disk
  pub above : faults_in before.disks fault.disk < fault.count
  pub exact : fault.count ≡ faults_in after.disks fault.disk
  pub all : (d : ℕ) → Contains (live_in before.disks) d → faults_in before.disks d < faults_in after.disks d
