-- A disk that joins a ground, as steps of the machine. The disk is taken out of the ground meanwhile; at its place stands a disk that is out.
use Rattle.std.specs.Prelude.{◌≡◌, ◌≢◌, ℕ, ◌<◌, List, [], set, get_or, Bool, true, false, not, eqb, is_some, Result, Ok, Err}
use Rattle.page_ground.specs.declared.fault.StoreFault.{StoreFault}
use Rattle.disk_layer.specs.Disk.{Disk, kept_on}
use Rattle.mirror_rules.specs.Tree.{Cell, Seat, In, Out}
use Rattle.mirror_rules.specs.Tree as machine
use Rattle.mirror_rules.specs.Claims.{Nth}
use Rattle.mirror_rules.specs.Steps.{Says, Done, Fault, Look, faulted, written, kept_now, Refuses, Raise, Flush}
use Rattle.mirror_rules.specs.Opening.{settled, Copies}
use Rattle.mirror_layer.specs.declared.join.Copied.{Copied}
use Rattle.mirror_layer.specs.declared.join.Copied.TheVariants.{Same, Written, Left, Gone}
use Rattle.mirror_layer.specs.View.{Beside}
use Rattle.mirror_layer.specs.Calls.{all_told, said}

-- each disk of a ground tells what it holds, and the one that joins
abbrev pub Tells : Bool → List Beside → Disk → Type 0
Tells told beside d = told ≡ true → (all_told beside ≡ true) × (is_some (kept_on d) ≡ true)

-- one page: the ground's row before and after, and the cell of the disk that joins
abbrev pub CopiesPage : Bool → ℕ → List Seat → Cell → Copied → List Seat → Cell → Type 0
CopiesPage told p xs c Same ys d = (x : List ℕ) × Look p x xs (Done true) ys × (told ≡ true → get_or c.now.pages p [] ≡ x) × (d ≡ c)
CopiesPage told p xs c Written ys d = (x z : List ℕ) × Look p x xs (Done true) ys × (told ≡ true → get_or c.now.pages p [] ≢ x) × (told ≡ true → z ≡ x) × (d ≡ written p z c)
CopiesPage told p xs c Left ys d = (x : List ℕ) × (m : ℕ) × Look p x xs (Done true) ys × (c.faults < m) × (d ≡ faulted m c)
CopiesPage told p xs c (Gone f) ys d = ((x : List ℕ) → Look p x xs (Fault f.disk f.count) ys) × (d ≡ c)

-- the end of a joining, once all pages stand on the disk and one differed, or its generation did
pub data Settles (g : ℕ) (c : Cell) : Result Bool StoreFault → Bool → Cell → Type 0 where
  settles_live : Settles g c (Ok true) true (settled g c)
  settles_unflushed : {d : Cell} → Refuses Flush c d → Settles g c (Ok false) false d
  settles_unraised : {same : Bool} {d : Cell} → Refuses (Raise g) (kept_now c) d → eqb d.now.generation c.now.generation ≡ same → Settles g c (Ok false) (not same) d

-- whether it is live then
abbrev pub joined : Result Bool StoreFault → Bool
joined (Ok live) = live
joined (Err e) = false

-- it joins a ground of the generation g, at whatever place it was taken from
abbrev pub Joins : Bool → ℕ → Bool → ℕ → List Seat → Cell → Result Bool StoreFault → Bool → List Seat → Cell → Type 0
Joins told g even n xs c result wrote ys d =
    (i : ℕ) (b : machine.Why) (s : machine.Store) → Nth i xs (Out b s) → Copies told g i even n 0 (set xs i (In false c)) (said result) wrote (set ys i (In (joined result) d))

-- what the opening says of a joining
abbrev pub ended : Result Bool StoreFault → Says
ended (Ok live) = Done true
ended (Err e) = Fault e.disk e.count
