-- What is said of the generations of disks, beside the generation of their ground.
use Rattle.std.specs.Prelude.{◌≡◌, ℕ, min, ◌+◌, ◌<◌, ◌≤◌, Bool, true, false, List, Some}
use Rattle.mirror_rules.specs.Tree.{Image, Cell, Store, Why, Seat, In, Out, limit, next}
use Rattle.mirror_rules.specs.Claims.{Every}
use Rattle.mirror_rules.specs.Guards.{Medium, Shows}

-- whatever an opened disk shows has at most the next generation, and what a live one shows has at least the ground's
pub data Near (v : Medium) (g : ℕ) : Seat → Type 0 where
  near_in : {b : Bool} {c : Cell} → ((i : Image) → Shows v (In b c) i → i.generation ≤ next g) → (b ≡ true → (i : Image) → Shows v (In b c) i → g ≤ i.generation) → Near v g (In b c)
  near_out : {b : Why} {s : Store} → Near v g (Out b s)

-- whatever a live disk shows has the ground's generation, and no other opened disk is above it
pub data Level (v : Medium) (g : ℕ) : Seat → Type 0 where
  level_in : {b : Bool} {c : Cell} → ((i : Image) → Shows v (In b c) i → i.generation ≤ g) → (b ≡ true → (i : Image) → Shows v (In b c) i → g ≤ i.generation) → Level v g (In b c)
  level_out : {b : Why} {s : Store} → Level v g (Out b s)

-- whatever a live disk shows has the generation g, and each opened other is below it, or g is the limit
pub data HasLevel (v : Medium) (g : ℕ) : Seat → Type 0 where
  has_live : {c : Cell} → ((i : Image) → Shows v (In true c) i → i.generation ≡ g) → HasLevel v g (In true c)
  has_left : {c : Cell} → ((i : Image) → Shows v (In false c) i → min (i.generation + 1) limit ≤ g) → HasLevel v g (In false c)
  has_out : {b : Why} {s : Store} → HasLevel v g (Out b s)

-- a disk that was not opened shows less than g
pub data Lower (g : ℕ) : Seat → Type 0 where
  lower_in : {b : Bool} {c : Cell} → Lower g (In b c)
  lower_out : {b : Why} {s : Store} → ((i : Image) → s.image ≡ Some i → i.generation < g) → Lower g (Out b s)

-- if nothing is owed, each live disk has the ground's generation, and each opened other is below it
abbrev pub Even : Medium → Bool → ℕ → List Seat → Type 0
Even v owed g xs = owed ≡ false → Every (HasLevel v g) xs
