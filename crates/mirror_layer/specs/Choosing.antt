-- The first part of an opening: a disk wins, and the other good disks join it; a winner that cannot be read may give way.
use Rattle.std.specs.Prelude.{◌≡◌, ℕ, ◌<◌, ◌≤◌, length, Bool, true, List, [], ◌∷◌, ◌+◌, Result, Ok, Err}
use Rattle.page_ground.specs.declared.fault.StoreFault.{StoreFault}
use Rattle.mirror_rules.specs.Tree.{Image, Cell, Store, Why, Seat, In, Out}
use Rattle.mirror_rules.specs.Steps.{Done, Fault}
use Rattle.mirror_rules.specs.Opening.{Wins, Enters, Yields}
use Rattle.mirror_layer.specs.View.{Beside}

-- from what the disks' openings found, one of them good: all good disks have joined but those that were left out, and this is the ground's
-- generation; or the ground refused a read, and no winner could give way
pub data Chooses (told : Bool) (n : ℕ) : List Seat → Result ℕ StoreFault → List Seat → Type 0 where
  chosen : {w : Image} {v : Bool} {xs ys zs : List Seat} → Wins w xs ys → Enters told w.generation n 0 (length ys) ys (Done true) v zs → Chooses told n xs (Ok w.generation) zs
  chosen_gone : {w : Image} {v : Bool} {xs ys zs : List Seat} {f : StoreFault} → Wins w xs ys → Enters told w.generation n 0 (length ys) ys (Fault f.disk f.count) v zs → ((vs : List Seat) → Yields w.generation v xs zs vs → ⊥)
      → Chooses told n xs (Err f) zs
  chosen_again : {w : Image} {v : Bool} {xs ys zs vs us : List Seat} {f : StoreFault} {r : Result ℕ StoreFault} → Wins w xs ys → Enters told w.generation n 0 (length ys) ys (Fault f.disk f.count) v zs → Yields w.generation v xs zs vs
      → Chooses told n vs r us → Chooses told n xs r us

-- how many disks are good
abbrev pub goods : List Seat → ℕ
goods [] = 0
goods (In v c ∷ xs) = 1 + goods xs
goods (Out v s ∷ xs) = goods xs

-- a good disk of the generation g that has not failed since it was opened
pub data Other (g : ℕ) (b : Beside) : Seat → Type 0 where
  other : {v : Bool} {c : Cell} → c.now.generation ≡ g → c.faults ≤ b.opened → Other g b (In v c)

-- any other disk
pub data NotOther (g : ℕ) (b : Beside) : Seat → Type 0 where
  not_good : {v : Why} {s : Store} → NotOther g b (Out v s)
  not_calm : {v : Bool} {c : Cell} → (c.now.generation ≡ g → b.opened < c.faults) → NotOther g b (In v c)

-- one of the disks is such
pub data HasOther (g : ℕ) : List Beside → List Seat → Type 0 where
  other_here : {b : Beside} {x : Seat} {bs : List Beside} {xs : List Seat} → Other g b x → HasOther g (b ∷ bs) (x ∷ xs)
  other_later : {b : Beside} {x : Seat} {bs : List Beside} {xs : List Seat} → HasOther g bs xs → HasOther g (b ∷ bs) (x ∷ xs)
