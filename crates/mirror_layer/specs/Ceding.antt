-- A winner gives way: which disks count as down from then on.
use Rattle.std.specs.Prelude.{◌≡◌, ◌<◌, ◌≤◌, Bool, false, List, [], ◌∷◌}
use Rattle.mirror_rules.specs.Tree.{Cell, Store, Why, Down, Seat, In, Out, closed}
use Rattle.mirror_layer.specs.View.{Beside}

-- as the disks were found, a good one has the count that it was opened with
pub data AtFirst (b : Beside) : Seat → Type 0 where
  first_in : {c : Cell} → c.faults ≡ b.opened → AtFirst b (In false c)
  first_out : {v : Why} {s : Store} → AtFirst b (Out v s)

-- a disk that has failed since it was opened counts as down
pub data Cede (b : Beside) : Seat → Seat → Type 0 where
  cede_out : {v : Why} {s : Store} → Cede b (Out v s) (Out v s)
  cede_failed : {v : Bool} {c : Cell} → b.opened < c.faults → Cede b (In v c) (Out Down (closed (In v c)))
  cede_calm : {v : Bool} {c : Cell} → c.faults ≤ b.opened → Cede b (In v c) (In v c)

pub data Cedes : List Beside → List Seat → List Seat → Type 0 where
  cedes_none : Cedes [] [] []
  cedes_more : {b : Beside} {x y : Seat} {bs : List Beside} {xs ys : List Seat} → Cede b x y → Cedes bs xs ys → Cedes (b ∷ bs) (x ∷ xs) (y ∷ ys)
