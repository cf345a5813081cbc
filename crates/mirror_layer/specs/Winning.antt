-- The disks of which one wins an opening.
use Rattle.std.specs.Prelude.{◌≡◌, ℕ, max, ◌<◌, Bool, true, false, List, [], ◌∷◌}
use Rattle.mirror_rules.specs.Tree.{Image, Cell, Store, Why, Seat, In, Out}
use Rattle.mirror_rules.specs.Steps.{Says}
use Rattle.mirror_rules.specs.Opening.{AtMost, Wins, Enters}
use Rattle.mirror_layer.specs.declared.node.Node.{Node, Opened, Shut, Coherency', Mirror'}
use Rattle.mirror_layer.specs.View.{seat_of, cell_of}

-- a disk that is not live
pub data Waits : Seat → Type 0 where
  waits_in : {c : Cell} → Waits (In false c)
  waits_out : {b : Why} {s : Store} → Waits (Out b s)

-- a good disk is below this generation
pub data Below (g : ℕ) : Seat → Type 0 where
  below_in : {b : Bool} {c : Cell} → c.now.generation < g → Below g (In b c)
  below_out : {b : Why} {s : Store} → Below g (Out b s)

-- no disk is live, and no good one passes this generation
abbrev pub WaitsUnder : {D H : Type 0} → ℕ → Node D H → Type 0
WaitsUnder g (Opened m d) = Waits (seat_of m (cell_of d)) × AtMost g (seat_of m (cell_of d))
WaitsUnder g (Shut s) = Unit {0}
WaitsUnder g (Coherency' p t) = WaitsUnder g t
WaitsUnder g (Mirror' p l q r) = WaitsUnder g l × WaitsUnder g r

-- the greatest generation of the good disks
abbrev pub best : List Seat → ℕ
best [] = 0
best (In b c ∷ xs) = max c.now.generation (best xs)
best (Out b s ∷ xs) = best xs

-- one disk of the generation g won, and others joined it
pub record Admits (told : Bool) (g pages disks : ℕ) (xs : List Seat) (s : Says) (wrote : Bool) (zs : List Seat) : Type 0 where
  pub winner : Image
  pub level : winner.generation ≡ g
  pub row : List Seat
  pub wins : Wins winner xs row
  pub enters : Enters told g pages 0 disks row s wrote zs

-- whether a disk is good, and did not give way
abbrev pub is_good : List Seat → Bool
is_good [] = false
is_good (In b c ∷ xs) = true
is_good (Out b s ∷ xs) = is_good xs
