-- The disk at a place of a ground, and the exchange of it for another leaf.
use Rattle.std.specs.Prelude.{◌≡◌, ℕ, List, set, Bool, true, Result}
use Rattle.disk_format.specs.declared.shape.ImageShape.{ImageShape}
use Rattle.page_ground.specs.declared.fault.StoreFault.{StoreFault}
use Rattle.mirror_rules.specs.Tree.{Cell, Seat, In, Out, seats}
use Rattle.mirror_rules.specs.Tree as machine
use Rattle.mirror_rules.specs.Claims.{Nth}
use Rattle.mirror_rules.specs.Opening.{Enters}
use Rattle.mirror_layer.specs.declared.node.Node.{Node, Opened, Shut, Coherency', Mirror'}
use Rattle.mirror_layer.specs.View.{Beside, seat_of, cell_of, why_of, store_of, tree_of, beside_of, beside_of_shut, beside_in}
use Rattle.mirror_layer.specs.Calls.{answered, all_told}

-- a disk, opened or not, and not a mirror or a layer
abbrev pub IsLeaf : {D H : Type 0} → Node D H → Type 0
IsLeaf (Opened m d) = Unit {0}
IsLeaf (Shut s) = Unit {0}
IsLeaf (Coherency' p t) = ⊥
IsLeaf (Mirror' p l q r) = ⊥

-- the first disk of a part
abbrev pub first_seat : {D H : Type 0} → Node D H → Seat
first_seat (Opened m d) = seat_of m (cell_of d)
first_seat (Shut s) = Out (why_of s) (store_of s)
first_seat (Coherency' p t) = first_seat t
first_seat (Mirror' p l q r) = first_seat l

abbrev pub first_beside : {D H : Type 0} → Node D H → Beside
first_beside (Opened m d) = beside_of d
first_beside (Shut s) = beside_of_shut s
first_beside (Coherency' p t) = first_beside t
first_beside (Mirror' p l q r) = first_beside l

-- the disk at a place of the ground is now the leaf, and the leaf stands there
pub record Exchanged {D H : Type 0} (place : ℕ) (leaf leaf_after node node_after : Node D H) : Type 0 where
  pub taken : IsLeaf leaf_after
  pub seat : Nth place (seats (tree_of node)) (first_seat leaf_after)
  pub beside : Nth place (beside_in node) (first_beside leaf_after)
  pub row : seats (tree_of node_after) ≡ set (seats (tree_of node)) place (first_seat leaf)
  pub besides : beside_in node_after ≡ set (beside_in node) place (first_beside leaf)

-- a leaf joins a ground of the generation g if it is a good disk that is not live, at whatever place it was taken from
abbrev pub EntersLeaf : Bool → ℕ → ℕ → List Seat → Seat → Result (Unit {0}) StoreFault → Bool → List Seat → Seat → Type 0
EntersLeaf told g n xs x result wrote ys y = (i : ℕ) (b : machine.Why) (s : machine.Store) → Nth i xs (Out b s) → Enters told g n i 1 (set xs i x) (answered result) wrote (set ys i y)

abbrev pub LeafTells : {D H : Type 0} → Bool → List Beside → Node D H → Type 0
LeafTells told beside leaf = told ≡ true → (all_told beside ≡ true) × ((first_beside leaf).told ≡ true)

-- a leaf that is no disk's, and stands at the place of one that is taken out
pub record IsSpare {D H : Type 0} (shape : ImageShape) (leaf : Node D H) : Type 0 where
  pub one : IsLeaf leaf
  pub why : machine.Why
  pub store : machine.Store
  pub out : first_seat leaf ≡ Out why store
  pub fits : (first_beside leaf).shape ≡ shape
  pub tells : (first_beside leaf).told ≡ true
