use Rattle.std.proofs.Common.{◌≡◌, ◌-◌, ℕ, Bool, true}
use Rattle.mirror_rules.specs.Tree as machine
use Rattle.mirror_rules.specs.Claims.{Nth}
use Rattle.mirror_layer.specs.View.{beside_of, beside_in, cell_of, tree_of}
use Rattle.mirror_layer.specs.Joining.{Tells}
use Rattle.mirror_layer.proofs.JoinSteps.{Turns}
use Rattle.mirror_layer.proofs.join.join.Given as goal

abbrev pub invariant-loop-page : goal.invariant-loop-page
invariant-loop-page g l = record {
  live : machine.is_live (tree_of l.node) ≡ true;
  beside : beside_in l.node ≡ beside_in l.fn.node;
  own : beside_of l.disk ≡ beside_of l.fn.disk;
  turns : (told : Bool) → Tells told (beside_in l.fn.node) l.fn.disk → (i : ℕ) (b : machine.Why) (t : machine.Store) → Nth i (machine.seats (tree_of l.fn.node)) (machine.Out b t)
      → Turns told l.fn.even l.fn.generation l.fn.shape.pages (machine.seats (tree_of l.fn.node)) (cell_of l.fn.disk) l.even (l.fn.shape.pages - l.page) l.page l.wrote (machine.seats (tree_of l.node)) (cell_of l.disk) i b t;
}
