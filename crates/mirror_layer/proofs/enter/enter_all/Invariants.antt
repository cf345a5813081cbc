use Rattle.std.proofs.Common.{◌≡◌, ◌-◌, ◌||◌, Bool, List, true}
use Rattle.mirror_rules.specs.Tree as machine
use Rattle.mirror_rules.specs.Steps.{Says}
use Rattle.mirror_rules.specs.Opening.{Enters}
use Rattle.mirror_layer.specs.View.{beside_in, tree_of}
use Rattle.mirror_layer.specs.Calls.{all_told}
use Rattle.mirror_layer.specs.Places.{IsSpare}
use Rattle.mirror_layer.specs.Coming.{Coming}
use Rattle.mirror_layer.proofs.enter.enter_all.Given as goal

abbrev pub invariant-loop-place : goal.invariant-loop-place
invariant-loop-place g l = record {
  live : machine.is_live (tree_of l.node) ≡ true;
  spare : IsSpare l.fn.shape l.spare;
  beside : beside_in l.node ≡ beside_in l.fn.node;
  coming : Coming (all_told (beside_in l.fn.node)) l.fn.shape.pages l.place (machine.seats (tree_of l.fn.node)) (machine.seats (tree_of l.node)) l.came;
  enters : (told : Bool) → (told ≡ true → all_told (beside_in l.fn.node) ≡ true) → (s : Says) (w : Bool) (zs : List machine.Seat)
      → Enters told l.fn.generation l.fn.shape.pages l.place (l.fn.disks - l.place) (machine.seats (tree_of l.node)) s w zs → Enters told l.fn.generation l.fn.shape.pages 0 l.fn.disks (machine.seats (tree_of l.fn.node)) s (l.wrote || w) zs;
}
