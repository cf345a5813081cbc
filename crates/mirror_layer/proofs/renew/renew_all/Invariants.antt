use Rattle.std.proofs.Common.{◌≡◌, ◌≤◌, ◌-◌, Bool, List, length, true}
use Rattle.mirror_rules.specs.Tree as machine
use Rattle.mirror_rules.specs.Steps.{Says}
use Rattle.mirror_rules.specs.Opening.{Renews}
use Rattle.mirror_layer.specs.View.{beside_in, tree_of}
use Rattle.mirror_layer.specs.Calls.{all_told}
use Rattle.mirror_layer.specs.Places.{IsSpare}
use Rattle.mirror_layer.specs.Renewing.{blanks}
use Rattle.mirror_rules.specs.Claims.{Every}
use Rattle.mirror_layer.proofs.renew.renew_all.Given as goal

abbrev pub invariant-loop-place : goal.invariant-loop-place
invariant-loop-place g l = record {
  live : machine.is_live (tree_of l.node) ≡ true;
  spare : IsSpare l.fn.shape l.spare;
  beside : beside_in l.node ≡ beside_in l.fn.node;
  room : blanks (machine.seats (tree_of l.node)) ≤ length l.images.items;
  images : Every (λ f. f ≡ l.fn.shape) l.images.items;
  renews : (told : Bool) → (told ≡ true → all_told (beside_in l.fn.node) ≡ true) → (s : Says) (zs : List machine.Seat)
      → Renews told l.fn.generation l.fn.shape.pages l.place (l.fn.disks - l.place) (machine.seats (tree_of l.node)) s zs → Renews told l.fn.generation l.fn.shape.pages 0 l.fn.disks (machine.seats (tree_of l.fn.node)) s zs;
}
