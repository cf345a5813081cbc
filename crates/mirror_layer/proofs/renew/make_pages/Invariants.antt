use Rattle.std.proofs.Common.{◌≡◌, ◌≤◌, Bool, true}
use Rattle.disk_layer.specs.Making.{SameMaking}
use Rattle.mirror_rules.specs.Tree as machine
use Rattle.mirror_layer.specs.View.{beside_in, tree_of}
use Rattle.mirror_layer.specs.Calls.{all_told}
use Rattle.mirror_layer.specs.Renewing.{IsUnmade}
use Rattle.mirror_layer.proofs.FillingSteps.{Filling}
use Rattle.mirror_layer.proofs.renew.make_pages.Given as goal

abbrev pub invariant-loop-page : goal.invariant-loop-page
invariant-loop-page g l = record {
  live : machine.is_live (tree_of l.node) ≡ true;
  beside : beside_in l.node ≡ beside_in l.fn.node;
  within : l.page ≤ l.fn.shape.pages;
  rest : SameMaking l.fn.making l.making;
  blank : IsUnmade l.fn.shape l.fn.making.content → IsUnmade l.fn.shape l.making.content;
  filled : (told : Bool) → (told ≡ true → all_told (beside_in l.fn.node) ≡ true) → Filling told l.fn.shape l.page (machine.seats (tree_of l.fn.node)) l.fn.making (machine.seats (tree_of l.node)) l.making;
}
