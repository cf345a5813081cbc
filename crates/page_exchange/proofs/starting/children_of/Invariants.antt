use Rattle.std.proofs.Common.{◌<◌, ◌↔◌, ℕ, All, Contains}
use Rattle.tower_core.specs.TreeShape.{IsChild}
use Rattle.page_exchange.proofs.starting.children_of.Given as goal

abbrev pub invariant-loop-child : goal.invariant-loop-child
invariant-loop-child l = record {
  are : (child : ℕ) → Contains l.children.items child ↔ (IsChild l.tree child l.node × (child < l.child));
  few : All (λ child. child < 32) l.children.items;
}
