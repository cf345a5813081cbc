use Rattle.std.specs.Prelude.{◌↔◌}
use Rattle.std.proofs.Common.{◌∙◌, ℕ, List, Contains, subst, sym, rules}
use Rattle.tower_core.specs.TreeShape.{IsChild}
use Rattle.std.proofs.lemmas.List.Elements.{All-push}
use Rattle.page_exchange.specs.Listed.{IsFresh}
use Rattle.page_exchange.proofs.Fresh as fresh
use Rattle.page_exchange.proofs.starting.fresh_nodes.Goals as goal

pub loop-node-preserved : goal.loop-node-preserved
loop-node-preserved c = record {
  many = search rules;
  each = fresh.one_table c.args.tree.now c.args.file c.loop-node.list.items _ c.in_ok-fresh_table.field-0 c.loop-node.node c.in_ok-push.ensures.items (sym c.loop-node.list.ok.0 ∙ c.loop-node.invariant.many) c.loop-node.invariant.each c.in_ok-fresh_table.ensures.table;
  fresh = rw c.in_ok-push.ensures.items (All-push IsFresh c.loop-node.list.items c.in_ok-fresh_table.field-0 c.loop-node.invariant.fresh c.in_ok-fresh_table.ensures.fresh);
}

pub fresh_table-requires-clause-are : goal.fresh_table-requires-clause-are
fresh_table-requires-clause-are c = subst (λ (l : List ℕ). (child : ℕ) → Contains l child ↔ IsChild c.args.tree.now child c.loop-node.node) (sym c.deref.ensures.value) c.in_ok-children_of.ensures.are
