use Rattle.std.proofs.Common.{◌<◌, ◌∙◌, ℕ, List, sym, ap, subst, arith, All, Vec, Global}
use Rattle.page_exchange.proofs.Fresh as fresh
use Rattle.page_exchange.proofs.starting.children_of.Goals as goal
use Rattle.page_exchange.proofs.starting.children_of.Goals.{then-parent-node+in_ok-push, else-parent-node}

pub loop-child-preserved : goal.loop-child-preserved
loop-child-preserved c =
    let many = c.nodes-child-end.ensures.count in
    let inside = c.loop-child-test.true in
    elim c.if-parent-node.branch [
      | then-parent-node+in_ok-push w ↦
          let items = ap (λ (v : Vec ℕ Global). v.items) w.children-is ∙ w.in_ok-push.ensures.items in
          record {
            are = fresh.one_child c.args.tree.now c.args.node c.loop-child.children.items c.loop-child.child c.loop-child.invariant.are _ items (record { above = omega (arith, c.loop-child.auto.child); inside = omega (arith, inside, many) }) (sym c.parent.ensures.value ∙ w.if-parent-node.true);
            few = fresh.few_pushed c.loop-child.children.items _ c.loop-child.child items c.loop-child.invariant.few (omega (arith, inside, c.nodes-child-end.ensures.few));
          }
      | else-parent-node w ↦
          let items = ap (λ (v : Vec ℕ Global). v.items) w.children-is in
          record {
            are = fresh.no_child c.args.tree.now c.args.node c.loop-child.children.items c.loop-child.child c.loop-child.invariant.are _ items (λ e. w.if-parent-node.false (c.parent.ensures.value ∙ e));
            few = subst (λ (l : List ℕ). All (λ child. child < 32) l) (sym items) c.loop-child.invariant.few;
          }
    ]

pub returns-clause-are : goal.returns-clause-are
returns-clause-are c = fresh.all_children c.args.tree.now c.args.node _ c.loop-child.child c.loop-child.invariant.are (omega (arith, c.loop-child-test.false, c.nodes-child-end.ensures.count))
