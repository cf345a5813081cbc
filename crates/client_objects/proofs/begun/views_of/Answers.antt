use Rattle.std.proofs.Common.{rules, ◌≡◌, List, [], ◌∷◌, ◌++◌, Some, None, sym, ap, ◌∙◌}
use Rattle.stack_accept.specs.Mount.{is_view}
use Rattle.client_objects.proofs.ViewLaws.{View, view_by, views-with, views-without}
use Rattle.client_objects.proofs.begun.views_of.Goals as goal
use Rattle.client_objects.proofs.begun.views_of.Goals.{in-Some+in_ok-push, in_default}

pub loop-number-preserved : goal.loop-number-preserved
loop-number-preserved c = elim c.match-branch-2.branch [
  | in-Some+in_ok-push w ↦
      let node = c.index-nodes-number.result in
      let has : Some w.in-Some.view ≡ view_by (is_view node.kind) node c.loop-number.number = search rules in
      ap (λ v. v.items) w.views-is ∙ (w.in_ok-push.ensures.items ∙ (ap (λ (views : List View). views ++ w.in-Some.view ∷ []) c.loop-number.invariant
      ∙ sym (views-with c.args.nodes.now c.loop-number.number node w.in-Some.view c.loop-number-test.true c.index-nodes-number.is has)))
  | in_default w ↦
      let node = c.index-nodes-number.result in
      let none : view_by (is_view node.kind) node c.loop-number.number ≡ None = search rules in
      ap (λ v. v.items) w.views-is ∙ (c.loop-number.invariant
      ∙ sym (views-without c.args.nodes.now c.loop-number.number node c.loop-number-test.true c.index-nodes-number.is none))
]
