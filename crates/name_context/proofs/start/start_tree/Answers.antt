use Rattle.std.proofs.Common.{List, ◌∷◌, ◌++◌, ap, ◌∙◌}
use Rattle.name_context.specs.Names.{Name, kept_at}
use Rattle.name_context.specs.Start.{view_names}
use Rattle.name_context.proofs.StartLaws.{view-fresh, views-step, views-done}
use Rattle.name_context.proofs.start.start_tree.Goals as goal

pub put_view-requires-clause-fresh : goal.put_view-requires-clause-fresh
put_view-requires-clause-fresh c = λ path.
    ap (λ (names : List Name). kept_at names (c.loop-view-item.result.0 ∷ path)) c.loop-view.invariant
    ∙ view-fresh c.args.files.now c.args.views.now c.loop-view.view-index c.loop-view-item.result path c.requires.views c.loop-view-test.true c.loop-view-item.is

pub loop-view-preserved : goal.loop-view-preserved
loop-view-preserved c =
    c.in_ok-put_view.ensures ∙ (ap (λ (names : List Name). names ++ view_names c.args.files.now c.loop-view-item.result) c.loop-view.invariant
    ∙ views-step c.args.files.now c.args.views.now c.loop-view.view-index c.loop-view-item.result c.loop-view-test.true c.loop-view-item.is)

pub returns : goal.returns
returns c = c.loop-view.invariant ∙ views-done c.args.files.now c.args.views.now c.loop-view.view-index c.loop-view-test.false
