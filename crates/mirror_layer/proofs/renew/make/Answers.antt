use Rattle.std.proofs.Common.{true, false}
use Rattle.mirror_rules.specs.Tree.{seats}
use Rattle.mirror_layer.specs.View.{tree_of}
use Rattle.mirror_layer.proofs.RenewSteps.{began-as, begun-unmade, unbegun-by, made-by, unended-by, unwritten-by, gone-by, makes-as}
use Rattle.mirror_layer.proofs.renew.make.Goals as goal

pub returns-in-Err-clause-left : goal.returns-in-Err-clause-left
returns-in-Err-clause-left g c told h = unbegun-by (record { disk = c.args.disk; shape = c.args.shape.now; content = g.S.Store.content c.args.store; faults = g.S.Store.faults c.args.store }) (g.S.Store.content c.in-Err.err.store) c.args.fresh c.requires.fresh c.in-Err.ensures.still c.requires.zeros c.in-Err.ensures.err.0

pub returns-in-Ok-end-clause-made : goal.returns-in-Ok-end-clause-made
returns-in-Ok-end-clause-made g c told h =
    made-by (record { disk = c.args.disk; shape = c.args.shape.now; content = g.S.Store.content c.args.store; faults = g.S.Store.faults c.args.store }) c.in-Ok.begun c.make_pages.new.making c.in-Ok-end.made
    (began-as c.args.disk (g.S.Store.content c.args.store) (g.S.Store.faults c.args.store) c.in-Ok.begun c.requires.fresh c.in-Ok.ensures.ok)
    c.make_pages.ensures.rest
    (makes-as told c.in-Ok-true.field-0 true c.args.shape.now.pages (seats (tree_of c.args.node.now)) c.in-Ok.begun (seats (tree_of c.make_pages.new.node)) c.make_pages.new.making c.in-Ok-true.field-0-test (c.in-Ok-true.ensures.makes told h))
    c.in-Ok-end.ensures.ok c.in-Ok-end.ensures.pages c.in-Ok-end.ensures.image c.in-Ok-end.ensures.kept

pub returns-in-Err-end-clause-left : goal.returns-in-Err-end-clause-left
returns-in-Err-end-clause-left g c told h =
    unended-by (record { disk = c.args.disk; shape = c.args.shape.now; content = g.S.Store.content c.args.store; faults = g.S.Store.faults c.args.store }) c.in-Ok.begun c.make_pages.new.making (g.S.Store.content c.in-Err-end.err.store)
    (began-as c.args.disk (g.S.Store.content c.args.store) (g.S.Store.faults c.args.store) c.in-Ok.begun c.requires.fresh c.in-Ok.ensures.ok)
    c.make_pages.ensures.rest
    (makes-as told c.in-Ok-true.field-0 true c.args.shape.now.pages (seats (tree_of c.args.node.now)) c.in-Ok.begun (seats (tree_of c.make_pages.new.node)) c.make_pages.new.making c.in-Ok-true.field-0-test (c.in-Ok-true.ensures.makes told h))
    (c.make_pages.ensures.blank (begun-unmade (g.S.Store.content c.args.store) c.in-Ok.begun.content c.requires.fresh c.in-Ok.ensures.blank c.requires.zeros))
    c.in-Err-end.ensures.err.0 c.in-Err-end.ensures.told c.in-Err-end.ensures.whole

pub returns-in-Ok-false-clause-left : goal.returns-in-Ok-false-clause-left
returns-in-Ok-false-clause-left g c told h =
    unwritten-by (record { disk = c.args.disk; shape = c.args.shape.now; content = g.S.Store.content c.args.store; faults = g.S.Store.faults c.args.store }) c.in-Ok.begun c.make_pages.new.making (g.S.Store.content c.leave.result)
    (began-as c.args.disk (g.S.Store.content c.args.store) (g.S.Store.faults c.args.store) c.in-Ok.begun c.requires.fresh c.in-Ok.ensures.ok)
    (makes-as told c.in-Ok-false.field-0 false c.args.shape.now.pages (seats (tree_of c.args.node.now)) c.in-Ok.begun (seats (tree_of c.make_pages.new.node)) c.make_pages.new.making c.in-Ok-false.field-0-test (c.in-Ok-false.ensures.makes told h))
    (c.make_pages.ensures.blank (begun-unmade (g.S.Store.content c.args.store) c.in-Ok.begun.content c.requires.fresh c.in-Ok.ensures.blank c.requires.zeros))
    c.leave.ensures.content c.leave.ensures.faults

pub returns-in-Err-make_pages-clause-left : goal.returns-in-Err-make_pages-clause-left
returns-in-Err-make_pages-clause-left g c told h =
    gone-by (record { disk = c.args.disk; shape = c.args.shape.now; content = g.S.Store.content c.args.store; faults = g.S.Store.faults c.args.store }) c.in-Ok.begun c.make_pages.new.making (g.S.Store.content c.leave-in-Err-make_pages.result)
    (began-as c.args.disk (g.S.Store.content c.args.store) (g.S.Store.faults c.args.store) c.in-Ok.begun c.requires.fresh c.in-Ok.ensures.ok)
    (c.in-Err-make_pages.ensures.makes told h)
    (c.make_pages.ensures.blank (begun-unmade (g.S.Store.content c.args.store) c.in-Ok.begun.content c.requires.fresh c.in-Ok.ensures.blank c.requires.zeros))
    c.leave-in-Err-make_pages.ensures.content c.leave-in-Err-make_pages.ensures.faults
