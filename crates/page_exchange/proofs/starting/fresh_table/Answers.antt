use Rattle.std.proofs.Common.{◌∙◌, sym}
use Rattle.page_exchange.proofs.Fresh as fresh
use Rattle.page_exchange.proofs.starting.fresh_table.Goals as goal

pub returns-in_ok-layer-clause-table : goal.returns-in_ok-layer-clause-table
returns-in_ok-layer-clause-table c = fresh.layer_of c.args.tree.now c.args.file c.args.node c.in_ok-layer.layer c.args.children.now c.in_ok-layer.ensures.file c.in_ok-layer.ensures.children c.requires.are (sym c.frames-frames.ensures ∙ c.if-frames-eq0.true)
