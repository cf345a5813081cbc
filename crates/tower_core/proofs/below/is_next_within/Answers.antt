use Rattle.std.proofs.Common.{◌∙◌, arith, ap, sym}
use Rattle.tower_core.specs.TreeShape.{is_within, IsUpper}
use Rattle.tower_core.proofs.Paths.{is_within-parent}
use Rattle.tower_core.proofs.below.is_next_within.Goals as goal

pub returns-then-node-ne0 : goal.returns-then-node-ne0
returns-then-node-ne0 c =
    let shape = c.args.tree.now in
    let upper : IsUpper shape c.args.node = record { above = omega arith; inside = c.requires.node_in } in
    c.requires.earlier.flag c.parent.result (c.parent.ensures.below upper.above)
    ∙ ap (λ n. is_within shape n c.args.top) c.parent.ensures.value
    ∙ sym (is_within-parent shape c.args.node c.args.top c.nodes-nodes.ensures.tree upper c.if-node-top.false)
