use Rattle.std.proofs.Common.{arith, sym, ◌∙◌, ap}
use Rattle.tower_core.specs.TreeShape.{is_within, IsUpper}
use Rattle.tower_core.proofs.Paths.{is_within-parent}
use Rattle.tower_core.proofs.tree.Tree.within.Goals as goal

pub loop-at-preserved : goal.loop-at-preserved
loop-at-preserved c =
    let shape = c.args.self.now in
    let upper : IsUpper shape c.loop-at.at = record { above = omega arith; inside = c.loop-at.invariant.0 } in
    let up = is_within-parent shape c.loop-at.at c.args.top c.parent-at.ensures.tree upper c.loop-at-test.true in
    (omega arith, c.loop-at.invariant.1 ∙ up ∙ ap (λ n. is_within shape n c.args.top) (sym c.parent-at.ensures.value))
