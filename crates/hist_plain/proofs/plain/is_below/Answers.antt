use Rattle.std.proofs.Common.{◌≢◌, ◌<◌, length, get_or, arith, ◌∙◌}
use Rattle.hist_plain.proofs.TreeLemmas.{step_up}
use Rattle.hist_plain.proofs.plain.is_below.Goals as goal

pub loop-at-preserved : goal.loop-at-preserved
loop-at-preserved c =
    let lt : c.loop-at.at < length c.args.parents.now = c.loop-at.invariant.0 in
    let below = c.requires.tree.below c.loop-at.at in
    let inner : c.loop-at.at ≢ 0 = c.if-at-ne0.true in
    let other : c.loop-at.at ≢ c.args.top = c.loop-at-test.true in
    let less : get_or c.args.parents.now c.loop-at.at 0 < c.loop-at.at = below (omega arith) lt in
    (omega arith, step_up c.args.parents.now c.args.top c.loop-at.at c.requires.tree lt other inner ∙ c.loop-at.invariant.1)
