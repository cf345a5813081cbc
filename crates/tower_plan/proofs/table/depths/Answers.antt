use Rattle.std.proofs.Common.{◌∙◌, ◌+◌, arith, ap, sym, length-set}
use Rattle.tower_core.specs.TreeShape.{IsChild}
use Rattle.tower_plan.specs.Plan.{depth_of}
use Rattle.tower_plan.proofs.Rules.{depth_of-child}
use Rattle.tower_core.proofs.Flags.{filled}
use Rattle.tower_plan.proofs.Tables.{filled_low}
use Rattle.tower_plan.proofs.table.depths.Goals as goal

pub loop-node-preserved : goal.loop-node-preserved
loop-node-preserved c =
    let shape = c.args.tree.now in
    let inv = c.loop-node.invariant in
    let node = c.loop-node.node in
    let up = c.parent.result in
    let child : IsChild shape node up = record { upper = record { above = omega arith; inside = omega arith }; hangs = sym c.parent.ensures.value } in
    let deeper = depth_of-child shape node up c.nodes-node-end.ensures.tree child in
    let below = c.parent.ensures.below (omega arith) in
    record {
      len = length-set c.loop-node.depths node _ ∙ inv.len;
      done = filled c.loop-node.depths node _ 0 (depth_of shape) (omega arith) (ap (λ n. n + 1) (inv.done up below) ∙ sym deeper) inv.done;
      low = filled_low c.loop-node.depths node _ (omega arith) (omega (arith, inv.low up below)) inv.low;
    }
