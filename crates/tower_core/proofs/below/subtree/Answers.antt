use Rattle.std.proofs.Common.{◌∙◌, arith, false, length-set}
use Rattle.tower_core.specs.TreeShape.{is_within}
use Rattle.tower_core.proofs.Flags.{filled}
use Rattle.tower_core.proofs.below.subtree.Goals as goal

pub loop-node-preserved : goal.loop-node-preserved
loop-node-preserved c =
    let inv = c.loop-node.invariant in
    record {
      len = length-set c.loop-node.within c.loop-node.node _ ∙ inv.len;
      done = filled c.loop-node.within c.loop-node.node _ false (λ n. is_within c.args.tree.now n c.args.top) (omega arith) c.is_next_within.ensures inv.done;
    }
