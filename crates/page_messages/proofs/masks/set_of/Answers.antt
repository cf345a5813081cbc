use Rattle.page_messages.proofs.NodeSets.{none_among, one_more}
use Rattle.page_messages.proofs.masks.set_of.Goals as goal

pub loop-node-init : goal.loop-node-init
loop-node-init c = λ n. none_among _ n

pub loop-node-preserved : goal.loop-node-preserved
loop-node-preserved c = one_more c.args.nodes.now c.loop-node.node-index c.loop-node.mask c.with-mask.result c.with-mask.ensures (c.requires c.loop-node.node-index 0 c.loop-node-test.true) c.loop-node.invariant
