use Rattle.page_messages.proofs.NodeSets.{without_is}
use Rattle.page_messages.proofs.masks.without.Goals as goal

pub returns : goal.returns
returns c = without_is c.args.mask c.args.node c.ranges.mask.fits c.requires
