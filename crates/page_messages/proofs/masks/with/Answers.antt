use Rattle.page_messages.proofs.NodeSets.{with_is}
use Rattle.page_messages.proofs.masks.with.Goals as goal

pub returns : goal.returns
returns c = with_is c.args.mask c.args.node c.requires
