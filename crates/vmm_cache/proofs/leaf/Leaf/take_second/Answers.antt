use Rattle.std.proofs.Common.{sym}
use Rattle.vmm_cache.proofs.Taken.{keeps_answered}
use Rattle.vmm_cache.proofs.leaf.Leaf.take_second.Goals as goal

pub settle_page-requires-in-WriteOut-clause-keeps : goal.settle_page-requires-in-WriteOut-clause-keeps
settle_page-requires-in-WriteOut-clause-keeps c = keeps_answered c.args.self.now.file.page_size c.args.frame.now c.in-Some-Some-Page.what (sym c.in-Some-Some-Page.ensures) c.in-WriteOut.is
