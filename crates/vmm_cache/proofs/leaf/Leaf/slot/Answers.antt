use Rattle.std.proofs.Common.{sym}
use Rattle.vmm_cache.proofs.Sides.{seen_bare}
use Rattle.vmm_cache.proofs.leaf.Leaf.slot.Goals as goal

pub returns-in-None : goal.returns-in-None
returns-in-None c = seen_bare c.args.self.now c.args.page (sym c.in-None.ensures)
