use Rattle.std.proofs.Common.{◌∙◌}
use Rattle.vmm_cache.proofs.Sides.{held_is, is_leaf}
use Rattle.vmm_cache.proofs.leaf.Leaf.held.Goals as goal

pub returns-clause-held : goal.returns-clause-held
returns-clause-held c = c.len.ensures.len ∙ held_is c.args.self.now c.len.ensures.valid.0 c.len.ensures.valid.1

pub returns-clause-leaf : goal.returns-clause-leaf
returns-clause-leaf c = is_leaf c.args.self.now c.len.ensures.valid.0 c.len.ensures.valid.1
