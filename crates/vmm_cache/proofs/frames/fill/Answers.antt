use Rattle.vmm_cache.proofs.Entries.{filled}
use Rattle.vmm_cache.proofs.frames.fill.Goals as goal

pub returns-in-Ok-clause-ok : goal.returns-in-Ok-clause-ok
returns-in-Ok-clause-ok c = filled c.args.held.now c.args.page c.args.slot c.requires.absent c.requires.room c.put.new.self c.in-Ok.ensures.entries
