use Rattle.vmm_cache.proofs.TrailLaws.{uses_follow}
use Rattle.vmm_cache.proofs.law.uses_follow_the_trail.Goals as goal

pub returns-clause-event : goal.returns-clause-event
returns-clause-event c = uses_follow
