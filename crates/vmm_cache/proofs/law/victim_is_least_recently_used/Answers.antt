use Rattle.vmm_cache.proofs.TrailLaws.{many_held}
use Rattle.vmm_cache.proofs.law.victim_is_least_recently_used.Goals as goal

pub returns-clause-many : goal.returns-clause-many
returns-clause-many c = many_held
