use Rattle.sub_caching.proofs.RouteLaws as laws
use Rattle.sub_caching.proofs.laws.calls_go_local.Goals as goal

pub returns : goal.returns
returns c = laws.calls_go_local
