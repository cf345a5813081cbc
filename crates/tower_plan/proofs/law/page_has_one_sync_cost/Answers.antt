use Rattle.tower_plan.proofs.Syncing.{one_cost}
use Rattle.tower_plan.proofs.law.page_has_one_sync_cost.Goals as goal

pub returns : goal.returns
returns c = one_cost
