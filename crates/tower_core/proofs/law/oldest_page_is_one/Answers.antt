use Rattle.tower_core.proofs.Uses.{oldest_one}
use Rattle.tower_core.proofs.law.oldest_page_is_one.Goals as goal

pub returns : goal.returns
returns c = oldest_one
