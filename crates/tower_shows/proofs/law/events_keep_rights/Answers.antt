use Rattle.tower_shows.proofs.Rights.{rights_start, rights_step, rights_same}
use Rattle.tower_shows.proofs.law.events_keep_rights.Goals as goal

pub returns-clause-start : goal.returns-clause-start
returns-clause-start c = rights_start

pub returns-clause-step : goal.returns-clause-step
returns-clause-step c = rights_step

pub returns-clause-same : goal.returns-clause-same
returns-clause-same c = rights_same
