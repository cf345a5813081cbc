use Rattle.tower_shows.proofs.Bytes.{bytes_start, bytes_step, bytes_same}
use Rattle.tower_shows.proofs.law.events_keep_bytes.Goals as goal

pub returns-clause-start : goal.returns-clause-start
returns-clause-start c = bytes_start

pub returns-clause-step : goal.returns-clause-step
returns-clause-step c = bytes_step

pub returns-clause-same : goal.returns-clause-same
returns-clause-same c = bytes_same
