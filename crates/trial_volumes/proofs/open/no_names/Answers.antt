use Rattle.name_context.proofs.StartLaws.{distinct-none}
use Rattle.trial_volumes.proofs.open.no_names.Goals as goal

pub start-requires-clause-views : goal.start-requires-clause-views
start-requires-clause-views c = distinct-none

pub start-requires-clause-files : goal.start-requires-clause-files
start-requires-clause-files c = distinct-none
