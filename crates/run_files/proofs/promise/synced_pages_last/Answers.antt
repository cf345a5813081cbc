use Rattle.run_files.proofs.PromiseLaws.{each-sync-lasts, runs-go-on}
use Rattle.run_files.proofs.promise.synced_pages_last.Goals as goal

pub returns-clause-runs : goal.returns-clause-runs
returns-clause-runs c = runs-go-on

pub returns-clause-each : goal.returns-clause-each
returns-clause-each c = each-sync-lasts
