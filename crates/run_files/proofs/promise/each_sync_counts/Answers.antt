use Rattle.run_files.proofs.PromiseLaws.{each-sync}
use Rattle.run_files.proofs.promise.each_sync_counts.Goals as goal

pub returns : goal.returns
returns c = each-sync
