use Rattle.run_files.proofs.PromiseLaws.{disk-lasts-on, next-begins}
use Rattle.run_files.proofs.promise.synced_pages_begin_the_next_run.Goals as goal

pub returns-clause-next : goal.returns-clause-next
returns-clause-next c = next-begins

pub returns-clause-on : goal.returns-clause-on
returns-clause-on c = disk-lasts-on
