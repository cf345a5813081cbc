use Rattle.layer_laws.proofs.Accesses.{read_of_copy, write_of_copy, clear_of_copy}
use Rattle.layer_laws.proofs.pages.access_is_of_the_copy.Goals as goal

pub returns-clause-read : goal.returns-clause-read
returns-clause-read c = read_of_copy

pub returns-clause-write : goal.returns-clause-write
returns-clause-write c = write_of_copy

pub returns-clause-clear : goal.returns-clause-clear
returns-clause-clear c = clear_of_copy
