use Rattle.stack_seats.proofs.NameLaws.{mounted-named}
use Rattle.stack_seats.proofs.law.texts_have_names.Goals as goal

pub returns : goal.returns
returns c = mounted-named
