use Rattle.idl_reader.proofs.Exactly.{one_value, printed_read}
use Rattle.idl_reader.proofs.read.texts_and_declarations.Goals as goal

pub returns-clause-one : goal.returns-clause-one
returns-clause-one c = one_value

pub returns-clause-printed : goal.returns-clause-printed
returns-clause-printed c = printed_read
