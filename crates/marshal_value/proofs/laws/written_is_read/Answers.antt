use Rattle.marshal_value.proofs.One as one
use Rattle.marshal_value.proofs.laws.written_is_read.Goals as goal

pub returns : goal.returns
returns c = one.written_is_read
