use Rattle.marshal_value.proofs.One as one
use Rattle.marshal_value.proofs.laws.one_spelling.Goals as goal

pub returns : goal.returns
returns c = one.one_spelling
