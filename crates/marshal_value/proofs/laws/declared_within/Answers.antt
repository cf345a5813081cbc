use Rattle.marshal_value.proofs.Fitting as fitting
use Rattle.marshal_value.proofs.laws.declared_within.Goals as goal

pub returns : goal.returns
returns c = fitting.declared_within
