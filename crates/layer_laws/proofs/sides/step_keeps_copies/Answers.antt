use Rattle.layer_laws.proofs.StepLaws.{step_copies}
use Rattle.layer_laws.proofs.sides.step_keeps_copies.Goals as goal

pub returns : goal.returns
returns c = step_copies
