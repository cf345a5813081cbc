use Rattle.layer_laws.proofs.StepLaws.{step_rights}
use Rattle.layer_laws.proofs.sides.step_keeps_rights.Goals as goal

pub returns : goal.returns
returns c = step_rights
