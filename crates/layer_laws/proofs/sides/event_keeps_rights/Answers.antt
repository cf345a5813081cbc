use Rattle.layer_laws.proofs.TrailLaws.{event_rights}
use Rattle.layer_laws.proofs.sides.event_keeps_rights.Goals as goal

pub returns : goal.returns
returns c = event_rights
