use Rattle.layer_laws.proofs.TrailLaws.{event_copies}
use Rattle.layer_laws.proofs.sides.event_keeps_copies.Goals as goal

pub returns : goal.returns
returns c = event_copies
