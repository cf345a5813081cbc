use Rattle.sub_replicon.proofs.PlaceLaws as place
use Rattle.sub_replicon.proofs.laws.refused_at_a_place.Goals as goal

pub returns : goal.returns
returns c = place.refused_at_a_place
