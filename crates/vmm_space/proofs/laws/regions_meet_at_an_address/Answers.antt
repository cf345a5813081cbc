use Rattle.vmm_space.proofs.MeetLaws.{meet_at_an_address}
use Rattle.vmm_space.proofs.laws.regions_meet_at_an_address.Goals as goal

pub returns : goal.returns
returns c = meet_at_an_address
