use Rattle.spr_volume.proofs.Reading.{taken_before}
use Rattle.spr_volume.proofs.law.pages_read_again_were_taken.Goals as goal

pub returns : goal.returns
returns c = taken_before
