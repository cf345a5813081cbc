use Rattle.spr_volume.proofs.Reading.{reads_find}
use Rattle.spr_volume.proofs.law.reads_find_the_file.Goals as goal

pub returns : goal.returns
returns c = reads_find
