use Rattle.spr_volume.proofs.Drives.{tries_end}
use Rattle.spr_volume.proofs.law.tries_come_to_an_end.Goals as goal

pub returns : goal.returns
returns c = tries_end
