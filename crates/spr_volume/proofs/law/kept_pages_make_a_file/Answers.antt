use Rattle.spr_volume.proofs.Kept.{kept_file}
use Rattle.spr_volume.proofs.law.kept_pages_make_a_file.Goals as goal

pub returns : goal.returns
returns c = kept_file
