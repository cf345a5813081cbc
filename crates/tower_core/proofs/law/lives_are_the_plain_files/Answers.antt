use Rattle.tower_core.proofs.Lives.{lives_agree}
use Rattle.tower_core.proofs.law.lives_are_the_plain_files.Goals as goal

pub returns : goal.returns
returns c = lives_agree
