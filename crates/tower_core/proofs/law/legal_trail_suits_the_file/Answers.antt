use Rattle.tower_core.proofs.Lives.{legal_suits}
use Rattle.tower_core.proofs.law.legal_trail_suits_the_file.Goals as goal

pub returns : goal.returns
returns c = legal_suits
