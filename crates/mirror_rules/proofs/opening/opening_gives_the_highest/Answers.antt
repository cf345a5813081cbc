use Rattle.mirror_rules.proofs.GivesLaws.{opens-gives}
use Rattle.mirror_rules.proofs.opening.opening_gives_the_highest.Goals as goal

pub returns : goal.returns
returns c = λ n g owed ss us t h m z. opens-gives t h m z
