use Rattle.mirror_rules.proofs.LevelLaws.{opens-level, opens-even, opens-kept}
use Rattle.mirror_rules.proofs.opening.opening_levels_live_disks.Goals as goal

pub returns-clause-level : goal.returns-clause-level
returns-clause-level c = λ told owed n g ss xs us h m. (opens-level h m).0

pub returns-clause-live : goal.returns-clause-live
returns-clause-live c = λ told owed n g ss xs us h m. (opens-level h m).1

pub returns-clause-owes : goal.returns-clause-owes
returns-clause-owes c = λ told owed n g ss xs us h m. (opens-level h m).2

pub returns-clause-even : goal.returns-clause-even
returns-clause-even c = λ told owed n g ss xs us h m. opens-even h m

pub returns-clause-kept : goal.returns-clause-kept
returns-clause-kept c = λ v owed n g ss xs us h m z t. opens-kept h m z t
