use Rattle.mirror_rules.proofs.GivesLaws.{opens-bad}
use Rattle.mirror_rules.proofs.LeftLaws.{opens-excused}
use Rattle.mirror_rules.proofs.BlameLaws.{opens-whole, opens-blame}
use Rattle.mirror_rules.proofs.opening.opening_leaves_out_who_refused.Goals as goal

pub returns-clause-left : goal.returns-clause-left
returns-clause-left c = λ told owed n g ss xs us h m. opens-excused h m

pub returns-clause-whole : goal.returns-clause-whole
returns-clause-whole c = λ told owed n g ss xs us h m k. opens-whole h m k

pub returns-clause-blames : goal.returns-clause-blames
returns-clause-blames c = λ told n d k ss xs us h m. opens-blame h m

pub returns-clause-bad : goal.returns-clause-bad
returns-clause-bad c = λ told n d xs us h. opens-bad h
