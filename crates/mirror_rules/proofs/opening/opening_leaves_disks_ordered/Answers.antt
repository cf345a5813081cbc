use Rattle.mirror_rules.proofs.EntryLaws.{opening-end, made-whole, bad-kept}
use Rattle.mirror_rules.proofs.BlameLaws.{fate-behind}
use Rattle.mirror_rules.proofs.GivesLaws.{opens-stay}
use Rattle.mirror_rules.proofs.opening.opening_leaves_disks_ordered.Goals as goal

pub returns-clause-ends : goal.returns-clause-ends
returns-clause-ends c = λ v n o ss xs us h m z t. opening-end h m z t

pub returns-clause-behind : goal.returns-clause-behind
returns-clause-behind c = λ F g o c h. fate-behind h

pub returns-clause-blank : goal.returns-clause-blank
returns-clause-blank c = λ v F g s x i h e z. made-whole e h z

pub returns-clause-stays : goal.returns-clause-stays
returns-clause-stays c = λ told n o xs us h. opens-stay h

pub returns-clause-bad : goal.returns-clause-bad
returns-clause-bad c = λ told n o ss xs us h m. bad-kept m (opens-stay h)
