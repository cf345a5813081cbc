use Rattle.mirror_rules.proofs.GivesLaws.{asked-kind, look-kind}
use Rattle.mirror_rules.proofs.GuardLaws.{put-kind, flush-kind}
use Rattle.mirror_rules.proofs.session.bad_disks_stay_bad.Goals as goal

pub returns-clause-round : goal.returns-clause-round
returns-clause-round c = λ a s xs ys k. asked-kind k.each

pub returns-clause-read : goal.returns-clause-read
returns-clause-read c = λ p x s xs ys k. look-kind k.each

pub returns-clause-write : goal.returns-clause-write
returns-clause-write c = λ p x o q s xs ys k. put-kind k

pub returns-clause-flush : goal.returns-clause-flush
returns-clause-flush c = λ o q g h s xs ys k. flush-kind k
