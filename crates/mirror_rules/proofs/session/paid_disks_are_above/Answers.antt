use Rattle.std.proofs.Common.{refl}
use Rattle.mirror_rules.proofs.GenLaws.{pays-up, pays-has}
use Rattle.mirror_rules.proofs.session.paid_disks_are_above.Goals as goal

pub returns-clause-lifts : goal.returns-clause-lifts
returns-clause-lifts c = λ w g h xs ys k l. pays-up k refl l

pub returns-clause-above : goal.returns-clause-above
returns-clause-above c = λ v w g h xs ys k l n. pays-has k refl l n
