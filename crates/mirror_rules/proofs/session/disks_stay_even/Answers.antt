use Rattle.std.proofs.Common.{refl}
use Rattle.mirror_rules.proofs.GenLaws.{puts-even, looks-even, flush-even, flush-paid, flush-levels}
use Rattle.mirror_rules.proofs.session.disks_stay_even.Goals as goal

pub returns-clause-write : goal.returns-clause-write
returns-clause-write c = λ v g p x o q s xs ys k e. puts-even k e

pub returns-clause-read : goal.returns-clause-read
returns-clause-read c = λ v g p x o s xs ys k e. looks-even {o = o} k.each e

pub returns-clause-flush : goal.returns-clause-flush
returns-clause-flush c = λ v o q g h s xs ys k l n e. flush-even k l n e

pub returns-clause-paid : goal.returns-clause-paid
returns-clause-paid c = λ o q w g h xs ys k. flush-paid k refl

pub returns-clause-levels : goal.returns-clause-levels
returns-clause-levels c = λ v o q w g h xs ys k l n e. flush-levels k l n e
