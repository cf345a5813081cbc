use Rattle.std.proofs.Common.{refl}
use Rattle.mirror_rules.proofs.PageLaws.{flush-names, flush-rose, write-names, write-rose, read-rose}
use Rattle.mirror_rules.proofs.session.faults_have_causes.Goals as goal

pub returns-clause-flush : goal.returns-clause-flush
returns-clause-flush c = λ o q g h d n xs ys k. flush-names k refl

pub returns-clause-flush_all : goal.returns-clause-flush_all
returns-clause-flush_all c = λ o q g h d n xs ys k. flush-rose k

pub returns-clause-write : goal.returns-clause-write
returns-clause-write c = λ p x o q d n xs ys k. write-names k

pub returns-clause-write_all : goal.returns-clause-write_all
returns-clause-write_all c = λ p x o q d n xs ys k. write-rose k

pub returns-clause-read : goal.returns-clause-read
returns-clause-read c = λ p x d n xs ys k. k.found

pub returns-clause-read_all : goal.returns-clause-read_all
returns-clause-read_all c = λ p x d n xs ys k. read-rose k.each
