use Rattle.mirror_rules.proofs.GenLaws.{puts-near, looks-near, flush-near, write-stops-near, flush-stops-near, flush-bound, flush-stops-bound}
use Rattle.mirror_rules.proofs.session.disks_stay_near.Goals as goal

pub returns-clause-write : goal.returns-clause-write
returns-clause-write c = λ v g p x o q s xs ys k n. puts-near k n

pub returns-clause-read : goal.returns-clause-read
returns-clause-read c = λ v g p x s xs ys k n. looks-near k.each n

pub returns-clause-flush : goal.returns-clause-flush
returns-clause-flush c = λ v o q g h s xs ys k l n. flush-near k l n

pub returns-clause-write_stops : goal.returns-clause-write_stops
returns-clause-write_stops c = λ v g p x xs ys k n. write-stops-near k n

pub returns-clause-flush_stops : goal.returns-clause-flush_stops
returns-clause-flush_stops c = λ v o g h xs ys k l n. flush-stops-near k l n

pub returns-clause-within : goal.returns-clause-within
returns-clause-within c = λ o q g h s xs ys k l. flush-bound k l

pub returns-clause-stops_within : goal.returns-clause-stops_within
returns-clause-stops_within c = λ o g h xs ys k l. flush-stops-bound k l
