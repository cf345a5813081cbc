use Rattle.mirror_rules.proofs.GuardLaws.{guards-found, guards-write, guards-flush, guards-look, guards-close, guards-lost}
use Rattle.mirror_rules.proofs.lasting.calls_keep_guards.Goals as goal

pub returns-clause-found : goal.returns-clause-found
returns-clause-found c = λ v F past o q w g h xs ys k l n e p m lo pa. guards-found k l n e p m lo pa

pub returns-clause-write : goal.returns-clause-write
returns-clause-write c = λ v F ws L past p x o q s xs ys k g. guards-write k g

pub returns-clause-flush : goal.returns-clause-flush
returns-clause-flush c = λ v F ws L past G o q g h s xs ys k l n p w u. guards-flush k l n p w u

pub returns-clause-read : goal.returns-clause-read
returns-clause-read c = λ v F ws L past p x s xs ys k g. guards-look k.each g

pub returns-clause-close : goal.returns-clause-close
returns-clause-close c = λ v F ws L past xs ss m g. guards-close m g

pub returns-clause-lost : goal.returns-clause-lost
returns-clause-lost c = λ F ws L K past ss tt m g sub keep. guards-lost K m g sub keep
