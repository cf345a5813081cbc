use Rattle.mirror_rules.proofs.EntryLaws.{guards-open, opens-within, guards-joined}
use Rattle.mirror_rules.proofs.lasting.openings_keep_guards.Goals as goal

pub returns-clause-open : goal.returns-clause-open
returns-clause-open c = λ v F ws L past n o ss xs us h m z t g. guards-open h m z t g

pub returns-clause-within : goal.returns-clause-within
returns-clause-within c = λ F ws L past n g owed ss xs us h m z u k. opens-within h m z u k

pub returns-clause-joins : goal.returns-clause-joins
returns-clause-joins c = λ v F ws L past n g owed ss xs us h m z t u k. guards-joined h m z t u k
