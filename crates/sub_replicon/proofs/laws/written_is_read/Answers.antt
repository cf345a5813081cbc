use Rattle.sub_replicon.proofs.SentLaws.{id_is_read, doors_are_read, sent_comes_next}
use Rattle.sub_replicon.proofs.laws.written_is_read.Goals as goal

pub returns-clause-id : goal.returns-clause-id
returns-clause-id c = id_is_read

pub returns-clause-doors : goal.returns-clause-doors
returns-clause-doors c = doors_are_read

pub returns-clause-sent : goal.returns-clause-sent
returns-clause-sent c = sent_comes_next
