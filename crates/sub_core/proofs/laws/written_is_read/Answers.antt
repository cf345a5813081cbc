use Rattle.sub_core.proofs.Objects.{id_is_read, fields_are_read}
use Rattle.sub_core.proofs.laws.written_is_read.Goals as goal

pub returns-clause-id : goal.returns-clause-id
returns-clause-id c = id_is_read

pub returns-clause-fields : goal.returns-clause-fields
returns-clause-fields c = fields_are_read
