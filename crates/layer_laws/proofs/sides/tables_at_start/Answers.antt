use Rattle.layer_laws.proofs.TrailLaws.{start_rights, start_copies}
use Rattle.layer_laws.proofs.sides.tables_at_start.Goals as goal

pub returns-clause-rights : goal.returns-clause-rights
returns-clause-rights c = start_rights

pub returns-clause-copies : goal.returns-clause-copies
returns-clause-copies c = start_copies
