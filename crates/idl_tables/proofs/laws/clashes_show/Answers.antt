use Rattle.idl_check.proofs.Exactly.{settled_before}
use Rattle.idl_tables.proofs.Rule.{tables_follow}
use Rattle.idl_tables.proofs.Sharing.{clash_shows}
use Rattle.idl_tables.proofs.laws.clashes_show.Goals as goal

pub returns-clause-rule : goal.returns-clause-rule
returns-clause-rule c decls none = tables_follow decls (settled_before decls none)

pub returns-clause-clash : goal.returns-clause-clash
returns-clause-clash c = clash_shows
