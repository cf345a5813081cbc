use Rattle.idl_check.proofs.Exactly.{settled_of_fits}
use Rattle.idl_tables.proofs.Rule.{tables_follow, one_rule}
use Rattle.idl_tables.proofs.Sharing.{tables_differ}
use Rattle.idl_tables.proofs.laws.tables_follow_bases.Goals as goal

pub returns-clause-rule : goal.returns-clause-rule
returns-clause-rule c decls fits = tables_follow decls (settled_of_fits decls fits)

pub returns-clause-only : goal.returns-clause-only
returns-clause-only c decls fits = one_rule decls (settled_of_fits decls fits)

pub returns-clause-differ : goal.returns-clause-differ
returns-clause-differ c decls fits = tables_differ decls fits
