use Rattle.idl_tables.proofs.Few.{few_operations}
use Rattle.idl_tables.proofs.laws.tables_are_few.Goals as goal

pub returns : goal.returns
returns c decls said fits = few_operations decls said fits
