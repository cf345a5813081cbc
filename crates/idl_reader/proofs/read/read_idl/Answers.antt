use Rattle.idl_reader.proofs.Exactly.{exactly_found, exactly_only}
use Rattle.idl_reader.proofs.read.read_idl.Goals as goal

pub returns-clause-found : goal.returns-clause-found
returns-clause-found c = exactly_found c.args.text.now c.read_all.result c.read_all.ensures

pub returns-clause-only : goal.returns-clause-only
returns-clause-only c = exactly_only c.args.text.now c.read_all.result c.read_all.ensures
