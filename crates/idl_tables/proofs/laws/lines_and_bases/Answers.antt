use Rattle.std.proofs.Common.{length}
use Rattle.idl_tables.specs.Lines.{all_spots}
use Rattle.idl_tables.proofs.Stable.{line_is}
use Rattle.idl_tables.proofs.laws.lines_and_bases.Goals as goal

pub returns : goal.returns
returns c rank decls falls i below low = line_is rank (all_spots decls) (record { falls = falls }) (length decls) i below low
