use Rattle.std.proofs.Common.{◌+◌, ◌*◌}
use Rattle.idl_reader.proofs.read.+types.Given as goal

abbrev pub decreases-sequence : goal.decreases-sequence
decreases-sequence l = 2 * l.sequences + 1

abbrev pub decreases-type_of : goal.decreases-type_of
decreases-type_of l = 2 * l.sequences
