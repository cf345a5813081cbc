use Rattle.std.proofs.Common.{◌≡◌, length}
use Rattle.idl_reader.specs.Left.{left}
use Rattle.idl_reader.proofs.token.skip_gap.Given as goal

abbrev pub invariant-loop-rest : goal.invariant-loop-rest
invariant-loop-rest l = left l.rest ≡ left l.fn.rest

abbrev pub decreases-loop-rest : goal.decreases-loop-rest
decreases-loop-rest l = length l.rest.bytes.now
