use Rattle.std.proofs.Common.{◌≡◌, ◌+◌, not, ◌==◌, drop}
use Rattle.disk_format.specs.Table.{first_place}
use Rattle.disk_format.proofs.version_1.nonzero_place.Given as goal

abbrev pub invariant-loop-index : goal.invariant-loop-index
invariant-loop-index l = first_place 1 (λ b. not (b == 0)) (l.from + l.index) (drop l.index l.bytes) ≡ first_place 1 (λ b. not (b == 0)) l.from l.bytes
