use Rattle.std.proofs.Common.{◌≡◌, ◌++◌, drop}
use Rattle.idl_check.specs.Reach.{either_row}
use Rattle.idl_check.proofs.reach.either_row.Given as goal

abbrev pub invariant-loop-answer : goal.invariant-loop-answer
invariant-loop-answer l = l.out.items ++ either_row (drop l.answer-index l.row) l.rest ≡ either_row l.row l.via
