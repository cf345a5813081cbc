use Rattle.std.proofs.Common.{◌≡◌, drop}
use Rattle.name_context.proofs.PartLaws.{begins}
use Rattle.name_context.proofs.parts.begins_with.Given as goal

abbrev pub invariant-loop-at : goal.invariant-loop-at
invariant-loop-at l = begins (drop l.at l.above) (drop l.at l.path) ≡ begins l.above l.path
