use Rattle.std.proofs.Common.{take}
use Rattle.spr_client.specs.Lines.{AreCalls}
use Rattle.trial_volumes.proofs.stack.are_calls.Given as goal

abbrev pub invariant-loop-line : goal.invariant-loop-line
invariant-loop-line l = AreCalls l.mount (take l.line-index l.lines)
