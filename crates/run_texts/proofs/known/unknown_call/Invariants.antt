use Rattle.std.proofs.Common.{◌≡◌, drop}
use Rattle.run_texts.specs.Known.{unknown_call}
use Rattle.run_texts.proofs.known.unknown_call.Given as goal

-- the first such line is not in the phases so far
abbrev pub invariant-loop-phase : goal.invariant-loop-phase
invariant-loop-phase l = unknown_call l.fn.mount l.fn.phases ≡ unknown_call l.fn.mount (drop l.phase-index l.fn.phases)
