use Rattle.std.proofs.Common.{◌≡◌, drop}
use Rattle.tower_log.specs.Counters.{count_of}
use Rattle.tower_log.proofs.counters.Counters.number.Given as goal

abbrev pub invariant-loop-counter : goal.invariant-loop-counter
invariant-loop-counter l = count_of (drop l.counter-index l.counter-items) l.caller ≡ count_of l.counter-items l.caller
