use Rattle.std.proofs.Common.{◌≡◌, ◌+◌}
use Rattle.link_lossy.specs.Links.{every_seen}
use Rattle.link_lossy.specs.Tries.{LoseAll}
use Rattle.link_lossy.proofs.carrier.first_arrival.Given as goal

-- so far each try lost its request
abbrev pub invariant-loop-tries : goal.invariant-loop-tries
invariant-loop-tries l = record {
  lost : LoseAll l.tries (every_seen l.initial.link.every l.initial.link.given) (every_seen l.link.every l.link.given);
  given : l.link.given ≡ l.initial.link.given + l.tries;
}
