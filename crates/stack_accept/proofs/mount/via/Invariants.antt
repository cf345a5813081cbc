use Rattle.std.proofs.Common.{◌≡◌, ◌-◌}
use Rattle.stack_accept.specs.Mount.{via, via_in}
use Rattle.stack_accept.proofs.mount.via.Given as goal

abbrev pub invariant-loop : goal.invariant-loop
invariant-loop l = via_in (l.view - l.counter) l.nodes l.at l.machine ≡ via l.nodes l.view l.machine
