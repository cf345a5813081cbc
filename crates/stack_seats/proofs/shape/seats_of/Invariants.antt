use Rattle.std.proofs.Common.{◌≡◌, take, map}
use Rattle.stack_seats.specs.Seats.{seat_of}
use Rattle.stack_seats.proofs.shape.seats_of.Given as goal

abbrev pub invariant-loop-node : goal.invariant-loop-node
invariant-loop-node l = l.seats ≡ map (λ node. seat_of l.mount node) (take l.node-index l.node-items)
