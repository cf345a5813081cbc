use Rattle.std.proofs.Common.{◌≡◌}
use Rattle.script_gen.specs.Made.{clients_of}
use Rattle.script_gen.proofs.first.clients_of.Given as goal

abbrev pub invariant-loop-client : goal.invariant-loop-client
invariant-loop-client l = l.clients ≡ clients_of l.shape l.client
