use Rattle.std.proofs.Common.{◌≡◌, take, map}
use Rattle.spr_report.proofs.whole.caller_names.Given as goal

abbrev pub invariant-loop-client : goal.invariant-loop-client
invariant-loop-client l = map (λ n. n.now) l.names.items ≡ map (λ c. c.name) (take l.client-index l.clients)
