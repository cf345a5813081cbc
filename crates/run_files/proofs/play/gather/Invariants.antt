use Rattle.std.proofs.Common.{◌≡◌, map, vec_capacity}
use Rattle.run_files.proofs.play.gather.Given as goal

-- the answers of the clients so far
abbrev pub invariant-loop-client : goal.invariant-loop-client
invariant-loop-client l = record {
  said : map (λ v. v.items) l.said.items ≡ map (λ c. c.said.items) l.yielded;
  room : vec_capacity l.said ≡ vec_capacity l.fn.said;
}
