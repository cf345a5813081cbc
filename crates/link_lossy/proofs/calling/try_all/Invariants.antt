use Rattle.std.proofs.Common.{◌≡◌, ℕ, Ok, length}
use Rattle.link_lossy.specs.declared.request.Request.{Request}
use Rattle.link_lossy.specs.Reading.{request_at}
use Rattle.link_lossy.proofs.Trying.{Stands}
use Rattle.link_lossy.proofs.calling.try_all.Given as goal

-- so far each try lost its request or its reply
abbrev pub invariant-loop-try : goal.invariant-loop-try
invariant-loop-try g l = record {
  out : l.out ≡ l.initial.out;
  caller : l.far.caller ≡ l.initial.far.caller;
  stands : (number : ℕ) (request : Request) → request_at l.bytes ≡ Ok (number, request)
      → Stands g.F.Serve.served number request (length l.initial.out) (record { link = g.L.Link.seen l.initial.link; far = l.initial.far; value = l.initial.serve }) l._try (record { link = g.L.Link.seen l.link; far = l.far; value = l.serve });
}
