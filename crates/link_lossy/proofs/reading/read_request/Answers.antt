use Rattle.std.proofs.Common.{ap, ◌∙◌, arith}
use Rattle.link_lossy.specs.Reading.{request_at}
use Rattle.link_lossy.proofs.Requests.{if_request, request_again}
use Rattle.link_lossy.proofs.reading.read_request.Goals as goal

pub returns-clause-found : goal.returns-clause-found
returns-clause-found c = if_request c.args.bytes.now c.request_from.result (λ i. omega (arith, c.type_inv.bytes i)) c.request_from.ensures

pub returns-clause-only : goal.returns-clause-only
returns-clause-only c = λ number r is e. c.request_from.ensures ∙ ap request_at e ∙ request_again number r is
