use Rattle.std.proofs.Common.{ap, ◌∙◌, arith}
use Rattle.link_lossy.specs.Reading.{reply_at}
use Rattle.link_lossy.proofs.Replies.{if_reply, reply_again}
use Rattle.link_lossy.proofs.reading.read_reply.Goals as goal

pub returns-clause-found : goal.returns-clause-found
returns-clause-found c = if_reply c.args.bytes.now c.reply_from.result (λ i. omega (arith, c.type_inv.bytes i)) c.reply_from.ensures

pub returns-clause-only : goal.returns-clause-only
returns-clause-only c = λ r is e. c.reply_from.ensures ∙ ap reply_at e ∙ reply_again r is
