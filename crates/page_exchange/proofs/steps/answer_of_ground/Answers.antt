use Rattle.std.proofs.Common.{subst, sym}
use Rattle.page_messages.specs.Letters.{IsLetter}
use Rattle.page_exchange.proofs.steps.answer_of_ground.Goals as goal

pub put-requires-clause-letter : goal.put-requires-clause-letter
put-requires-clause-letter c = subst (IsLetter c.args.file.page_size) (sym c.answer-letter.ensures.is) (c.answer-letter.ensures.letter c.args.file.page_size (λ asks. c.requires.bytes))
