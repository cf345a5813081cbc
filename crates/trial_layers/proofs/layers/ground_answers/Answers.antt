use Rattle.std.proofs.Common.{arith, sym, subst}
use Rattle.page_messages.specs.Letters.{IsLetter, LetterSeen}
use Rattle.trial_layers.proofs.layers.ground_answers.Goals as goal

pub put-requires-clause-letter : goal.put-requires-clause-letter
put-requires-clause-letter c =
    subst (λ (l : LetterSeen). IsLetter c.file-file.result.page_size l) (sym c.answer-letter.ensures.is)
    (c.answer-letter.ensures.letter c.file-file.result.page_size (λ for. let len = c.page_of-whole.type_inv in let size = c.if-file-ne64.false in omega (arith, len, size)))
