use Rattle.std.proofs.Common.{sym}
use Rattle.text_words.proofs.NumberLaws.{number_small}
use Rattle.text_words.proofs.numbers.small_number.Goals as goal

pub overflow_cast-result : goal.overflow_cast-result
overflow_cast-result c = record { fits = number_small c.in_ok-value.value c.args.word.now (sym c.in_ok-value.ensures) }
