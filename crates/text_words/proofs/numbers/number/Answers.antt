use Rattle.std.proofs.Common.{lit≤}
use Rattle.text_words.proofs.NumberLaws.{number_found, number_only}
use Rattle.text_words.proofs.numbers.number.Goals as goal

pub returns-clause-found : goal.returns-clause-found
returns-clause-found c = number_found 4294967296 c.args.word.now c.small_number.result (lit≤ tt) c.small_number.ensures

pub returns-clause-only : goal.returns-clause-only
returns-clause-only c = number_only 4294967296 c.args.word.now c.small_number.result (lit≤ tt) c.small_number.ensures
