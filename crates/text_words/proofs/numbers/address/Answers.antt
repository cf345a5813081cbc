use Rattle.std.proofs.Common.{lit≤}
use Rattle.text_words.proofs.NumberLaws.{number_found, number_only}
use Rattle.text_words.proofs.numbers.address.Goals as goal

pub returns-clause-found : goal.returns-clause-found
returns-clause-found c = number_found 9223372036854775808 c.args.word.now c.number_below.result (lit≤ tt) c.number_below.ensures

pub returns-clause-only : goal.returns-clause-only
returns-clause-only c = number_only 9223372036854775808 c.args.word.now c.number_below.result (lit≤ tt) c.number_below.ensures
