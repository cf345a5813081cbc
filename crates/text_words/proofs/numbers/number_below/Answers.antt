use Rattle.std.proofs.Common.{sym, arith}
use Rattle.text_words.proofs.NumberLaws.{decimal_utf8, none_parsed}
use Rattle.text_words.proofs.numbers.number_below.Goals as goal

pub returns-in_default : goal.returns-in_default
returns-in_default c = absurd (c.in_default.ensures.cases.0 (decimal_utf8 c.args.word.now (sym c.if-not-is_decimal.ensures)))

pub returns-in-Err : goal.returns-in-Err
returns-in-Err c = none_parsed c.args.limit c.args.word.now c.in-Ok.text.now c.parse.result c.in-Err.field-0 (omega arith) (sym c.if-not-is_decimal.ensures) c.in-Ok.ensures.cases.0 c.parse.ensures.value.0 c.in-Err.is
