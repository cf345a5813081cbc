use Rattle.std.proofs.Common.{arith, get_or, sym, ◌∙◌}
use Rattle.std.specs.Char.{is_ascii_digit}
use Rattle.std.proofs.lemmas.Bool.{and_from}
use Rattle.std.proofs.lemmas.List.Folds.{list_all_more}
use Rattle.text_words.proofs.NumberLaws.{digit_within, few_below, value_more}
use Rattle.text_words.proofs.numbers.short_value.Goals as goal

pub overflow_mul-value : goal.overflow_mul-value
overflow_mul-value c =
    let few = few_below c.args.word.now c.loop-digit.digit-index c.loop-digit.invariant.digits c.requires in
    let so = c.loop-digit.invariant.value in
    omega (arith, few, so)

pub overflow_add-value : goal.overflow_add-value
overflow_add-value c =
    let few = few_below c.args.word.now c.loop-digit.digit-index c.loop-digit.invariant.digits c.requires in
    let within = digit_within (get_or c.args.word.now c.loop-digit.digit-index 0) (sym c.if-not-is_ascii_digit.ensures.value) in
    let so = c.loop-digit.invariant.value in
    let here = c.from.ensures in
    omega (arith, few, within, so, here)

pub loop-digit-preserved : goal.loop-digit-preserved
loop-digit-preserved c =
    let test = sym c.if-not-is_ascii_digit.ensures.value in
    let more = value_more c.args.word.now c.loop-digit.digit-index c.loop-digit-test.true test in
    let so = c.loop-digit.invariant.value in
    let here = c.from.ensures in record {
      digits = list_all_more is_ascii_digit c.args.word.now c.loop-digit.digit-index 0 c.loop-digit-test.true ∙ and_from _ _ c.loop-digit.invariant.digits test;
      value = omega (arith, more, so, here);
    }
