use Rattle.std.proofs.Common.{◌+◌, ◌∙◌, inr, refl, sym}
use Rattle.std.proofs.lemmas.List.Quantifiers.{position-Some}
use Rattle.text_words.proofs.Splits.{rest_within}
use Rattle.text_words.proofs.LineLaws.{bad_line, bytes_left, full_last, full_left, last_word_put, one_word, word_put, word_split}
use Rattle.text_words.proofs.lines.split_words.Goals as goal

pub returns-then-rest-end-ne32-clause-err : goal.returns-then-rest-end-ne32-clause-err
returns-then-rest-end-ne32-clause-err c =
    let at = position-Some _ c.loop-end.rest.now c.in-Some.end 0 (sym c.in-Some.ensures) in
    inr (refl, c.loop-end.invariant.bytes ∙ bad_line c.loop-end.rest.now c.in-Some.end at.0 at.1 c.if-rest-end-ne32.true)

pub loop-end-preserved : goal.loop-end-preserved
loop-end-preserved c =
    let at = position-Some _ c.loop-end.rest.now c.in-Some.end 0 (sym c.in-Some.ensures) in
    let cut = word_split c.loop-end.rest.now c.in-Some.end at.0 c.if-rest-end-ne32.false at.2 in record {
      words = word_put c.loop-end.words.items c.push.new.self.items _ c.loop-end.rest.now c.in-Some.end _ cut.0 refl c.in_ok-push.ensures.items c.loop-end.invariant.words;
      bytes = bytes_left c.loop-end.rest.now c.args.body.now c.in-Some.end cut.1 c.loop-end.invariant.bytes;
      full = full_left _ c.loop-end.full c.loop-end.rest.now c.in-Some.end at.0 cut.0 c.loop-end.invariant.full;
      within = rest_within c.loop-end.rest.now (c.in-Some.end + 1) _ c.loop-end.invariant.within;
    }

pub returns-clause-bytes : goal.returns-clause-bytes
returns-clause-bytes c = c.loop-end.invariant.bytes ∙ (one_word c.loop-end.rest.now (sym c.in_default.ensures)).1

pub returns-clause-words : goal.returns-clause-words
returns-clause-words c = last_word_put c.loop-end.words.items c.push-2.new.self.items c.loop-end.rest _ (one_word c.loop-end.rest.now (sym c.in_default.ensures)).0 c.in_ok-push-2.ensures.items c.loop-end.invariant.words

pub returns-clause-full : goal.returns-clause-full
returns-clause-full c = full_last _ c.loop-end.full c.is_empty.result c.loop-end.rest.now c.is_empty.ensures (one_word c.loop-end.rest.now (sym c.in_default.ensures)).0 c.loop-end.invariant.full
