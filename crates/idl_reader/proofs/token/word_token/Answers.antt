use Rattle.std.proofs.Common.{◌+◌, ◌≤◌, ◌<◌, ◌∷◌, take, drop, length, sym, ap, ◌∙◌, subst}
use Rattle.std.specs.List.{prefix_len}
use Rattle.text_words.specs.Words.{is_name_char}
use Rattle.idl_reader.specs.Tokens.{Word, tokens_from, Gap}
use Rattle.idl_reader.proofs.TokenLaws.{tokens-front, front_length, word_short, word_long}
use Rattle.idl_reader.proofs.token.word_token.Goals as goal

pub after-requires : goal.after-requires
after-requires c = subst (λ n. n ≤ length c.args.rest.bytes.now) (sym c.word_len-len.ensures) (front_length c.args.rest.bytes.now).1

pub returns-then-len-gt-MAX_NAME : goal.returns-then-len-gt-MAX_NAME
returns-then-len-gt-MAX_NAME c =
    let rest = c.args.rest in
    let n = prefix_len is_name_char rest.bytes.now in
    let len = c.word_len-len.ensures in
    let front = front_length rest.bytes.now in
    let long : 32 < length (take n rest.bytes.now) = subst (λ k. 32 < k) (len ∙ sym front.0) c.if-len-gt-MAX_NAME.true in
    sym (word_long rest.place (take n rest.bytes.now) (tokens_from Gap (rest.place + n) (drop n rest.bytes.now)) long) ∙ sym (tokens-front rest.place rest.bytes.now c.requires)

pub returns : goal.returns
returns c =
    let rest = c.args.rest in
    let n = prefix_len is_name_char rest.bytes.now in
    let len = c.word_len-len.ensures in
    let front = front_length rest.bytes.now in
    let short : length (take n rest.bytes.now) ≤ 32 = subst (λ k. k ≤ 32) (len ∙ sym front.0) c.if-len-gt-MAX_NAME.false in
    ap (λ p. Word rest.place (take c.word_len-len.result rest.bytes.now) ∷ tokens_from Gap p c.after.result.bytes.now) c.after.ensures.place
    ∙ ap (λ b. Word rest.place (take c.word_len-len.result rest.bytes.now) ∷ tokens_from Gap (rest.place + c.word_len-len.result) b) c.after.ensures.bytes
    ∙ ap (λ k. Word rest.place (take k rest.bytes.now) ∷ tokens_from Gap (rest.place + k) (drop k rest.bytes.now)) len
    ∙ sym (word_short rest.place (take n rest.bytes.now) (tokens_from Gap (rest.place + n) (drop n rest.bytes.now)) short)
    ∙ sym (tokens-front rest.place rest.bytes.now c.requires)
