use Rattle.std.proofs.Common.{◌+◌, ◌∷◌, sym, ap, ◌∙◌, slice_index_or}
use Rattle.idl_reader.specs.Tokens.{Sign, tokens_from, Gap}
use Rattle.idl_reader.proofs.TokenLaws.{first-end, first-sign, first-bad}
use Rattle.idl_reader.proofs.token.first_token.Goals as goal

pub returns-in-empty : goal.returns-in-empty
returns-in-empty c = let rest = c.skip_gap-rest.result in first-end rest.place rest.bytes.now c.in-empty.len_below ∙ c.skip_gap-rest.ensures.same

pub returns-in-len1-up : goal.returns-in-len1-up
returns-in-len1-up c =
    let rest = c.skip_gap-rest.result in
    let sign = slice_index_or rest.bytes.now 0 0 in
    ap (λ n. Sign rest.place sign ∷ tokens_from Gap n c.after.result.bytes.now) c.after.ensures.place
    ∙ ap (λ b. Sign rest.place sign ∷ tokens_from Gap (rest.place + 1) b) c.after.ensures.bytes
    ∙ first-sign rest.place rest.bytes.now c.skip_gap-rest.ensures.ahead (sym c.is_sign.ensures ∙ c.if-is_sign.true) ∙ c.skip_gap-rest.ensures.same

pub returns-in_default : goal.returns-in_default
returns-in_default c =
    let rest = c.skip_gap-rest.result in
    first-bad rest.place rest.bytes.now c.in-len1-up.len_at_least c.skip_gap-rest.ensures.ahead (sym c.is_sign.ensures ∙ c.if-is_sign.false) (sym c.is_letter.ensures ∙ c.if-is_letter.false)
    ∙ c.skip_gap-rest.ensures.same
