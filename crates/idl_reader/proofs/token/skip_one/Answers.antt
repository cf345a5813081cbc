use Rattle.std.proofs.Common.{◌+◌, ◌≤◌, drop, length, sym, ap, ◌∙◌, subst}
use Rattle.std.proofs.lemmas.List.Sums.{prefix_len-le-length}
use Rattle.idl_reader.specs.Tokens.{is_no_line_feed, tokens_from, Gap}
use Rattle.idl_reader.proofs.TokenLaws.{tokens-comment, tokens-gap}
use Rattle.idl_reader.proofs.token.skip_one.Goals as goal

pub after-requires : goal.after-requires
after-requires c = subst (λ n. n ≤ length c.args.rest.bytes.now) (sym c.comment_len.ensures) (prefix_len-le-length is_no_line_feed c.args.rest.bytes.now)

pub returns-then-begins_comment-clause-same : goal.returns-then-begins_comment-clause-same
returns-then-begins_comment-clause-same c =
    let rest = c.args.rest in
    let skip = tokens-comment rest.place rest.bytes.now (sym c.begins_comment.ensures ∙ c.if-begins_comment.true) in
    ap (λ n. tokens_from Gap n c.after.result.bytes.now) c.after.ensures.place
    ∙ ap (λ b. tokens_from Gap (rest.place + c.comment_len.result) b) c.after.ensures.bytes
    ∙ ap (λ n. tokens_from Gap (rest.place + n) (drop n rest.bytes.now)) c.comment_len.ensures ∙ sym skip

pub returns-else-begins_comment-clause-same : goal.returns-else-begins_comment-clause-same
returns-else-begins_comment-clause-same c =
    let rest = c.args.rest in
    let skip = tokens-gap rest.place rest.bytes.now c.requires (sym c.begins_comment.ensures ∙ c.if-begins_comment.false) in
    ap (λ n. tokens_from Gap n c.after-else-begins_comment.result.bytes.now) c.after-else-begins_comment.ensures.place
    ∙ ap (λ b. tokens_from Gap (rest.place + 1) b) c.after-else-begins_comment.ensures.bytes ∙ sym skip
