use Rattle.std.proofs.Common.{◌∷◌, [], map, sym, ap, ◌∙◌}
use Rattle.std.proofs.lemmas.List.{length-map, map-append}
use Rattle.idl_reader.specs.Left.{left}
use Rattle.idl_reader.specs.Tree.{param_tree}
use Rattle.idl_reader.specs.Reading.{param_at, is_param_word, after_comma}
use Rattle.idl_reader.proofs.Many.{loop-done, loop-full, loop-fails, loop-step, gives_refused}
use Rattle.idl_reader.proofs.read.more_params.Goals as goal

pub returns-then-len-eq-MAX_PARAMS : goal.returns-then-len-eq-MAX_PARAMS
returns-then-len-eq-MAX_PARAMS c =
    let params = c.loop-next.params in
    loop-full after_comma is_param_word param_at 16 (map (λ param. param_tree param) params.items) (left c.loop-next.rest) (left c.in-Some.next) _ c.len.result c.begins_param.result c.one_too_many.result
    c.loop-next.invariant (c.len.ensures ∙ params.ok.0 ∙ sym (length-map params.items (λ param. param_tree param))) c.if-len-eq-MAX_PARAMS.true (sym c.in-Some.ensures) c.begins_param.ensures c.one_too_many.ensures

pub returns-in_err-param : goal.returns-in_err-param
returns-in_err-param c =
    let params = c.loop-next.params in
    gives_refused _ _ (param_at (left c.in-Some.next)) c.in_err-param.field-0.0 c.from_residual.result
    (loop-fails after_comma is_param_word param_at 16 (map (λ param. param_tree param) params.items) (left c.loop-next.rest) (left c.in-Some.next) _ c.len.result c.loop-next.invariant
    (c.len.ensures ∙ params.ok.0 ∙ sym (length-map params.items (λ param. param_tree param))) c.if-len-eq-MAX_PARAMS.false (sym c.in-Some.ensures))
    c.in_err-param.ensures c.from_residual.ensures.1

pub loop-next-preserved : goal.loop-next-preserved
loop-next-preserved c =
    let params = c.loop-next.params in
    loop-step after_comma is_param_word param_at 16 (map (λ param. param_tree param) params.items) (map (λ param. param_tree param) c.push.new.self.items) (left c.loop-next.rest) (left c.in-Some.next) (left c.in_ok-param.after) (param_tree c.in_ok-param.param) _ c.len.result
    c.loop-next.invariant (c.len.ensures ∙ params.ok.0 ∙ sym (length-map params.items (λ param. param_tree param))) c.if-len-eq-MAX_PARAMS.false (sym c.in-Some.ensures) c.in_ok-param.ensures
    (ap (map (λ param. param_tree param)) c.in_ok-push.ensures.items ∙ map-append (λ param. param_tree param) params.items (c.in_ok-param.param ∷ []))

pub returns : goal.returns
returns c =
    let params = c.loop-next.params in
    loop-done after_comma is_param_word param_at 16 (map (λ param. param_tree param) params.items) (left c.loop-next.rest) _ c.loop-next.invariant (sym c.in_default.ensures)
