use Rattle.std.proofs.Common.{◌∷◌, [], map, sym, ap, ◌∙◌}
use Rattle.std.proofs.lemmas.List.{length-map, map-append}
use Rattle.idl_reader.specs.Left.{left}
use Rattle.idl_reader.specs.Tree.{field_tree}
use Rattle.idl_reader.specs.Reading.{field_at, is_type_word, until_brace}
use Rattle.idl_reader.proofs.Many.{loop-done, loop-full, loop-fails, loop-step, gives_refused}
use Rattle.idl_reader.proofs.read.more_fields.Goals as goal

pub returns-then-len-eq-MAX_MEMBERS : goal.returns-then-len-eq-MAX_MEMBERS
returns-then-len-eq-MAX_MEMBERS c =
    let fields = c.loop-next.fields in
    loop-full until_brace is_type_word field_at 64 (map (λ field. field_tree field) fields.items) (left c.loop-next.rest) (left c.in-Some.next) _ c.len.result c.begins_type.result c.one_too_many.result
    c.loop-next.invariant (c.len.ensures ∙ fields.ok.0 ∙ sym (length-map fields.items (λ field. field_tree field))) c.if-len-eq-MAX_MEMBERS.true (sym c.in-Some.ensures) c.begins_type.ensures c.one_too_many.ensures

pub returns-in_err-field : goal.returns-in_err-field
returns-in_err-field c =
    let fields = c.loop-next.fields in
    gives_refused _ _ (field_at (left c.in-Some.next)) c.in_err-field.field-0.0 c.from_residual.result
    (loop-fails until_brace is_type_word field_at 64 (map (λ field. field_tree field) fields.items) (left c.loop-next.rest) (left c.in-Some.next) _ c.len.result c.loop-next.invariant
    (c.len.ensures ∙ fields.ok.0 ∙ sym (length-map fields.items (λ field. field_tree field))) c.if-len-eq-MAX_MEMBERS.false (sym c.in-Some.ensures))
    c.in_err-field.ensures c.from_residual.ensures.1

pub loop-next-preserved : goal.loop-next-preserved
loop-next-preserved c =
    let fields = c.loop-next.fields in
    loop-step until_brace is_type_word field_at 64 (map (λ field. field_tree field) fields.items) (map (λ field. field_tree field) c.push.new.self.items) (left c.loop-next.rest) (left c.in-Some.next) (left c.in_ok-field.after) (field_tree c.in_ok-field.field) _ c.len.result
    c.loop-next.invariant (c.len.ensures ∙ fields.ok.0 ∙ sym (length-map fields.items (λ field. field_tree field))) c.if-len-eq-MAX_MEMBERS.false (sym c.in-Some.ensures) c.in_ok-field.ensures
    (ap (map (λ field. field_tree field)) c.in_ok-push.ensures.items ∙ map-append (λ field. field_tree field) fields.items (c.in_ok-field.field ∷ []))

pub returns : goal.returns
returns c =
    let fields = c.loop-next.fields in
    loop-done until_brace is_type_word field_at 64 (map (λ field. field_tree field) fields.items) (left c.loop-next.rest) _ c.loop-next.invariant (sym c.in_default.ensures)
