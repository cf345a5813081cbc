use Rattle.std.proofs.Common.{◌∷◌, [], map, sym, ap, ◌∙◌}
use Rattle.std.proofs.lemmas.List.{length-map, map-append}
use Rattle.idl_reader.specs.Left.{left}
use Rattle.idl_reader.specs.Tree.{op_tree}
use Rattle.idl_reader.specs.Reading.{op_at, is_op_word, until_brace}
use Rattle.idl_reader.proofs.Many.{loop-done, loop-full, loop-fails, loop-step, gives_refused}
use Rattle.idl_reader.proofs.read.more_ops.Goals as goal

pub returns-then-len-eq-MAX_MEMBERS : goal.returns-then-len-eq-MAX_MEMBERS
returns-then-len-eq-MAX_MEMBERS c =
    let ops = c.loop-next.ops in
    loop-full until_brace is_op_word op_at 64 (map (λ op. op_tree op) ops.items) (left c.loop-next.rest) (left c.in-Some.next) _ c.len.result c.begins_op.result c.one_too_many.result
    c.loop-next.invariant (c.len.ensures ∙ ops.ok.0 ∙ sym (length-map ops.items (λ op. op_tree op))) c.if-len-eq-MAX_MEMBERS.true (sym c.in-Some.ensures) c.begins_op.ensures c.one_too_many.ensures

pub returns-in_err-op : goal.returns-in_err-op
returns-in_err-op c =
    let ops = c.loop-next.ops in
    gives_refused _ _ (op_at (left c.in-Some.next)) c.in_err-op.field-0.0 c.from_residual.result
    (loop-fails until_brace is_op_word op_at 64 (map (λ op. op_tree op) ops.items) (left c.loop-next.rest) (left c.in-Some.next) _ c.len.result c.loop-next.invariant
    (c.len.ensures ∙ ops.ok.0 ∙ sym (length-map ops.items (λ op. op_tree op))) c.if-len-eq-MAX_MEMBERS.false (sym c.in-Some.ensures))
    c.in_err-op.ensures c.from_residual.ensures.1

pub loop-next-preserved : goal.loop-next-preserved
loop-next-preserved c =
    let ops = c.loop-next.ops in
    loop-step until_brace is_op_word op_at 64 (map (λ op. op_tree op) ops.items) (map (λ op. op_tree op) c.push.new.self.items) (left c.loop-next.rest) (left c.in-Some.next) (left c.in_ok-op.after) (op_tree c.in_ok-op.op) _ c.len.result
    c.loop-next.invariant (c.len.ensures ∙ ops.ok.0 ∙ sym (length-map ops.items (λ op. op_tree op))) c.if-len-eq-MAX_MEMBERS.false (sym c.in-Some.ensures) c.in_ok-op.ensures
    (ap (map (λ op. op_tree op)) c.in_ok-push.ensures.items ∙ map-append (λ op. op_tree op) ops.items (c.in_ok-op.op ∷ []))

pub returns : goal.returns
returns c =
    let ops = c.loop-next.ops in
    loop-done until_brace is_op_word op_at 64 (map (λ op. op_tree op) ops.items) (left c.loop-next.rest) _ c.loop-next.invariant (sym c.in_default.ensures)
