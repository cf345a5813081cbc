use Rattle.std.proofs.Common.{sym, ◌∙◌}
use Rattle.idl_reader.specs.Left.{left}
use Rattle.idl_reader.specs.Reading.{name_at, is_name_word, after_comma}
use Rattle.idl_reader.proofs.Many.{loop-done, loop-full, loop-fails, loop-step, gives_refused}
use Rattle.idl_reader.proofs.read.more_names.Goals as goal

pub returns-then-len-most : goal.returns-then-len-most
returns-then-len-most c =
    loop-full after_comma is_name_word name_at c.args.most c.loop-next.names.items (left c.loop-next.rest) (left c.in-Some.next) _ c.len.result c.begins_name.result c.one_too_many.result
    c.loop-next.invariant (c.len.ensures ∙ c.loop-next.names.ok.0) c.if-len-most.true (sym c.in-Some.ensures) c.begins_name.ensures c.one_too_many.ensures

pub returns-in_err-name : goal.returns-in_err-name
returns-in_err-name c =
    gives_refused _ _ (name_at (left c.in-Some.next)) c.in_err-name.field-0.0 c.from_residual.result
    (loop-fails after_comma is_name_word name_at c.args.most c.loop-next.names.items (left c.loop-next.rest) (left c.in-Some.next) _ c.len.result c.loop-next.invariant (c.len.ensures ∙ c.loop-next.names.ok.0) c.if-len-most.false (sym c.in-Some.ensures))
    c.in_err-name.ensures c.from_residual.ensures.1

pub loop-next-preserved : goal.loop-next-preserved
loop-next-preserved c =
    loop-step after_comma is_name_word name_at c.args.most c.loop-next.names.items c.push.new.self.items (left c.loop-next.rest) (left c.in-Some.next) (left c.in_ok-name.after) c.in_ok-name.name _ c.len.result
    c.loop-next.invariant (c.len.ensures ∙ c.loop-next.names.ok.0) c.if-len-most.false (sym c.in-Some.ensures) c.in_ok-name.ensures c.in_ok-push.ensures.items

pub returns : goal.returns
returns c =
    loop-done after_comma is_name_word name_at c.args.most c.loop-next.names.items (left c.loop-next.rest) _ c.loop-next.invariant (sym c.in_default.ensures)
