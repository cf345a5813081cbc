use Rattle.std.proofs.Common.{sym, subst, arith}
use Rattle.idl_reader.specs.Left.{left, with_left}
use Rattle.idl_reader.specs.Tree.{type_tree}
use Rattle.idl_reader.specs.Why.{Gives}
use Rattle.idl_reader.proofs.Refusals.{limit_refused}
use Rattle.idl_reader.proofs.TypeLaws.{type-simple, type-full, type-more}
use Rattle.idl_reader.proofs.read.+types.Goals as goal

pub type_of-returns-then-sequences-eq0 : goal.type_of-returns-then-sequences-eq0
type_of-returns-then-sequences-eq0 t c =
    limit_refused _ (left c.args.rest) c.refusal.result c.refusal.ensures (type-full c.args.sequences (left c.args.rest) (left c.in-Some.after) c.if-sequences-eq0.true c.in-Some.ensures)

pub type_of-returns-in-None : goal.type_of-returns-in-None
type_of-returns-in-None t c =
    subst (λ read. Gives (with_left (λ ty. type_tree ty)) c.simple_type.result read) (sym (type-simple c.args.sequences (left c.args.rest) c.in-None.ensures)) c.simple_type.ensures

pub type_of-returns-else-sequences-eq0 : goal.type_of-returns-else-sequences-eq0
type_of-returns-else-sequences-eq0 t c =
    let some = c.if-sequences-eq0.false in
    subst (λ read. Gives (with_left (λ ty. type_tree ty)) c.sequence.result read) (sym (type-more c.args.sequences (left c.args.rest) (left c.in-Some.after) (omega (arith, some)) c.in-Some.ensures)) c.sequence.ensures
