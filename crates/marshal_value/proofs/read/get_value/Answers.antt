use Rattle.std.proofs.Common.{ℕ, sym, ◌∙◌, subst}
use Rattle.std.proofs.lemmas.Result.{err_from_is_err_and}
use Rattle.marshal_buf.specs.Reading.{Reading, IsReader}
use Rattle.marshal_value.specs.Tree.{tree_of}
use Rattle.idl_reader.specs.Tree.{type_tree}
use Rattle.marshal_value.specs.Lookup.{table_of}
use Rattle.marshal_value.proofs.Fitting.{declared_within}
use Rattle.marshal_value.specs.Types.{IsNamed, IsDeclared}
use Rattle.marshal_value.specs.Reading.{ComesNext, IsRead}
use Rattle.marshal_value.proofs.Again.{value_again}
use Rattle.marshal_value.proofs.Found.{IsSound, value_found}
use Rattle.marshal_value.proofs.Fronts.{refuses_only}
use Rattle.marshal_value.proofs.Steps.{read_is}
use Rattle.marshal_value.proofs.read.get_value.Goals as goal

sound : (r : Reading) → IsReader r → IsSound r
sound r reader = record { bytes = reader.bytes; doors = reader.few }

pub read_value-requires : goal.read_value-requires
read_value-requires c =
    subst (λ (n : ℕ). IsNamed (IsDeclared (table_of c.args.set.now) n) (type_tree c.args.ty.now)) (sym c.depth_of.ensures.depth) (declared_within c.args.set.now c.depth_of.ensures.tabled (type_tree c.args.ty.now) c.requires)

pub returns-clause-of : goal.returns-clause-of
returns-clause-of c =
    (value_found (table_of c.args.set.now) c.depth_of.result (type_tree c.args.ty.now) c.copy-ahead.result c.read_value.new.from (tree_of c.in_ok-value.value) (sound c.copy-ahead.result c.copy-ahead.ensures.reader) c.in_ok-value.ensures).of

pub returns-clause-read : goal.returns-clause-read
returns-clause-read c =
    let found = value_found (table_of c.args.set.now) c.depth_of.result (type_tree c.args.ty.now) c.copy-ahead.result c.read_value.new.from (tree_of c.in_ok-value.value) (sound c.copy-ahead.result c.copy-ahead.ensures.reader) c.in_ok-value.ensures in
    subst (λ (r : Reading). IsRead (tree_of c.in_ok-value.value) r c.read_value.new.from) c.copy-ahead.ensures.same (record { next = found.next; place = found.place })

pub returns-clause-only : goal.returns-clause-only
returns-clause-only c = λ v more more_doors of next.
    let table = table_of c.args.set.now in
    let known = subst (λ (n : ℕ). IsNamed (IsDeclared table n) (type_tree c.args.ty.now)) (sym c.depth_of.ensures.depth) (declared_within c.args.set.now c.depth_of.ensures.tabled (type_tree c.args.ty.now) c.requires) in
    let there = subst (λ (r : Reading). ComesNext v more more_doors r) (sym c.copy-ahead.ensures.same) next in
    let again = value_again table c.depth_of.result (type_tree c.args.ty.now) known c.copy-ahead.result v more more_doors c.copy-ahead.ensures.reader.few of there in
    (read_is (tree_of c.in_ok-value.value) v c.read_value.new.from _ (sym c.in_ok-value.ensures ∙ again)).0

pub returns-in_err-value-clause-only : goal.returns-in_err-value-clause-only
returns-in_err-value-clause-only c = λ v more more_doors of next.
    let table = table_of c.args.set.now in
    let p = err_from_is_err_and c.from_residual.result c.from_residual.ensures.1 in
    let known = subst (λ (n : ℕ). IsNamed (IsDeclared table n) (type_tree c.args.ty.now)) (sym c.depth_of.ensures.depth) (declared_within c.args.set.now c.depth_of.ensures.tabled (type_tree c.args.ty.now) c.requires) in
    let there = subst (λ (r : Reading). ComesNext v more more_doors r) (sym c.copy-ahead.ensures.same) next in
    let again = value_again table c.depth_of.result (type_tree c.args.ty.now) known c.copy-ahead.result v more more_doors c.copy-ahead.ensures.reader.few of there in
    rw (p.1, p.2) (refuses_only c.in_err-value.field-0.0.why c.in_err-value.field-0.0.at (λ refused. absurd cc) c.in_err-value.ensures)
