use Rattle.std.proofs.Common.{◌≡◌, ℕ, suc, ◌+◌, ◌-◌, List, drop, Some, Ok, sym, ap, ◌∙◌, subst, arith}
use Rattle.std.proofs.lemmas.Result.{err_from_is_err_and}
use Rattle.marshal_buf.specs.Reading.{Reading}
use Rattle.marshal_value.specs.Tree.{Tree, Trees, none, one, tree_of, trees_of}
use Rattle.idl_reader.specs.Tree.{TypeTree, type_tree}
use Rattle.marshal_value.specs.Lookup.{table_of}
use Rattle.marshal_value.specs.declared.kind.NameKind.{NameKind}
use Rattle.marshal_value.specs.KindView.{field_types, kind_view}
use Rattle.marshal_value.specs.Types.{Fields, AreNamed, IsDeclared}
use Rattle.marshal_value.specs.Reading.{Reads, values_at, fields_at, value_at}
use Rattle.marshal_value.proofs.Trees.{tree_Sequence, tree_Struct}
use Rattle.marshal_value.proofs.Fronts.{joined, with_front, trees_push, values_step, values_stop, values_end, fields_step, fields_stop, fields_end, sequence_is, sequence_stop, sequence_stop_later, refuses_map}
use Rattle.marshal_value.proofs.Weights.{name_weight, types_drop, types_drop_end, weight_inside, deeper_weight, deeper_named, deeper_struct}
use Rattle.marshal_value.proofs.read.+reads.Goals as goal

abbrev read_as : Tree → Reading → Reads Tree
read_as v r = Ok (v, r)

pub read_sequence-returns-in_err-count : goal.read_sequence-returns-in_err-count
read_sequence-returns-in_err-count t c =
    let read = value_at (table_of c.args.set.now) c.args.depth (type_tree c.args.of.now) in
    let p = err_from_is_err_and c.from_residual.result c.from_residual.ensures.1 in
    rw (p.1, p.2) (refuses_map c.in_err-count.field-0.0.why c.in_err-count.field-0.0.at (λ h. sequence_stop read c.in_err-count.field-0.0 c.args.from.now h) c.in_err-count.ensures)

pub read_sequence-returns-in_err-items : goal.read_sequence-returns-in_err-items
read_sequence-returns-in_err-items t c =
    let read = value_at (table_of c.args.set.now) c.args.depth (type_tree c.args.of.now) in
    let p = err_from_is_err_and c.from_residual-in_err-items.result c.from_residual-in_err-items.ensures.1 in
    let count = c.in_ok-count.ensures in
    rw (p.1, p.2) (refuses_map c.in_err-items.field-0.0.why c.in_err-items.field-0.0.at (λ h. sequence_stop_later read c.in_ok-count.count c.in_err-items.field-0.0 c.args.from.now c.read_count.new.from count h) c.in_err-items.ensures)

pub read_sequence-returns : goal.read_sequence-returns
read_sequence-returns t c =
    let read = value_at (table_of c.args.set.now) c.args.depth (type_tree c.args.of.now) in
    sequence_is read c.in_ok-count.count (trees_of c.in_ok-items.items.items) c.args.from.now c.read_count.new.from c.read_values.new.from c.in_ok-count.ensures c.in_ok-items.ensures
    ∙ ap (λ (v : Tree). read_as v c.read_values.new.from) (sym (tree_Sequence c.in_ok-items.items))

pub read_fields-read_value-requires : goal.read_fields-read_value-requires
read_fields-read_value-requires t c =
    let table = table_of c.args.set.now in
    let inside = weight_inside (name_weight table c.args.depth) c.args.fields.now c.loop-field.field-index c.field-item.result c.loop-field-test.true c.field-item.is in
    let first = types_drop c.args.fields.now c.loop-field.field-index c.field-item.result c.loop-field-test.true c.field-item.is in
    let named = subst (λ (tys : List TypeTree). AreNamed (IsDeclared table c.args.depth) tys) first c.loop-field.invariant.named in
    (omega (arith, inside), named.0)

pub read_fields-returns-in_err-read_value : goal.read_fields-returns-in_err-read_value
read_fields-returns-in_err-read_value t c =
    let read : TypeTree → Reading → Reads Tree = λ ty. value_at (table_of c.args.set.now) c.args.depth ty in
    let p = err_from_is_err_and c.from_residual.result c.from_residual.ensures.1 in
    let first = types_drop c.args.fields.now c.loop-field.field-index c.field-item.result c.loop-field-test.true c.field-item.is in
    let others = field_types (drop (c.loop-field.field-index + 1) c.args.fields.now) in
    let front = trees_of c.loop-field.values.items in
    rw (p.1, p.2) (refuses_map c.in_err-read_value.field-0.0.why c.in_err-read_value.field-0.0.at
    (λ h. sym c.loop-field.invariant.read ∙ ap (λ (tys : List TypeTree). with_front front (fields_at read tys c.loop-field.from)) first
    ∙ fields_stop read front (type_tree c.field-item.result.ty) others c.in_err-read_value.field-0.0 c.loop-field.from h)
    c.in_err-read_value.ensures)

pub read_fields-loop-field-preserved : goal.read_fields-loop-field-preserved
read_fields-loop-field-preserved t c =
    let table = table_of c.args.set.now in
    let read : TypeTree → Reading → Reads Tree = λ ty. value_at table c.args.depth ty in
    let first = types_drop c.args.fields.now c.loop-field.field-index c.field-item.result c.loop-field-test.true c.field-item.is in
    let others = field_types (drop (c.loop-field.field-index + 1) c.args.fields.now) in
    let front = trees_of c.loop-field.values.items in
    let v = c.in_ok-read_value.field-0 in
    let named = subst (λ (tys : List TypeTree). AreNamed (IsDeclared table c.args.depth) tys) first c.loop-field.invariant.named in
    let pushed : trees_of c.push.new.self.items ≡ joined front (one (tree_of v) none) = ap trees_of c.in_ok-push.ensures.items ∙ trees_push c.loop-field.values.items v in
    record {
      named = named.1;
      read = ap (λ (vs : Trees). with_front vs (fields_at read others c.read_value.new.from)) pushed
          ∙ sym (fields_step read front (type_tree c.field-item.result.ty) others (tree_of v) c.loop-field.from c.read_value.new.from c.in_ok-read_value.ensures)
          ∙ ap (λ (tys : List TypeTree). with_front front (fields_at read tys c.loop-field.from)) (sym first)
          ∙ c.loop-field.invariant.read;
    }

pub read_fields-returns : goal.read_fields-returns
read_fields-returns t c =
    let read : TypeTree → Reading → Reads Tree = λ ty. value_at (table_of c.args.set.now) c.args.depth ty in
    let front = trees_of c.loop-field.values.items in
    let end = types_drop_end c.args.fields.now c.loop-field.field-index c.loop-field-test.false in
    sym c.loop-field.invariant.read ∙ ap (λ (tys : List TypeTree). with_front front (fields_at read tys c.loop-field.from)) end ∙ fields_end read front c.loop-field.from

pub read_named-read_fields-requires : goal.read_named-read_fields-requires
read_named-read_fields-requires t c =
    let table = table_of c.args.set.now in
    let tys = field_types c.in-Some-Fields.fields.now in
    let is : table c.args.name.now.text ≡ Some (Fields tys) = sym (ap (λ (k : NameKind). Some (kind_view k)) (sym c.in-Some-Fields.field-0-is) ∙ c.in-Some-Fields.ensures) in
    (omega (arith, deeper_weight table c.args.depth c.args.name.now.text tys c.requires is), deeper_named table c.args.depth c.args.name.now.text tys c.requires is)

pub read_named-returns-in_ok-fields-in-Some-Fields : goal.read_named-returns-in_ok-fields-in-Some-Fields
read_named-returns-in_ok-fields-in-Some-Fields t c =
    let table = table_of c.args.set.now in
    let tys = field_types c.in-Some-Fields.fields.now in
    let is : table c.args.name.now.text ≡ Some (Fields tys) = sym (ap (λ (k : NameKind). Some (kind_view k)) (sym c.in-Some-Fields.field-0-is) ∙ c.in-Some-Fields.ensures) in
    deeper_struct table c.args.depth c.args.name.now.text tys (trees_of c.in_ok-fields-in-Some-Fields.fields.items) c.args.from.now c.read_fields.new.from c.requires is c.in_ok-fields-in-Some-Fields.ensures
    ∙ ap (λ (v : Tree). read_as v c.read_fields.new.from) (sym (tree_Struct c.in_ok-fields-in-Some-Fields.fields))

pub read_values-returns-in_err-read_value : goal.read_values-returns-in_err-read_value
read_values-returns-in_err-read_value t c =
    let read = value_at (table_of c.args.set.now) c.args.depth (type_tree c.args.of.now) in
    let p = err_from_is_err_and c.from_residual.result c.from_residual.ensures.1 in
    let front = trees_of c.loop.values.items in
    let left = c.args.count - (c.loop.counter + 1) in
    let more : c.args.count - c.loop.counter ≡ suc left = omega arith in
    rw (p.1, p.2) (refuses_map c.in_err-read_value.field-0.0.why c.in_err-read_value.field-0.0.at
    (λ h. sym c.loop.invariant ∙ ap (λ (n : ℕ). with_front front (values_at read n c.loop.from)) more ∙ values_stop read front left c.in_err-read_value.field-0.0 c.loop.from h)
    c.in_err-read_value.ensures)

pub read_values-loop-preserved : goal.read_values-loop-preserved
read_values-loop-preserved t c =
    let read = value_at (table_of c.args.set.now) c.args.depth (type_tree c.args.of.now) in
    let front = trees_of c.loop.values.items in
    let left = c.args.count - (c.loop.counter + 1) in
    let more : c.args.count - c.loop.counter ≡ suc left = omega arith in
    let v = c.in_ok-read_value.field-0 in
    let pushed : trees_of c.push.new.self.items ≡ joined front (one (tree_of v) none) = ap trees_of c.in_ok-push.ensures.items ∙ trees_push c.loop.values.items v in
    ap (λ (vs : Trees). with_front vs (values_at read left c.read_value.new.from)) pushed
    ∙ sym (values_step read front left (tree_of v) c.loop.from c.read_value.new.from c.in_ok-read_value.ensures)
    ∙ ap (λ (n : ℕ). with_front front (values_at read n c.loop.from)) (sym more)
    ∙ c.loop.invariant

pub read_values-returns : goal.read_values-returns
read_values-returns t c =
    let read = value_at (table_of c.args.set.now) c.args.depth (type_tree c.args.of.now) in
    let front = trees_of c.loop.values.items in
    let left : c.args.count - c.loop.counter ≡ 0 = omega arith in
    sym c.loop.invariant ∙ ap (λ (n : ℕ). with_front front (values_at read n c.loop.from)) left ∙ values_end read front c.loop.from
