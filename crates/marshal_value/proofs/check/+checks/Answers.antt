use Rattle.std.proofs.Common.{◌≡◌, ◌+◌, drop, Option, Some, sym, ◌∙◌, ap, arith}
use Rattle.marshal_value.specs.Tree.{Tree, Trees, tree_of, trees_of}
use Rattle.idl_reader.specs.Tree.{TypeTree, SequenceOf, OfName, type_tree}
use Rattle.marshal_value.specs.Lookup.{table_of}
use Rattle.idl_reader.specs.declared.idl.IdlType.{IdlType}
use Rattle.marshal_value.specs.declared.kind.NameKind.{NameKind}
use Rattle.marshal_value.specs.KindView.{field_types, kind_view}
use Rattle.marshal_value.specs.Types.{Kind, Fields}
use Rattle.marshal_value.specs.TypeTest.{fields_of, is_of, are_of_one, are_of}
use Rattle.marshal_value.proofs.Trees.{at_sequence, at_struct, weight, weight_inside, trees_drop}
use Rattle.marshal_value.proofs.TypeTests.{first_false, first_true, few_values, many_values, other_number}
use Rattle.marshal_value.proofs.check.+checks.Goals as goal

pub are_of-returns-then-types-values : goal.are_of-returns-then-types-values
are_of-returns-then-types-values t c = sym (other_number (table_of c.args.set.now) c.args.types.now c.args.values.now c.if-types-values.true)

pub are_of-is_of-requires : goal.are_of-is_of-requires
are_of-is_of-requires t c =
    let inside = weight_inside c.args.values.now c.loop-at.at c.index-values-at.result c.loop-at-test.true c.index-values-at.is in
    (omega (arith, inside), tt)

pub are_of_one-is_of-requires : goal.are_of_one-is_of-requires
are_of_one-is_of-requires t c =
    let inside = weight_inside c.args.values.now c.loop-value.value-index c.value-item.result c.loop-value-test.true c.value-item.is in
    (omega (arith, inside), tt)

pub are_of_one-returns-then-not-is_of : goal.are_of_one-returns-then-not-is_of
are_of_one-returns-then-not-is_of t c =
    let first = trees_drop c.args.values.now c.loop-value.value-index c.value-item.result c.loop-value-test.true c.value-item.is in
    let table = table_of c.args.set.now in
    let ty = type_tree c.args.of.now in
    let others = trees_of (drop (c.loop-value.value-index + 1) c.args.values.now) in
    sym (sym c.loop-value.invariant ∙ ap (λ (vs : Trees). are_of_one table ty vs) first ∙ first_false table ty (tree_of c.value-item.result) others (sym c.is_of.ensures ∙ c.if-not-is_of.true))

pub are_of_one-loop-value-preserved : goal.are_of_one-loop-value-preserved
are_of_one-loop-value-preserved t c =
    let first = trees_drop c.args.values.now c.loop-value.value-index c.value-item.result c.loop-value-test.true c.value-item.is in
    let table = table_of c.args.set.now in
    let ty = type_tree c.args.of.now in
    let others = trees_of (drop (c.loop-value.value-index + 1) c.args.values.now) in
    sym (first_true table ty (tree_of c.value-item.result) others (sym c.is_of.ensures ∙ c.if-not-is_of.false)) ∙ ap (λ (vs : Trees). are_of_one table ty vs) (sym first) ∙ c.loop-value.invariant

pub is_of-is_sequence_of-requires : goal.is_of-is_sequence_of-requires
is_of-is_sequence_of-requires t c =
    let tree = at_sequence c.args.value.now c.in-Sequence-value.items c.deref-in-Sequence-value.result.now c.in-Sequence-value.is c.deref-in-Sequence-value.ensures.value in
    (omega (arith, ap weight tree), tt)

pub is_of-returns-in-Sequence-value : goal.is_of-returns-in-Sequence-value
is_of-returns-in-Sequence-value t c =
    let table = table_of c.args.set.now in
    let tree = at_sequence c.args.value.now c.in-Sequence-value.items c.deref-in-Sequence-value.result.now c.in-Sequence-value.is c.deref-in-Sequence-value.ensures.value in
    let ty : type_tree c.args.ty.now ≡ SequenceOf (type_tree c.deref.result.now) = ap type_tree c.in-Sequence.is ∙ ap (λ (x : IdlType). SequenceOf (type_tree x)) (sym c.deref.ensures) in
    c.is_sequence_of.ensures ∙ sym (ap (λ (x : TypeTree). is_of table x (tree_of c.args.value.now)) ty ∙ ap (λ (v : Tree). is_of table (SequenceOf (type_tree c.deref.result.now)) v) tree)

pub is_of_name-are_of-requires : goal.is_of_name-are_of-requires
is_of_name-are_of-requires t c =
    let tree = at_struct c.args.value.now c.in-Struct.fields c.deref.result.now c.in-Struct.is c.deref.ensures.value in
    (omega (arith, ap weight tree), tt)

pub is_of_name-returns-in-Some-Fields : goal.is_of_name-returns-in-Some-Fields
is_of_name-returns-in-Some-Fields t c =
    let table = table_of c.args.set.now in
    let tree = at_struct c.args.value.now c.in-Struct.fields c.deref.result.now c.in-Struct.is c.deref.ensures.value in
    let kind : Some (Fields (field_types c.in-Some-Fields.types.now)) ≡ table c.args.name.now.text = ap (λ (k : NameKind). Some (kind_view k)) (sym c.in-Some-Fields.field-0-is) ∙ c.in-Some-Fields.ensures in
    c.are_of.ensures ∙ ap (λ (k : Option Kind). are_of table (fields_of k) (trees_of c.deref.result.now)) kind
    ∙ sym (ap (λ (v : Tree). is_of table (OfName c.args.name.now) v) tree)

pub is_sequence_of-returns-then-values : goal.is_sequence_of-returns-then-values
is_sequence_of-returns-then-values t c =
    c.are_of_one.ensures ∙ sym (few_values (table_of c.args.set.now) (type_tree c.args.of.now) c.args.values.now c.if-values.true)

pub is_sequence_of-returns-else-values : goal.is_sequence_of-returns-else-values
is_sequence_of-returns-else-values t c =
    many_values (table_of c.args.set.now) (type_tree c.args.of.now) c.args.values.now c.if-values.false
