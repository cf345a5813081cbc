use Rattle.std.proofs.Common.{◌≡◌, ◌+◌, ◌*◌, drop, Some}
use Rattle.marshal_value.specs.Tree.{tree_of, trees_of}
use Rattle.idl_reader.specs.Tree.{type_tree}
use Rattle.marshal_value.specs.Lookup.{table_of}
use Rattle.marshal_value.specs.KindView.{field_types}
use Rattle.marshal_value.specs.TypeTest.{are_of_one, are_of}
use Rattle.marshal_value.proofs.Trees.{weight, weight_of_all}
use Rattle.marshal_value.proofs.check.+checks.Given as goal

abbrev pub invariant-are_of_one-loop-value : goal.invariant-are_of_one-loop-value
invariant-are_of_one-loop-value l = are_of_one (table_of l.set) (type_tree l.of) (trees_of (drop l.value-index l.values)) ≡ are_of_one (table_of l.set) (type_tree l.of) (trees_of l.values)

abbrev pub invariant-are_of-loop-at : goal.invariant-are_of-loop-at
invariant-are_of-loop-at l = are_of (table_of l.set) (Some (field_types (drop l.at l.types))) (trees_of (drop l.at l.values)) ≡ are_of (table_of l.set) (Some (field_types l.types)) (trees_of l.values)

abbrev pub decreases-is_of : goal.decreases-is_of
decreases-is_of l = 2 * weight (tree_of l.value.now) + 1

abbrev pub decreases-is_of_name : goal.decreases-is_of_name
decreases-is_of_name l = 2 * weight (tree_of l.value.now)

abbrev pub decreases-are_of_one : goal.decreases-are_of_one
decreases-are_of_one l = 2 * weight_of_all (trees_of l.values.now)

abbrev pub decreases-are_of : goal.decreases-are_of
decreases-are_of l = 2 * weight_of_all (trees_of l.values.now)

abbrev pub decreases-is_sequence_of : goal.decreases-is_sequence_of
decreases-is_sequence_of l = 2 * weight_of_all (trees_of l.values.now) + 1
