use Rattle.std.proofs.Common.{◌≡◌, ◌+◌, ◌-◌, List, drop}
use Rattle.marshal_buf.specs.Reading.{Reading}
use Rattle.marshal_value.specs.Tree.{Tree, trees_of}
use Rattle.idl_reader.specs.Tree.{TypeTree, type_tree}
use Rattle.marshal_value.specs.Lookup.{table_of}
use Rattle.marshal_value.specs.KindView.{field_types}
use Rattle.marshal_value.specs.Types.{AreNamed, IsDeclared}
use Rattle.marshal_value.specs.Reading.{Reads, values_at, fields_at, value_at}
use Rattle.marshal_value.proofs.Fronts.{with_front}
use Rattle.marshal_value.proofs.Weights.{type_weight, weight_of_types, name_weight}
use Rattle.marshal_value.proofs.read.+reads.Given as goal

-- the values so far, and those that are read next, are all
abbrev pub invariant-read_values-loop : goal.invariant-read_values-loop
invariant-read_values-loop l =
    let read : Reading → Reads Tree = value_at (table_of l.set) l.depth (type_tree l.of) in
    with_front (trees_of l.values.items) (values_at read (l.count - l.counter) l.from) ≡ values_at read l.count l.initial.from

abbrev pub invariant-read_fields-loop-field : goal.invariant-read_fields-loop-field
invariant-read_fields-loop-field l =
    let read : TypeTree → Reading → Reads Tree = λ ty. value_at (table_of l.set) l.depth ty in
    let types : List TypeTree = field_types l.fields in
    let rest : List TypeTree = field_types (drop l.field-index l.fields) in
    record {
      named : AreNamed (IsDeclared (table_of l.set) l.depth) rest;
      read : with_front (trees_of l.values.items) (fields_at read rest l.from) ≡ fields_at read types l.initial.from;
    }

abbrev pub decreases-read_value : goal.decreases-read_value
decreases-read_value l = type_weight (name_weight (table_of l.set.now) l.depth) (type_tree l.ty.now)

abbrev pub decreases-read_sequence : goal.decreases-read_sequence
decreases-read_sequence l = type_weight (name_weight (table_of l.set.now) l.depth) (type_tree l.of.now) + 2

abbrev pub decreases-read_values : goal.decreases-read_values
decreases-read_values l = type_weight (name_weight (table_of l.set.now) l.depth) (type_tree l.of.now) + 1

abbrev pub decreases-read_named : goal.decreases-read_named
decreases-read_named l = name_weight (table_of l.set.now) l.depth l.name.now.text + 1

abbrev pub decreases-read_fields : goal.decreases-read_fields
decreases-read_fields l = weight_of_types (name_weight (table_of l.set.now) l.depth) (field_types l.fields.now)
