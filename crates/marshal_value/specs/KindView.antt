-- What a name stands for, without where it lies in memory.
use Rattle.std.specs.Prelude.{List, map}
use Rattle.idl_reader.specs.declared.idl.Field.{Field}
use Rattle.marshal_value.specs.declared.kind.NameKind.{NameKind}
use Rattle.marshal_value.specs.declared.kind.NameKind.TheVariants as kind
use Rattle.idl_reader.specs.Tree.{TypeTree, type_tree}
use Rattle.marshal_value.specs.Types.{Kind, Fields, Names, Object}

abbrev pub field_types : List Field → List TypeTree
field_types fields = map (λ field. type_tree field.ty) fields

abbrev pub kind_view : NameKind → Kind
kind_view (kind.Fields fields) = Fields (field_types fields.now)
kind_view (kind.Names number) = Names number
kind_view kind.Object = Object
