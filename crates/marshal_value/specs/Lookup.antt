-- What the declarations of a text that fit together say of a name.
use Rattle.std.specs.Prelude.{ℕ, length}
use Rattle.idl_reader.specs.Tree.{idl_tree}
use Rattle.idl_tables.specs.TableSet.{Tabled}
use Rattle.marshal_value.specs.Types.{Table}
use Rattle.marshal_value.specs.Decls.{find_kind}

abbrev pub table_of : Tabled → Table
table_of set = find_kind (idl_tree set.idl)

-- how deep names lie at most
abbrev pub depth_of : Tabled → ℕ
depth_of set = length (idl_tree set.idl)
