-- What declarations say of a name.
use Rattle.std.specs.Prelude.{ℕ, List, [], ◌∷◌, length, map, Bool, true, Option, Some, None, is_some, if◌then◌else◌}
use Rattle.std.specs.Str.{bytes_eq}
use Rattle.idl_reader.specs.Tree.{TypeTree, SequenceOf, OfName, DeclTree, StructOf, EnumOf, InterfaceOf}
use Rattle.idl_check.specs.Names.{decl_name}
use Rattle.marshal_value.specs.Types.{Kind, Fields, Names, Object}

-- what a declared name stands for
abbrev pub kind_of : DeclTree → Kind
kind_of (StructOf name fields) = Fields (map (λ field. field.ty) fields)
kind_of (EnumOf name names) = Names (length names)
kind_of (InterfaceOf name bases ops) = Object

abbrev pub find_kind : List DeclTree → List ℕ → Option Kind
find_kind [] name = None
find_kind (d ∷ ds) name = if bytes_eq (decl_name d).text name then Some (kind_of d) else find_kind ds name

-- whether the names of a type are declared
abbrev pub is_found : List DeclTree → TypeTree → Bool
is_found decls (SequenceOf of) = is_found decls of
is_found decls (OfName name) = is_some (find_kind decls name.text)
is_found decls ty = true
