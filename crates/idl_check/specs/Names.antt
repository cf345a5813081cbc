-- Which names a declaration declares, and which it uses, in the order of the text.
use Rattle.std.specs.Prelude.{ℕ, List, [], ◌∷◌, ◌++◌, Bool, true, false, map, Option, Some, None}
use Rattle.std.specs.List.{flat_map, list_any}
use Rattle.std.specs.Str.{bytes_eq}
use Rattle.idl_reader.specs.declared.idl.Word.{Word}
use Rattle.idl_reader.specs.Tree.{TypeTree, OfBool, OfU8, OfU32, OfU64, OfString, OfBytes, SequenceOf, OfName, FieldTree, OpTree, DeclTree, StructOf, EnumOf, InterfaceOf}

abbrev pub decl_name : DeclTree → Word
decl_name (StructOf name fields) = name
decl_name (EnumOf name names) = name
decl_name (InterfaceOf name bases ops) = name

abbrev pub is_interface : DeclTree → Bool
is_interface (InterfaceOf name bases ops) = true
is_interface _ = false

-- one of the words is this name
abbrev pub has_name : List ℕ → List Word → Bool
has_name name words = list_any (λ word. bytes_eq word.text name) words

-- the declared names in a type
abbrev pub type_names : TypeTree → List Word
type_names OfBool = []
type_names OfU8 = []
type_names OfU32 = []
type_names OfU64 = []
type_names OfString = []
type_names OfBytes = []
type_names (SequenceOf of) = type_names of
type_names (OfName name) = name ∷ []

abbrev pub field_types : List FieldTree → List Word
field_types fields = flat_map (λ field. type_names field.ty) fields

abbrev pub outcome_types : Option TypeTree → List Word
outcome_types None = []
outcome_types (Some ty) = type_names ty

abbrev pub op_types : OpTree → List Word
op_types op = outcome_types op.outcome ++ flat_map (λ param. type_names param.ty) op.params

-- the types and bases that a declaration names
abbrev pub uses : DeclTree → List Word
uses (StructOf name fields) = field_types fields
uses (EnumOf name names) = []
uses (InterfaceOf name bases ops) = bases ++ flat_map (λ op. op_types op) ops

abbrev pub bases_of : DeclTree → List Word
bases_of (InterfaceOf name bases ops) = bases
bases_of _ = []

-- what a declaration is made of: a struct of the types of its fields, an interface of its bases
abbrev pub parts_of : DeclTree → List Word
parts_of (StructOf name fields) = field_types fields
parts_of (EnumOf name names) = []
parts_of (InterfaceOf name bases ops) = bases

-- the operations that a declaration declares itself
abbrev pub op_names : DeclTree → List Word
op_names (InterfaceOf name bases ops) = map (λ op. op.name) ops
op_names _ = []
