-- How declarations are printed.
use Rattle.std.specs.Prelude.{ℕ, List, [], ◌∷◌, ◌++◌, codes, map, Option, Some, None}
use Rattle.std.specs.List.{flat_map}
use Rattle.idl_reader.specs.declared.idl.Word.{Word}
use Rattle.idl_reader.specs.Grammar.{way_word}
use Rattle.idl_reader.specs.Tree.{TypeTree, OfBool, OfU8, OfU32, OfU64, OfString, OfBytes, SequenceOf, OfName, FieldTree, ParamTree, OpTree, DeclTree, StructOf, EnumOf, InterfaceOf}

-- texts with a comma and a space between each two
abbrev pub comma_joined : List (List ℕ) → List ℕ
comma_joined [] = []
comma_joined (text ∷ texts) = text ++ flat_map (λ t. codes ", " ++ t) texts

abbrev pub type_text : TypeTree → List ℕ
type_text OfBool = codes "bool"
type_text OfU8 = codes "u8"
type_text OfU32 = codes "u32"
type_text OfU64 = codes "u64"
type_text OfString = codes "string"
type_text OfBytes = codes "bytes"
type_text (SequenceOf of) = codes "sequence<" ++ type_text of ++ codes ">"
type_text (OfName name) = name.text

abbrev pub field_text : FieldTree → List ℕ
field_text field = codes "  " ++ type_text field.ty ++ codes " " ++ field.name.text ++ codes ";\n"

abbrev pub param_text : ParamTree → List ℕ
param_text param = way_word param.consume ++ codes " " ++ type_text param.ty ++ codes " " ++ param.name.text

abbrev pub result_text : Option TypeTree → List ℕ
result_text None = codes "void"
result_text (Some ty) = type_text ty

abbrev pub op_text : OpTree → List ℕ
op_text op = codes "  " ++ result_text op.outcome ++ codes " " ++ op.name.text ++ codes "(" ++ comma_joined (map (λ param. param_text param) op.params) ++ codes ");\n"

abbrev pub names_text : List Word → List ℕ
names_text names = comma_joined (map (λ name. name.text) names)

abbrev pub bases_text : List Word → List ℕ
bases_text [] = []
bases_text (base ∷ bases) = codes " : " ++ names_text (base ∷ bases)

abbrev pub decl_text : DeclTree → List ℕ
decl_text (StructOf name fields) = codes "struct " ++ name.text ++ codes " {\n" ++ flat_map (λ field. field_text field) fields ++ codes "};\n"
decl_text (EnumOf name names) = codes "enum " ++ name.text ++ codes " {\n  " ++ names_text names ++ codes "\n};\n"
decl_text (InterfaceOf name bases ops) = codes "interface " ++ name.text ++ bases_text bases ++ codes " {\n" ++ flat_map (λ op. op_text op) ops ++ codes "};\n"

-- the printed text of some declarations
abbrev pub spelling : List DeclTree → List ℕ
spelling decls = flat_map (λ d. decl_text d) decls
