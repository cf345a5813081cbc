-- Declarations apart from the places of their words.
use Rattle.std.specs.Prelude.{List, map, Option, Some, None}
use Rattle.idl_reader.specs.declared.idl.Word.{Word}
use Rattle.idl_reader.specs.Tree.{TypeTree, SequenceOf, OfName, FieldTree, ParamTree, OpTree, DeclTree, StructOf, EnumOf, InterfaceOf}

abbrev pub bare_word : Word → Word
bare_word word = record { text = word.text; place = 0 }

abbrev pub bare_type : TypeTree → TypeTree
bare_type (SequenceOf of) = SequenceOf (bare_type of)
bare_type (OfName name) = OfName (bare_word name)
bare_type ty = ty

abbrev pub bare_field : FieldTree → FieldTree
bare_field field = record { ty = bare_type field.ty; name = bare_word field.name }

abbrev pub bare_param : ParamTree → ParamTree
bare_param param = record { consume = param.consume; ty = bare_type param.ty; name = bare_word param.name }

abbrev pub bare_outcome : Option TypeTree → Option TypeTree
bare_outcome None = None
bare_outcome (Some ty) = Some (bare_type ty)

abbrev pub bare_op : OpTree → OpTree
bare_op op = record { outcome = bare_outcome op.outcome; name = bare_word op.name; params = map (λ param. bare_param param) op.params }

abbrev pub bare_decl : DeclTree → DeclTree
bare_decl (StructOf name fields) = StructOf (bare_word name) (map (λ field. bare_field field) fields)
bare_decl (EnumOf name names) = EnumOf (bare_word name) (map (λ n. bare_word n) names)
bare_decl (InterfaceOf name bases ops) = InterfaceOf (bare_word name) (map (λ base. bare_word base) bases) (map (λ op. bare_op op) ops)

-- the declarations with every place 0
abbrev pub bare : List DeclTree → List DeclTree
bare decls = map (λ d. bare_decl d) decls
