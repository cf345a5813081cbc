-- What a text declares, without where it lies in memory.
use Rattle.std.specs.Prelude.{List, Bool, map, Option, Some, None}
use Rattle.idl_reader.specs.declared.idl.Word.{Word}
use Rattle.idl_reader.specs.declared.idl.IdlType.{IdlType, Bool as BoolType, U8, U32, U64, Str, Bytes, Sequence', Named}
use Rattle.idl_reader.specs.declared.idl.Field.{Field}
use Rattle.idl_reader.specs.declared.idl.Param.{Param}
use Rattle.idl_reader.specs.declared.idl.IdlOp.{IdlOp}
use Rattle.idl_reader.specs.declared.idl.Decl.{Decl}
use Rattle.idl_reader.specs.declared.idl.Decl.TheVariants as decl
use Rattle.idl_reader.specs.declared.idl.Idl.{Idl}

-- a type
pub data TypeTree : Type 0 where
  OfBool : TypeTree
  OfU8 : TypeTree
  OfU32 : TypeTree
  OfU64 : TypeTree
  OfString : TypeTree
  OfBytes : TypeTree
  SequenceOf : TypeTree → TypeTree
  OfName : Word → TypeTree

pub record FieldTree : Type 0 where
  pub ty : TypeTree
  pub name : Word

pub record ParamTree : Type 0 where
  pub consume : Bool
  pub ty : TypeTree
  pub name : Word

-- an operation; without a result it is `void`
pub record OpTree : Type 0 where
  pub outcome : Option TypeTree
  pub name : Word
  pub params : List ParamTree

-- a declaration: its name, and its fields, names, or bases and operations
pub data DeclTree : Type 0 where
  StructOf : Word → List FieldTree → DeclTree
  EnumOf : Word → List Word → DeclTree
  InterfaceOf : Word → List Word → List OpTree → DeclTree

abbrev pub type_tree : IdlType → TypeTree
type_tree BoolType = OfBool
type_tree U8 = OfU8
type_tree U32 = OfU32
type_tree U64 = OfU64
type_tree Str = OfString
type_tree Bytes = OfBytes
type_tree (Sequence' p of) = SequenceOf (type_tree of)
type_tree (Named name) = OfName name

abbrev pub field_tree : Field → FieldTree
field_tree field = record { ty = type_tree field.ty; name = field.name }

abbrev pub param_tree : Param → ParamTree
param_tree param = record { consume = param.consume; ty = type_tree param.ty; name = param.name }

abbrev pub result_tree : Option IdlType → Option TypeTree
result_tree None = None
result_tree (Some ty) = Some (type_tree ty)

abbrev pub op_tree : IdlOp → OpTree
op_tree op = record { outcome = result_tree op.result; name = op.name; params = map (λ param. param_tree param) op.params }

abbrev pub decl_tree : Decl → DeclTree
decl_tree (decl.Struct name fields) = StructOf name (map (λ field. field_tree field) fields)
decl_tree (decl.Enum name names) = EnumOf name names
decl_tree (decl.Interface name bases ops) = InterfaceOf name bases (map (λ op. op_tree op) ops)

-- the declarations of a text
abbrev pub idl_tree : Idl → List DeclTree
idl_tree idl = map (λ d. decl_tree d) idl.decls
