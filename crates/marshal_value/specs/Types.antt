-- Which values a type has.
use Rattle.std.specs.Prelude.{◌≡◌, ◌<◌, ℕ, zero, suc, ◌^◌, List, [], ◌∷◌, length, Option, Some, None, IsSome}
use Rattle.std.specs.Str.{IsUtf8}
use Rattle.idl_reader.specs.Tree.{TypeTree, OfBool, OfU8, OfU32, OfU64, OfString, OfBytes, SequenceOf, OfName}
use Rattle.marshal_value.specs.Tree.{Tree, AsBool, AsU8, AsU32, AsU64, AsText, AsBytes, AsSequence, AsStruct, AsEnum, AsReference, Trees, none, one}
use Rattle.marshal_value.specs.Spelling.{count}

-- what a name stands for: a struct of fields of these types, an enum of so many names, or an interface
pub data Kind : Type 0 where
  Fields : List TypeTree → Kind
  Names : ℕ → Kind
  Object : Kind

-- what each name stands for, if it is declared
abbrev pub Table : Type 0
Table = List ℕ → Option Kind

abbrev mutual
  pub IsOf : Table → TypeTree → Tree → Type 0
  IsOf table OfBool (AsBool v) = Unit {0}
  IsOf table OfU8 (AsU8 v) = v < 2 ^ 8
  IsOf table OfU32 (AsU32 v) = v < 2 ^ 32
  IsOf table OfU64 (AsU64 v) = v < 2 ^ 64
  IsOf table OfString (AsText v) = IsUtf8 v × (length v < 2 ^ 32)
  IsOf table OfBytes (AsBytes v) = length v < 2 ^ 32
  IsOf table (SequenceOf of) (AsSequence vs) = (count vs < 2 ^ 32) × AreOfOne table of vs
  IsOf table (OfName name) (AsStruct vs) = (tys : List TypeTree) × (table name.text ≡ Some (Fields tys)) × AreOf table tys vs
  IsOf table (OfName name) (AsEnum position) = (names : ℕ) × (table name.text ≡ Some (Names names)) × (position < names) × (position < 2 ^ 32)
  IsOf table (OfName name) (AsReference door) = table name.text ≡ Some Object
  IsOf table ty v = ⊥

  -- all of them are of this type
  pub AreOfOne : Table → TypeTree → Trees → Type 0
  AreOfOne table ty none = Unit {0}
  AreOfOne table ty (one v vs) = IsOf table ty v × AreOfOne table ty vs

  -- each of them is of its type
  pub AreOf : Table → List TypeTree → Trees → Type 0
  AreOf table [] none = Unit {0}
  AreOf table (ty ∷ tys) (one v vs) = IsOf table ty v × AreOf table tys vs
  AreOf table tys vs = ⊥

-- The names of a type are declared, and so are those of the fields, no more than so many names deep.
abbrev pub IsNamed : (List ℕ → Type 0) → TypeTree → Type 0
IsNamed named (SequenceOf of) = IsNamed named of
IsNamed named (OfName name) = named name.text
IsNamed named ty = Unit {0}

abbrev pub AreNamed : (List ℕ → Type 0) → List TypeTree → Type 0
AreNamed named [] = Unit {0}
AreNamed named (ty ∷ tys) = IsNamed named ty × AreNamed named tys

abbrev pub IsKind : (List ℕ → Type 0) → Option Kind → Type 0
IsKind named (Some (Fields tys)) = AreNamed named tys
IsKind named (Some (Names names)) = Unit {0}
IsKind named (Some Object) = Unit {0}
IsKind named None = ⊥

unfoldable pub IsDeclared : Table → ℕ → List ℕ → Type 0
IsDeclared table zero name = ⊥
IsDeclared table (suc depth) name = IsKind (IsDeclared table depth) (table name)

-- The names of a type are declared. Where each struct has a higher rank than the names in its fields, none lies deeper
-- than there are ranks.
abbrev pub IsRanked : Table → (List ℕ → ℕ) → Type 0
IsRanked table rank = (name : List ℕ) (tys : List TypeTree) → table name ≡ Some (Fields tys) → AreNamed (λ field. IsSome (table field) × (rank field < rank name)) tys
