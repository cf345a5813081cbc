-- The test whether a value is of a type.
use Rattle.std.specs.Prelude.{ℕ, ◌^◌, Bool, true, false, ◌&&◌, List, [], ◌∷◌, length, Option, Some, None, nat_lt}
use Rattle.std.specs.Str.{is_utf8}
use Rattle.idl_reader.specs.Tree.{TypeTree, OfBool, OfU8, OfU32, OfU64, OfString, OfBytes, SequenceOf, OfName}
use Rattle.marshal_value.specs.Tree.{Tree, AsBool, AsU8, AsU32, AsU64, AsText, AsBytes, AsSequence, AsStruct, AsEnum, AsReference, Trees, none, one}
use Rattle.marshal_value.specs.Spelling.{count}
use Rattle.marshal_value.specs.Types.{Kind, Fields, Names, Object, Table}

abbrev pub is_short_text : List ℕ → Bool
is_short_text bytes = is_utf8 bytes && nat_lt (length bytes) (2 ^ 32)

abbrev pub is_within : ℕ → Option Kind → Bool
is_within position (Some (Names names)) = nat_lt position names
is_within position kind = false

abbrev pub is_object : Option Kind → Bool
is_object (Some Object) = true
is_object kind = false

abbrev pub fields_of : Option Kind → Option (List TypeTree)
fields_of (Some (Fields tys)) = Some tys
fields_of kind = None

abbrev mutual
  pub is_of : Table → TypeTree → Tree → Bool
  is_of table OfBool (AsBool v) = true
  is_of table OfU8 (AsU8 v) = nat_lt v 256
  is_of table OfU32 (AsU32 v) = nat_lt v (2 ^ 32)
  is_of table OfU64 (AsU64 v) = nat_lt v (2 ^ 64)
  is_of table OfString (AsText v) = is_short_text v
  is_of table OfBytes (AsBytes v) = nat_lt (length v) (2 ^ 32)
  is_of table (SequenceOf of) (AsSequence vs) = nat_lt (count vs) (2 ^ 32) && are_of_one table of vs
  is_of table (OfName name) (AsStruct vs) = are_of table (fields_of (table name.text)) vs
  is_of table (OfName name) (AsEnum position) = nat_lt position (2 ^ 32) && is_within position (table name.text)
  is_of table (OfName name) (AsReference door) = is_object (table name.text)
  is_of table ty v = false

  pub are_of_one : Table → TypeTree → Trees → Bool
  are_of_one table ty none = true
  are_of_one table ty (one v vs) = is_of table ty v && are_of_one table ty vs

  pub are_of : Table → Option (List TypeTree) → Trees → Bool
  are_of table (Some []) none = true
  are_of table (Some (ty ∷ tys)) (one v vs) = is_of table ty v && are_of table (Some tys) vs
  are_of table tys vs = false

-- a count that can be spelled, and values of one type
abbrev pub is_sequence_of : Table → TypeTree → Trees → Bool
is_sequence_of table ty vs = nat_lt (count vs) (2 ^ 32) && are_of_one table ty vs
