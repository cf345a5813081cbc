-- A value without where it lies in memory.
use Rattle.std.specs.Prelude.{ℕ, List, [], ◌∷◌, Bool}
use Rattle.marshal_buf.specs.declared.door.Door.{Door}
use Rattle.marshal_value.specs.declared.value.Value.{Value, Bool as BoolValue, U8, U32, U64, Str, Bytes, Sequence', Struct', Enum, Reference, Row_of-Value, end_of-Value, more_of-Value}

mutual
  pub data Tree : Type 0 where
    AsBool : Bool → Tree
    AsU8 : ℕ → Tree
    AsU32 : ℕ → Tree
    AsU64 : ℕ → Tree
    AsText : List ℕ → Tree
    AsBytes : List ℕ → Tree
    AsSequence : Trees → Tree
    AsStruct : Trees → Tree
    AsEnum : ℕ → Tree
    AsReference : Door → Tree

  pub data Trees : Type 0 where
    none : Trees
    one : Tree → Trees → Trees

abbrev mutual
  pub tree_of : Value → Tree
  tree_of (BoolValue v) = AsBool v
  tree_of (U8 v) = AsU8 v
  tree_of (U32 v) = AsU32 v
  tree_of (U64 v) = AsU64 v
  tree_of (Str v) = AsText v
  tree_of (Bytes v) = AsBytes v
  tree_of (Sequence' shape items) = AsSequence (row_trees items)
  tree_of (Struct' shape fields) = AsStruct (row_trees fields)
  tree_of (Enum position) = AsEnum position
  tree_of (Reference door) = AsReference door

  pub row_trees : {m : _} → Row_of-Value m → Trees
  row_trees end_of-Value = none
  row_trees (more_of-Value v rest) = one (tree_of v) (row_trees rest)

-- the values of a list
abbrev pub trees_of : List Value → Trees
trees_of [] = none
trees_of (v ∷ vs) = one (tree_of v) (trees_of vs)
