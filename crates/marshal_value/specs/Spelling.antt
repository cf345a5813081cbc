-- How a value is spelled, and which doors it brings.
use Rattle.std.specs.Prelude.{◌<◌, ℕ, suc, ◌+◌, ◌^◌, ◌++◌, List, [], ◌∷◌, length, Bool, true, false}
use Rattle.marshal_buf.specs.declared.door.Door.{Door}
use Rattle.marshal_buf.specs.Counted.{counted}
use Rattle.marshal_buf.specs.Numbers.{number_bytes}
use Rattle.marshal_value.specs.Tree.{Tree, AsBool, AsU8, AsU32, AsU64, AsText, AsBytes, AsSequence, AsStruct, AsEnum, AsReference, Trees, none, one}

-- one byte, 0 or 1
abbrev pub flag : Bool → List ℕ
flag false = 0 ∷ []
flag true = 1 ∷ []

abbrev pub count : Trees → ℕ
count none = 0
count (one v vs) = suc (count vs)

-- the doors of the references, in order
abbrev mutual
  pub doors_of : Tree → List Door
  doors_of (AsSequence vs) = doors_of_all vs
  doors_of (AsStruct vs) = doors_of_all vs
  doors_of (AsReference door) = door ∷ []
  doors_of _ = []

  pub doors_of_all : Trees → List Door
  doors_of_all none = []
  doors_of_all (one v vs) = doors_of v ++ doors_of_all vs

-- the bytes, where so many doors stand before
abbrev mutual
  pub spelling : ℕ → Tree → List ℕ
  spelling doors (AsBool v) = flag v
  spelling doors (AsU8 v) = v ∷ []
  spelling doors (AsU32 v) = number_bytes 4 v
  spelling doors (AsU64 v) = number_bytes 8 v
  spelling doors (AsText v) = counted v
  spelling doors (AsBytes v) = counted v
  spelling doors (AsSequence vs) = number_bytes 4 (count vs) ++ spelling_of_all doors vs
  spelling doors (AsStruct vs) = spelling_of_all doors vs
  spelling doors (AsEnum position) = number_bytes 4 position
  spelling doors (AsReference door) = number_bytes 4 doors

  -- one after the other
  pub spelling_of_all : ℕ → Trees → List ℕ
  spelling_of_all doors none = []
  spelling_of_all doors (one v vs) = spelling doors v ++ spelling_of_all (doors + length (doors_of v)) vs

-- how many bytes a spelling has, whatever doors stand before
abbrev mutual
  pub size_of : Tree → ℕ
  size_of (AsBool v) = 1
  size_of (AsU8 v) = 1
  size_of (AsU32 v) = 4
  size_of (AsU64 v) = 8
  size_of (AsText v) = 4 + length v
  size_of (AsBytes v) = 4 + length v
  size_of (AsSequence vs) = 4 + size_of_all vs
  size_of (AsStruct vs) = size_of_all vs
  size_of (AsEnum position) = 4
  size_of (AsReference door) = 4

  pub size_of_all : Trees → ℕ
  size_of_all none = 0
  size_of_all (one v vs) = size_of v + size_of_all vs

-- each count and each length has a spelling
abbrev mutual
  pub HasSpelling : Tree → Type 0
  HasSpelling (AsText v) = length v < 2 ^ 32
  HasSpelling (AsBytes v) = length v < 2 ^ 32
  HasSpelling (AsSequence vs) = (count vs < 2 ^ 32) × HaveSpelling vs
  HasSpelling (AsStruct vs) = HaveSpelling vs
  HasSpelling _ = Unit {0}

  pub HaveSpelling : Trees → Type 0
  HaveSpelling none = Unit {0}
  HaveSpelling (one v vs) = HasSpelling v × HaveSpelling vs
