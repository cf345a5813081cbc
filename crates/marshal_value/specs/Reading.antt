-- Reading a value of a type: the first part that cannot stand refuses it.
use Rattle.std.specs.Prelude.{◌≡◌, ◌==◌, ℕ, zero, suc, ◌++◌, List, [], ◌∷◌, length, drop, slice_index, nat_lt, true, false, if◌then◌else◌, Option, Some, None, Result, Ok, Err}
use Rattle.std.specs.Str.{is_utf8}
use Rattle.marshal_buf.specs.declared.door.Door.{Door}
use Rattle.marshal_buf.specs.declared.why.Short.{Short}
use Rattle.marshal_buf.specs.declared.why.BadDoor.{BadDoor}
use Rattle.marshal_buf.specs.Reading.{Reading, rest_of, past, number_at, part_at, door_at}
use Rattle.marshal_value.specs.declared.why.ValueWhy.{ValueWhy}
use Rattle.marshal_value.specs.declared.why.ValueWhy.TheVariants as why
use Rattle.marshal_value.specs.declared.why.BadValue.{BadValue}
use Rattle.idl_reader.specs.Tree.{TypeTree, OfBool, OfU8, OfU32, OfU64, OfString, OfBytes, SequenceOf, OfName}
use Rattle.marshal_value.specs.Tree.{Tree, AsBool, AsU8, AsU32, AsU64, AsText, AsBytes, AsSequence, AsStruct, AsEnum, AsReference, Trees, none, one}
use Rattle.marshal_value.specs.Spelling.{spelling, doors_of}
use Rattle.marshal_value.specs.Types.{Kind, Fields, Names, Object, Table}

-- what is read and the reading after it, or why nothing can be read
abbrev pub Reads : Type 0 → Type 0
Reads X = Result (X × Reading) BadValue

infixl 10 ◌>>=◌
abbrev pub ◌>>=◌ : {A B E : Type 0} → Result A E → (A → Result B E) → Result B E
(Ok x) >>= f = f x
(Err e) >>= f = Err e

abbrev pub bad : {X : Type 0} → ℕ → ValueWhy → Reads X
bad at why = Err (record { at = at; why = why })

abbrev pub or_short : {X : Type 0} → Reading → Result X Short → Reads X
or_short after (Ok x) = Ok (x, after)
or_short after (Err short) = bad short.at why.Short

unfoldable pub number_from : ℕ → Reading → Reads ℕ
number_from n r = or_short (past n 0 r) (number_at n r)

unfoldable pub part_from : ℕ → Reading → Reads (List ℕ)
part_from n r = or_short (past n 0 r) (part_at n r)

abbrev pub flag_at : ℕ → ℕ → Reading → Reads Tree
flag_at at byte after = if byte == 0 then Ok (AsBool false, after) else if byte == 1 then Ok (AsBool true, after) else bad at why.Bool

unfoldable pub bool_at : Reading → Reads Tree
bool_at r = part_from 1 r >>= λ byte. flag_at r.at (slice_index byte.0 0) byte.1

unfoldable pub u8_at : Reading → Reads Tree
u8_at r = part_from 1 r >>= λ byte. Ok (AsU8 (slice_index byte.0 0), byte.1)

unfoldable pub u32_at : Reading → Reads Tree
u32_at r = number_from 4 r >>= λ n. Ok (AsU32 n.0, n.1)

unfoldable pub u64_at : Reading → Reads Tree
u64_at r = number_from 8 r >>= λ n. Ok (AsU64 n.0, n.1)

-- a length and so many bytes
unfoldable pub counted_at : Reading → Reads (List ℕ)
counted_at r = number_from 4 r >>= λ n. part_from n.0 n.1

unfoldable pub bytes_at : Reading → Reads Tree
bytes_at r = counted_at r >>= λ part. Ok (AsBytes part.0, part.1)

unfoldable pub text_at : Reading → Reads Tree
text_at r = counted_at r >>= λ part. if is_utf8 part.0 then Ok (AsText part.0, part.1) else bad r.at why.Utf8

unfoldable pub enum_at : ℕ → Reading → Reads Tree
enum_at names r = number_from 4 r >>= λ n. if nat_lt n.0 names then Ok (AsEnum n.0, n.1) else bad r.at why.Enum

abbrev pub or_index : Reading → Result Door BadDoor → Reads Tree
or_index r (Ok door) = Ok (AsReference door, past 4 1 r)
or_index r (Err door) = bad r.at why.DoorIndex

unfoldable pub reference_at : Reading → Reads Tree
reference_at r = number_from 4 r >>= λ n. or_index r (door_at r)

-- so many values, each read in the same way
unfoldable pub values_at : (Reading → Reads Tree) → ℕ → Reading → Reads Trees
values_at read zero r = Ok (none, r)
values_at read (suc n) r = read r >>= λ v. values_at read n v.1 >>= λ vs. Ok (one v.0 vs.0, vs.1)

unfoldable pub sequence_at : (Reading → Reads Tree) → Reading → Reads Tree
sequence_at read r = number_from 4 r >>= λ n. values_at read n.0 n.1 >>= λ vs. Ok (AsSequence vs.0, vs.1)

-- the values of fields
unfoldable pub fields_at : (TypeTree → Reading → Reads Tree) → List TypeTree → Reading → Reads Trees
fields_at read [] r = Ok (none, r)
fields_at read (ty ∷ tys) r = read ty r >>= λ v. fields_at read tys v.1 >>= λ vs. Ok (one v.0 vs.0, vs.1)

-- a value of a declared type; a name that is not declared has none
abbrev pub kind_at : (TypeTree → Reading → Reads Tree) → Option Kind → Reading → Reads Tree
kind_at read (Some (Fields tys)) r = fields_at read tys r >>= λ vs. Ok (AsStruct vs.0, vs.1)
kind_at read (Some (Names names)) r = enum_at names r
kind_at read (Some Object) r = reference_at r
kind_at read None r = bad r.at why.Memory

-- a value of a type
unfoldable pub type_at : (List ℕ → Reading → Reads Tree) → TypeTree → Reading → Reads Tree
type_at named OfBool r = bool_at r
type_at named OfU8 r = u8_at r
type_at named OfU32 r = u32_at r
type_at named OfU64 r = u64_at r
type_at named OfString r = text_at r
type_at named OfBytes r = bytes_at r
type_at named (SequenceOf of) r = sequence_at (type_at named of) r
type_at named (OfName name) r = named name.text r

-- a value of a name, where names lie no deeper than so many
unfoldable pub named_at : Table → ℕ → List ℕ → Reading → Reads Tree
named_at table zero name r = bad r.at why.Memory
named_at table (suc depth) name r = kind_at (type_at (named_at table depth)) (table name) r

-- a value of a type whose names lie no deeper than so many
abbrev pub value_at : Table → ℕ → TypeTree → Reading → Reads Tree
value_at table depth ty r = type_at (named_at table depth) ty r

-- a value, its doors and what follows them come next
pub record ComesNext (v : Tree) (more : List ℕ) (more_doors : List Door) (r : Reading) : Type 0 where
  pub bytes : rest_of r ≡ spelling r.next v ++ more
  pub doors : drop r.next r.doors ≡ doors_of v ++ more_doors

-- the reading behind it
abbrev pub behind : Tree → Reading → Reading
behind v r = past (length (spelling r.next v)) (length (doors_of v)) r

-- this value came next, and the reading goes on behind it
pub record IsRead (v : Tree) (old new : Reading) : Type 0 where
  pub next : ComesNext v (rest_of new) (drop new.next old.doors) old
  pub place : new ≡ behind v old

-- a refusal is the one of the reading; where memory ran out it says nothing of the bytes, and its place is 0
abbrev pub Refuses : ValueWhy → ℕ → Type 0 → Type 0
Refuses why.Memory at Refused = at ≡ 0
Refuses other at Refused = Refused

-- what a call answered, seen by view, and the reading after it are what reading gives, unless memory ran out
abbrev pub Gives : {X Y : Type 0} → (X → Y) → Result X BadValue → Reading → Reads Y → Type 0
Gives view (Ok x) after read = read ≡ Ok (view x, after)
Gives view (Err e) after read = Refuses e.why e.at (read ≡ Err e)
