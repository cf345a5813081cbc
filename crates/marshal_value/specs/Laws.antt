-- What holds of every value of a type.
use Rattle.std.specs.Prelude.{◌≡◌, ◌<◌, ℕ, ◌^◌, ◌++◌, List, length, Ok, IsSome}
use Rattle.marshal_buf.specs.declared.door.Door.{Door}
use Rattle.marshal_buf.specs.Held.{Held, Puts}
use Rattle.marshal_buf.specs.Reading.{Reading}
use Rattle.idl_reader.specs.Tree.{TypeTree}
use Rattle.idl_tables.specs.TableSet.{Tabled, IsTabled}
use Rattle.marshal_value.specs.Lookup.{table_of, depth_of}
use Rattle.marshal_value.specs.Tree.{Tree}
use Rattle.marshal_value.specs.Spelling.{spelling, doors_of}
use Rattle.marshal_value.specs.Types.{Table, IsOf, IsNamed, IsDeclared}
use Rattle.marshal_value.specs.Reading.{value_at, behind}

-- one spelling begins two values of a type only if it is the spelling of both; and with the same doors they are one value
pub record IsOne (doors : ℕ) (v w : Tree) (more others : List ℕ) : Type 0 where
  pub spelled : spelling doors v ≡ spelling doors w
  pub rest : more ≡ others
  pub number : length (doors_of v) ≡ length (doors_of w)
  pub value : doors_of v ≡ doors_of w → v ≡ w

abbrev pub OneSpelling : Type 0
OneSpelling = (table : Table) (ty : TypeTree) (doors : ℕ) (v w : Tree) (more others : List ℕ) → IsOf table ty v → IsOf table ty w → spelling doors v ++ more ≡ spelling doors w ++ others → IsOne doors v w more others

-- if a set declares the names of a type, they lie no deeper than there are declarations, and so do those of the fields
abbrev pub DeclaredWithin : Type 0
DeclaredWithin = (set : Tabled) → IsTabled set → (ty : TypeTree) → IsNamed (λ name. IsSome (table_of set name)) ty → IsNamed (IsDeclared (table_of set) (depth_of set)) ty

-- a reading that stands where the value was put
pub record StandsBefore (old new : Held) (more : List ℕ) (more_doors : List Door) (r : Reading) : Type 0 where
  pub input : r.input ≡ new.bytes ++ more
  pub doors : r.doors ≡ new.doors ++ more_doors
  pub at : r.at ≡ length old.bytes
  pub next : r.next ≡ length old.doors

-- what was put is read again, whatever follows it
abbrev pub WrittenIsRead : Type 0
WrittenIsRead = (table : Table) (depth : ℕ) (ty : TypeTree) (v : Tree) (old new : Held) (more : List ℕ) (more_doors : List Door) (r : Reading) → IsNamed (IsDeclared table depth) ty → IsOf table ty v → Puts (spelling (length old.doors) v) (doors_of v) old new → StandsBefore old new more more_doors r → length r.doors < 2 ^ 32 → value_at table depth ty r ≡ Ok (v, behind v r)
