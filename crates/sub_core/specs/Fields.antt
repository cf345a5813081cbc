-- What the bytes of an object say.
use Rattle.std.specs.Prelude.{ℕ, Bool, List, [], Result, Ok, Err, if◌then◌else◌}
use Rattle.std.specs.Str.{bytes_eq}
use Rattle.marshal_buf.specs.declared.door.Door.{Door}
use Rattle.marshal_buf.specs.declared.why.Short.{Short}
use Rattle.marshal_buf.specs.declared.why.BadDoor.{BadDoor}
use Rattle.marshal_buf.specs.Counted.{counted_at}
use Rattle.marshal_buf.specs.Reading.{Reading, number_at, door_at, past}
use Rattle.text_words.specs.Words.{is_path_word}
use Rattle.sub_core.specs.declared.shape.Form.{Form}
use Rattle.sub_core.specs.declared.shape.Form.TheVariants.{Bare, Tagged, Managed, Pathed}
use Rattle.sub_core.specs.declared.why.AnyErr.{AnyErr}
use Rattle.sub_core.specs.declared.why.AnyErr.TheVariants as whys
use Rattle.sub_core.specs.Names.{manager_name}

-- WHAT AN OBJECT SAYS: its door, its tag, or 0 if it has none, and its name, or nothing
pub record Fields : Type 0 where
  pub door : Door
  pub tag : ℕ
  pub name : List ℕ

abbrev pub tagged : Result ℕ Short → Result (ℕ × List ℕ) ℕ
tagged (Ok tag) = Ok (tag, [])
tagged (Err short) = Err short.at

abbrev pub named : (List ℕ → Bool) → ℕ → Result (List ℕ) Short → Result (ℕ × List ℕ) ℕ
named allows at (Ok name) = if allows name then Ok (0, name) else Err at
named allows at (Err short) = Err short.at

-- the tag and the name that come next, or the byte at which they cannot stand: a name that the form has not cannot stand where
-- its length does
abbrev pub tail_at : Form → Reading → Result (ℕ × List ℕ) ℕ
tail_at Bare r = Ok (0, [])
tail_at Tagged r = tagged (number_at 4 r)
tail_at Managed r = named (λ name. bytes_eq name manager_name) r.at (counted_at r)
tail_at Pathed r = named is_path_word r.at (counted_at r)

abbrev pub door_and : Door → Result (ℕ × List ℕ) ℕ → Result Fields ℕ
door_and door (Ok tail) = Ok (record { door = door; tag = tail.0; name = tail.1 })
door_and door (Err at) = Err at

abbrev pub fields_from : Form → Reading → Result Door BadDoor → Result Fields ℕ
fields_from form behind (Ok door) = door_and door (tail_at form behind)
fields_from form behind (Err bad) = Err bad.at

-- the door that comes next, and the tag and the name behind it, or the byte at which they cannot stand
abbrev pub fields_at : Form → Reading → Result Fields ℕ
fields_at form r = fields_from form (past 4 1 r) (door_at r)

-- the same behind an identifier
abbrev pub fields_behind : Form → Reading → Result Fields ℕ
fields_behind form r = fields_at form (past 2 0 r)

abbrev pub or_bad_object : Result Fields ℕ → Result Fields AnyErr
or_bad_object (Ok fields) = Ok fields
or_bad_object (Err at) = Err (whys.BadObject at)

abbrev pub known_fields : (ℕ → Bool) → (ℕ → Form) → Reading → Result ℕ Short → Result Fields AnyErr
known_fields has form r (Ok id) = if has id then or_bad_object (fields_behind (form id) r) else Err (whys.UnknownSubcontract id)
known_fields has form r (Err short) = Err (whys.BadObject short.at)

-- what the object says that comes next: its identifier says of which form it is, if it is known
abbrev pub any_fields_at : (ℕ → Bool) → (ℕ → Form) → Reading → Result Fields AnyErr
any_fields_at has form r = known_fields has form r (number_at 2 r)
