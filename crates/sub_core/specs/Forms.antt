-- The bytes of an object.
use Rattle.std.specs.Prelude.{◌≡◌, ◌≤◌, ℕ, ◌+◌, ◌++◌, List, [], length, IsTrue}
use Rattle.marshal_buf.specs.Held.{Held}
use Rattle.marshal_buf.specs.Numbers.{number_bytes}
use Rattle.marshal_buf.specs.Counted.{counted}
use Rattle.text_words.specs.Words.{is_path_word}
use Rattle.sub_core.specs.declared.shape.Form.{Form}
use Rattle.sub_core.specs.declared.shape.Form.TheVariants.{Bare, Tagged, Managed, Pathed}
use Rattle.sub_core.specs.declared.values.Object.{Object}
use Rattle.sub_core.specs.Names.{manager_name}

-- what the form has behind the index of the door: nothing, the tag, or the name behind its length
abbrev pub tail_bytes : Form → ℕ → List ℕ → List ℕ
tail_bytes Bare tag name = []
tail_bytes Tagged tag name = number_bytes 4 tag
tail_bytes Managed tag name = counted name
tail_bytes Pathed tag name = counted name

-- the subcontract's identifier, the index of the door, and what the form has behind it
abbrev pub object_bytes : ℕ → Form → ℕ → ℕ → List ℕ → List ℕ
object_bytes id form index tag name = number_bytes 2 id ++ number_bytes 4 index ++ tail_bytes form tag name

-- how many bytes the form has behind the index, and how many bytes an object of it has
abbrev pub tail_len : Form → List ℕ → ℕ
tail_len Bare name = 0
tail_len Tagged name = 4
tail_len Managed name = 4 + length name
tail_len Pathed name = 4 + length name

abbrev pub object_len : Form → List ℕ → ℕ
object_len form name = 6 + tail_len form name

-- there is room for an object of the form and the name
pub record HasRoom (form : Form) (name : List ℕ) (held : Held) : Type 0 where
  pub bytes : object_len form name ≤ held.spare
  pub doors : 1 ≤ held.spare_doors

-- a tag that an object of the form may have
abbrev pub IsTagOf : Form → ℕ → Type 0
IsTagOf Bare tag = tag ≡ 0
IsTagOf Tagged tag = Unit {0}
IsTagOf Managed tag = tag ≡ 0
IsTagOf Pathed tag = tag ≡ 0

-- a name that an object of the form may have: the manager's, a path, or none
abbrev pub IsNameOf : Form → List ℕ → Type 0
IsNameOf Bare name = name ≡ []
IsNameOf Tagged name = name ≡ []
IsNameOf Managed name = name ≡ manager_name
IsNameOf Pathed name = IsTrue (is_path_word name)

-- the object's tag and name are as the form has them
pub record IsOf (form : Form) (object : Object) : Type 0 where
  pub tag : IsTagOf form object.tag
  pub name : IsNameOf form object.name
