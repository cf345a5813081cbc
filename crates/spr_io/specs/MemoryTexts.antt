-- Texts and a sink in memory.
use Rattle.std.specs.Prelude.{ℕ, List, Option, Some, None, Bool, false, not, length, find, nat_le, ◌||◌, if◌then◌else◌}
use Rattle.std.specs.Option.{option_map}
use Rattle.std.specs.Str.{bytes_eq}
use Rattle.spr_io.specs.Calls.{Calls, is_next_to_fail, one_more, one_fault}

-- a text and its name
pub record NamedText : Type 0 where
  pub name : List ℕ
  pub text : List ℕ

-- whether a text has this name
abbrev pub is_named : List ℕ → NamedText → Bool
is_named name t = bytes_eq t.name name

-- the text of this name among these
abbrev pub text_in : List NamedText → List ℕ → Option (List ℕ)
text_in texts name = option_map {T = NamedText} (λ t. t.text) (find (is_named name) texts)

-- a shelf in memory: its texts, its reads so far, and its count of faults
pub record Texts : Type 0 where
  pub texts : List NamedText
  pub reads : Calls
  pub faults : ℕ

-- the text of a name
abbrev pub text_of : Texts → List ℕ → Option (List ℕ)
text_of shelf name = text_in shelf.texts name

-- whether there is a text, and it has at most `limit` bytes
abbrev pub is_at_most : ℕ → Option (List ℕ) → Bool
is_at_most limit None = false
is_at_most limit (Some text) = nat_le (length text) limit

-- whether the next read fails: it is to fail, or the text is missing or longer
abbrev pub read_fails : Texts → List ℕ → ℕ → Bool
read_fails shelf name limit = is_next_to_fail shelf.reads || not (is_at_most limit (text_of shelf name))

-- the shelf after a read
abbrev pub after_read : List ℕ → ℕ → Texts → Texts
after_read name limit shelf = record shelf {
  reads = one_more shelf.reads;
  faults = if read_fails shelf name limit then one_fault shelf.faults else shelf.faults;
}

-- a sink in memory: its bytes, how many it takes at a write, its writes so far, and its count of faults;
-- and for how many bytes it has room without more memory
pub record Written : Type 0 where
  pub bytes : List ℕ
  pub most : ℕ
  pub writes : Calls
  pub faults : ℕ
  pub room : ℕ
