-- What a shelf and a sink tell, and what a read and a write do to the bytes.
use Rattle.std.specs.Prelude.{◌≡◌, ℕ, ◌≤◌, List, ◌++◌, length, take, Option, Some, IfSome}
use Rattle.std.specs.Option.{option_map}

-- what a shelf tells: the text of each name, if it is told (it may be told that there is none), and the count of its faults
pub record ShelfSeen : Type 0 where
  pub texts : List ℕ → Option (Option (List ℕ))
  pub faults : ℕ

-- what a sink tells: the bytes written, if they are told, and the count of its faults
pub record SinkSeen : Type 0 where
  pub written : Option (List ℕ)
  pub faults : ℕ

-- a text of at most `limit` bytes was appended: the one that is there, if that is told
pub record Appends (told : Option (Option (List ℕ))) (limit : ℕ) (before after : List ℕ) : Type 0 where
  pub text : List ℕ
  pub appended : after ≡ before ++ text
  pub fits : length text ≤ limit
  pub found : IfSome told (λ there. there ≡ Some text)

-- the bytes written, if they are told, after the first bytes of a piece were taken
abbrev pub after_write : ℕ → List ℕ → Option (List ℕ) → Option (List ℕ)
after_write taken piece bytes = option_map (λ b. b ++ take taken piece) bytes
