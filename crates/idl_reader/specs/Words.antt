-- The language's own words, and names.
use Rattle.std.specs.Prelude.{ℕ, ◌||◌, ◌&&◌, not, nat_le, List, [], ◌∷◌, length, codes, Bool, false, IsTrue}
use Rattle.std.specs.List.{list_all}
use Rattle.std.specs.Str.{bytes_eq}
use Rattle.text_words.specs.Words.{is_letter, is_name_char}

-- the words of the plain types, and the other words of the language
abbrev pub is_plain : List ℕ → Bool
is_plain word = bytes_eq word (codes "bool") || bytes_eq word (codes "u8") || bytes_eq word (codes "u32") || bytes_eq word (codes "u64") || bytes_eq word (codes "string") || bytes_eq word (codes "bytes")

unfoldable pub is_reserved : List ℕ → Bool
is_reserved word =
    bytes_eq word (codes "struct") || bytes_eq word (codes "enum") || bytes_eq word (codes "interface") || bytes_eq word (codes "void")
    || bytes_eq word (codes "copy") || bytes_eq word (codes "consume") || bytes_eq word (codes "sequence") || is_plain word

-- 1 to 32 letters, digits and `_`, the first a letter
abbrev pub is_word : List ℕ → Bool
is_word [] = false
is_word (c ∷ cs) = is_letter c && list_all is_name_char cs && nat_le (length cs) 31

-- such a word that is none of the language's own
abbrev pub IsIdlName : List ℕ → Type 0
IsIdlName word = IsTrue (is_word word && not (is_reserved word))
