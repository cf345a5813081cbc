-- Words: names, hex and paths.
use Rattle.std.specs.Prelude.{ℕ, ◌<◌, ◌&&◌, ◌||◌, nat_le, ◌==◌, List, [], ◌∷◌, length, Bool, false, if◌then◌else◌, Option, Some, None, Result, Ok, Err, IsTrue}
use Rattle.std.specs.List.{AllByRecursion, join_with_byte, list_all, slice_split}
use Rattle.hex.specs.Hex.{decode_of}
use Rattle.hex.specs.declared.error.FromHexError.{FromHexError}

-- `a` to `z`
abbrev pub is_letter : ℕ → Bool
is_letter c = nat_le 97 c && nat_le c 122

-- a letter, `0` to `9` or `_`
abbrev pub is_name_char : ℕ → Bool
is_name_char c = is_letter c || (nat_le 48 c && nat_le c 57) || (c == 95)

-- 1 to 16 such characters, the first of them a letter
abbrev pub is_name : List ℕ → Bool
is_name [] = false
is_name (c ∷ cs) = is_letter c && list_all is_name_char cs && nat_le (length cs) 15

abbrev pub IsName : List ℕ → Type 0
IsName word = IsTrue (is_name word)

-- a hexadecimal digit in lower case
abbrev pub is_lower_hex : ℕ → Bool
is_lower_hex c = (nat_le 48 c && nat_le c 57) || (nat_le 97 c && nat_le c 102)

-- 2 to 8,192 digits
abbrev pub is_hex_length : List ℕ → Bool
is_hex_length word = nat_le 2 (length word) && nat_le (length word) 8192

abbrev pub decoded : Result (List ℕ) FromHexError → Option (List ℕ)
decoded (Ok bytes) = Some bytes
decoded (Err e) = None

-- the bytes of a hex word
unfoldable pub hex_of : List ℕ → Option (List ℕ)
hex_of word = if is_hex_length word && list_all is_lower_hex word then decoded (decode_of word) else None

-- the bytes that a hex word can have: 1 to 4,096
abbrev pub IsHexBytes : List ℕ → Type 0
IsHexBytes bytes = IsTrue (nat_le 1 (length bytes) && nat_le (length bytes) 4096) × AllByRecursion (λ b. b < 256) bytes

-- 1 to 8 names
abbrev pub is_path : List (List ℕ) → Bool
is_path parts = nat_le 1 (length parts) && nat_le (length parts) 8 && list_all is_name parts

abbrev pub IsPath : List (List ℕ) → Type 0
IsPath parts = IsTrue (is_path parts)

-- a path is what has such parts between its slashes
abbrev pub is_path_word : List ℕ → Bool
is_path_word word = is_path (slice_split (λ b. b == 47) word)

-- the parts of a path
unfoldable pub path_of : List ℕ → Option (List (List ℕ))
path_of word = if is_path_word word then Some (slice_split (λ b. b == 47) word) else None

-- a path as a word
abbrev pub path_word : List (List ℕ) → List ℕ
path_word parts = join_with_byte 47 parts
