-- Numbers in decimal digits.
use Rattle.std.specs.Prelude.{ℕ, ◌&&◌, ◌||◌, not, nat_lt, ◌==◌, List, length, slice_index, Bool, if◌then◌else◌, Option, Some, None}
use Rattle.std.specs.Char.{is_ascii_digit}
use Rattle.std.specs.List.{list_all}
use Rattle.std.specs.Str.Parse.{digits_value}

-- one or more digits, the first of several not `0`
abbrev pub is_decimal : List ℕ → Bool
is_decimal word = list_all is_ascii_digit word && nat_lt 0 (length word) && (not (slice_index word 0 == 48) || (length word == 1))

-- the number below the limit that a word is
unfoldable pub number_below : ℕ → List ℕ → Option ℕ
number_below limit word = if is_decimal word && nat_lt (digits_value 10 word) limit then Some (digits_value 10 word) else None

-- a number: at most 4,294,967,295
abbrev pub number_of : List ℕ → Option ℕ
number_of word = number_below 4294967296 word

-- an address: at most 9,223,372,036,854,775,807
abbrev pub address_of : List ℕ → Option ℕ
address_of word = number_below 9223372036854775808 word
