-- The tokens of a text, each with its place.
use Rattle.std.specs.Prelude.{◌≡◌, ℕ, ◌+◌, ◌&&◌, ◌||◌, not, nat_le, ◌==◌, List, [], ◌∷◌, length, Bool, true, false, if◌then◌else◌}
use Rattle.std.specs.List.{take_while}
use Rattle.text_words.specs.Words.{is_letter, is_name_char}

-- a word, a sign, a byte that begins no token, a word that is too long, or the end of the text; first its place
pub data Lexeme : Type 0 where
  Word : ℕ → List ℕ → Lexeme
  Sign : ℕ → ℕ → Lexeme
  Stray : ℕ → Lexeme
  Long : ℕ → Lexeme
  End : ℕ → Lexeme

-- a space, a tab or a line feed
abbrev pub is_blank : ℕ → Bool
is_blank c = (c == 32) || (c == 9) || (c == 10)

-- one of `{ } ( ) < > : ; ,`
abbrev pub is_sign : ℕ → Bool
is_sign c = (c == 123) || (c == 125) || (c == 40) || (c == 41) || (c == 60) || (c == 62) || (c == 58) || (c == 59) || (c == 44)

-- `//`
abbrev pub begins_comment : ℕ → List ℕ → Bool
begins_comment c [] = false
begins_comment c (d ∷ ds) = (c == 47) && (d == 47)

abbrev pub comment_first : List ℕ → Bool
comment_first [] = false
comment_first (c ∷ cs) = begins_comment c cs

-- a word of at most 32 characters, and the tokens after it
abbrev pub word_then : ℕ → List ℕ → List Lexeme → List Lexeme
word_then at word rest = if nat_le (length word) 32 then Word at word ∷ rest else Long at ∷ []

-- neither a blank nor a comment comes first
abbrev pub is_at_token : List ℕ → Bool
is_at_token [] = true
is_at_token (c ∷ cs) = not (is_blank c || begins_comment c cs)

-- a letter comes first
abbrev pub BeginsWord : List ℕ → Type 0
BeginsWord [] = ⊥
BeginsWord (c ∷ cs) = (is_letter c ≡ true) × (is_sign c ≡ false) × (is_blank c ≡ false)

abbrev pub is_no_line_feed : ℕ → Bool
is_no_line_feed c = not (c == 10)

-- where a byte stands: between tokens, in a word, or in a comment
pub data Within : Type 0 where
  Gap : Within
  Name : Within
  Comment : Within

-- the byte belongs to what was begun
abbrev pub goes_on : Within → ℕ → Bool
goes_on Gap c = false
goes_on Name c = is_name_char c
goes_on Comment c = is_no_line_feed c

-- the tokens from a place on; none is looked for after what is no token
unfoldable pub tokens_from : Within → ℕ → List ℕ → List Lexeme
tokens_from within at [] = End at ∷ []
tokens_from within at (c ∷ cs) =
    if goes_on within c then tokens_from within (at + 1) cs
    else if is_blank c then tokens_from Gap (at + 1) cs
    else if is_sign c then Sign at c ∷ tokens_from Gap (at + 1) cs
    else if is_letter c then word_then at (c ∷ take_while is_name_char cs) (tokens_from Name (at + 1) cs)
    else if begins_comment c cs then tokens_from Comment (at + 1) cs
    else Stray at ∷ []

-- the tokens of a text
abbrev pub tokens_of : List ℕ → List Lexeme
tokens_of text = tokens_from Gap 0 text
