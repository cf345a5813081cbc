-- A text as lines, and a line as words.
use Rattle.std.specs.Prelude.{◌≡◌, ℕ, ◌&&◌, not, nat_le, nat_lt, ◌==◌, List, [], ◌∷◌, ◌++◌, length, Bool, true, false, if◌then◌else◌, Result, Ok, Err, IsTrue}
use Rattle.std.specs.List.{AllByRecursion, flat_map, join_with_byte, list_all, slice_split}
use Rattle.text_words.specs.declared.lines.LineWhy.{LineWhy}
use Rattle.text_words.specs.declared.lines.LineWhy.TheVariants as why
use Rattle.text_words.specs.declared.lines.Line.{Line}

-- the bytes of a line without its line feed, and whether it has one
pub record Row : Type 0 where
  pub body : List ℕ
  pub ended : Bool

-- a line without where it lies in memory
abbrev pub row_of : Line → Row
row_of line = record { body = line.body.now; ended = line.ended }

abbrev pub onto_row : ℕ → List Row → List Row
onto_row b [] = record { body = b ∷ []; ended = false } ∷ []
onto_row b (row ∷ rows) = record { body = b ∷ row.body; ended = row.ended } ∷ rows

-- the lines of a text, each up to its line feed
abbrev pub rows_of : List ℕ → List Row
rows_of [] = []
rows_of (b ∷ bs) = if b == 10 then record { body = []; ended = true } ∷ rows_of bs else onto_row b (rows_of bs)

-- a line as it stands in the text
abbrev pub row_bytes : Row → List ℕ
row_bytes row = if row.ended then row.body ++ 10 ∷ [] else row.body

-- a space or one of `!` to `~`
abbrev pub is_line_byte : ℕ → Bool
is_line_byte b = nat_le 32 b && nat_le b 126

-- what stands between spaces
abbrev pub words_in : List ℕ → List (List ℕ)
words_in body = slice_split (λ b. b == 32) body

-- a word has at least one byte; if a line is empty, or has a space at an end or two spaces together, one of its words has no byte
abbrev pub has_bytes : List ℕ → Bool
has_bytes word = nat_lt 0 (length word)

-- the words of a line, or the first reason why it is no line
unfoldable pub words_at : Row → Result (List (List ℕ)) LineWhy
words_at row =
    if not (list_all is_line_byte row.body) then Err why.Byte
    else if not (list_all has_bytes (words_in row.body)) then Err why.Space
    else if not row.ended then Err why.End
    else Ok (words_in row.body)

-- a word that a line can have
abbrev pub is_word_byte : ℕ → Bool
is_word_byte b = nat_le 33 b && nat_le b 126

abbrev pub IsWord : List ℕ → Type 0
IsWord word = IsTrue (has_bytes word && list_all is_word_byte word)

-- the words of a line: at least one
abbrev pub AreWords : List (List ℕ) → Type 0
AreWords [] = ⊥
AreWords (word ∷ words) = AllByRecursion IsWord (word ∷ words)

-- a line of these words: one space between each two, and a line feed
abbrev pub line_of : List (List ℕ) → List ℕ
line_of words = join_with_byte 32 words ++ 10 ∷ []

-- the same, as it is cut from a text
abbrev pub words_row : List (List ℕ) → Row
words_row words = record { body = join_with_byte 32 words; ended = true }

-- the text of some lines
abbrev pub text_of : List (List (List ℕ)) → List ℕ
text_of lines = flat_map line_of lines

-- a space before each word
abbrev pub spaced : List (List ℕ) → List ℕ
spaced words = flat_map (λ word. 32 ∷ word) words

-- What a function returned is what reading gives, unless memory ran out.
abbrev pub ReadsWords : {X : Type 0} → LineWhy → Result X LineWhy → Type 0
ReadsWords why.Memory read = Unit {0}
ReadsWords why.Byte read = read ≡ Err why.Byte
ReadsWords why.Space read = read ≡ Err why.Space
ReadsWords why.End read = read ≡ Err why.End
