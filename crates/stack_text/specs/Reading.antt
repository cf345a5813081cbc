-- Reading a stack text: its lines in order, each by itself, up to the first bad one.
use Rattle.std.specs.Prelude.{◌≡◌, ℕ, ◌+◌, List, [], ◌∷◌, ◌++◌, length, codes, if◌then◌else◌, nat_lt, Option, Some, None, Result, Ok, Err}
use Rattle.std.specs.Str.{bytes_eq}
use Rattle.text_words.specs.declared.lines.LineWhy.{LineWhy}
use Rattle.text_words.specs.Lines.{Row, rows_of, words_at}
use Rattle.text_words.specs.Numbers.{number_of}
use Rattle.text_words.specs.Words.{is_name}
use Rattle.stack_text.specs.declared.stack.TheConstants.{MAX_LINES}
use Rattle.stack_text.specs.declared.stack.StackLine.{StackLine}
use Rattle.stack_text.specs.declared.stack.StackLine.TheVariants.{Page, File, Layer}
use Rattle.stack_text.specs.declared.stack.LayerKind.TheVariants.{Disk, Mirror, Upper}
use Rattle.stack_text.specs.declared.stack.UpperKind.{UpperKind}
use Rattle.stack_text.specs.declared.stack.UpperKind.TheVariants.{Coherency, Dfs, Vmm}
use Rattle.stack_text.specs.declared.why.StackWhy.{StackWhy}
use Rattle.stack_text.specs.declared.why.StackWhy.TheVariants as why
use Rattle.stack_text.specs.declared.why.Refused.{Refused}
use Rattle.stack_text.specs.Why.{why_of}

infixl 10 ◌>>=◌
abbrev pub ◌>>=◌ : {A B E : Type 0} → Result A E → (A → Result B E) → Result B E
(Ok x) >>= f = f x
(Err e) >>= f = Err e

unfoldable pub name_at : List ℕ → Result (List ℕ) StackWhy
name_at word = if is_name word then Ok word else Err why.Name

unfoldable pub number_at : List ℕ → Result ℕ StackWhy
number_at word = by_value (number_of word) where
  by_value : Option ℕ → Result ℕ StackWhy
  by_value None = Err why.Number
  by_value (Some n) = Ok n

-- the lines by their verbs: names are read before numbers
unfoldable pub page_at : List ℕ → Result StackLine StackWhy
page_at size = do
  n ← number_at size
  Ok (Page n)

unfoldable pub file_at : List ℕ → List ℕ → Result StackLine StackWhy
file_at name pages = do
  own ← name_at name
  n ← number_at pages
  Ok (File own n)

unfoldable pub disk_at : List ℕ → List ℕ → Result StackLine StackWhy
disk_at name machine = do
  own ← name_at name
  at ← name_at machine
  Ok (Layer own at Disk)

unfoldable pub mirror_at : List ℕ → List ℕ → List ℕ → List ℕ → Result StackLine StackWhy
mirror_at name machine left right = do
  own ← name_at name
  at ← name_at machine
  one ← name_at left
  other ← name_at right
  Ok (Layer own at (Mirror one other))

unfoldable pub upper_at : UpperKind → List ℕ → List ℕ → List ℕ → Result StackLine StackWhy
upper_at kind name machine below = do
  own ← name_at name
  at ← name_at machine
  base ← name_at below
  Ok (Layer own at (Upper kind base))

unfoldable pub vmm_at : List ℕ → List ℕ → List ℕ → List ℕ → Result StackLine StackWhy
vmm_at name machine below frames = do
  own ← name_at name
  at ← name_at machine
  base ← name_at below
  n ← number_at frames
  Ok (Layer own at (Upper (Vmm n) base))

-- the verb is followed by `count` words
abbrev pub with_one : (List ℕ → Result StackLine StackWhy) → List (List ℕ) → Result StackLine StackWhy
with_one read (a ∷ []) = read a
with_one read words = Err why.Words

abbrev pub with_two : (List ℕ → List ℕ → Result StackLine StackWhy) → List (List ℕ) → Result StackLine StackWhy
with_two read (a ∷ b ∷ []) = read a b
with_two read words = Err why.Words

abbrev pub with_three : (List ℕ → List ℕ → List ℕ → Result StackLine StackWhy) → List (List ℕ) → Result StackLine StackWhy
with_three read (a ∷ b ∷ c ∷ []) = read a b c
with_three read words = Err why.Words

abbrev pub with_four : (List ℕ → List ℕ → List ℕ → List ℕ → Result StackLine StackWhy) → List (List ℕ) → Result StackLine StackWhy
with_four read (a ∷ b ∷ c ∷ d ∷ []) = read a b c d
with_four read words = Err why.Words

-- the line of some words
unfoldable pub words_line : List (List ℕ) → Result StackLine StackWhy
words_line [] = Err why.Verb
words_line (verb ∷ words) =
    if bytes_eq verb (codes "page") then with_one page_at words
    else if bytes_eq verb (codes "file") then with_two file_at words
    else if bytes_eq verb (codes "disk") then with_two disk_at words
    else if bytes_eq verb (codes "mirror") then with_four mirror_at words
    else if bytes_eq verb (codes "coherency") then with_three (upper_at Coherency) words
    else if bytes_eq verb (codes "dfs") then with_three (upper_at Dfs) words
    else if bytes_eq verb (codes "vmm") then with_four vmm_at words
    else Err why.Verb

abbrev pub as_stack_why : {X : Type 0} → Result X LineWhy → Result X StackWhy
as_stack_why (Ok x) = Ok x
as_stack_why (Err why) = Err (why_of why)

-- the line of this number, or the first reason why it is bad
unfoldable pub line_at : ℕ → Row → Result StackLine StackWhy
line_at number row = do
  words ← as_stack_why (words_at row)
  if nat_lt MAX_LINES number then Err why.Long else words_line words

-- the lines with the next one, which is read from the row
abbrev pub AddsLine : List StackLine → List StackLine → Row → Type 0
AddsLine old new row = (line : StackLine) × (line_at (length old + 1) row ≡ Ok line) × (new ≡ old ++ line ∷ [])

abbrev pub in_line : {X : Type 0} → ℕ → Result X StackWhy → Result X Refused
in_line number (Ok x) = Ok x
in_line number (Err why) = Err (record { line = number; why = why })

-- the lines from this number on, or the first bad one
abbrev pub lines_at : ℕ → List Row → Result (List StackLine) Refused
lines_at number [] = Ok []
lines_at number (row ∷ rows) = do
  line ← in_line number (line_at number row)
  lines ← lines_at (number + 1) rows
  Ok (line ∷ lines)

-- the lines of a stack text
abbrev pub stack_at : List ℕ → Result (List StackLine) Refused
stack_at text = lines_at 1 (rows_of text)
