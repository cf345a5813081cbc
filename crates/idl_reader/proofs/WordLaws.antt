-- Words are ASCII.
use Rattle.std.proofs.Common.{◌≡◌, ℕ, ◌<◌, ◌≤◌, List, [], ◌∷◌, length, true, ◌&&◌, leb, arith, refl}
use Rattle.std.specs.List.{list_all}
use Rattle.std.specs.Str.{IsUtf8}
use Rattle.std.proofs.lemmas.Bool.{and_parts, leb-true}
use Rattle.std.proofs.lemmas.Bool.Decides.{nat_tests}
use Rattle.std.proofs.lemmas.Str.{IsUtf8-from_ascii}
use Rattle.text_words.specs.Words.{is_letter, is_name_char}
use Rattle.text_words.proofs.Bytes.{ascii_by}
use Rattle.idl_reader.specs.Words.{is_word}

pub word_chars : (word : List ℕ) → is_word word ≡ true → list_all is_name_char word ≡ true
word_chars [] h = refl
word_chars (c ∷ cs) h =
    let parts = and_parts (is_letter c && list_all is_name_char cs) (leb (length cs) 31) h in
    let first = and_parts (is_letter c) (list_all is_name_char cs) parts.0 in
    let rest = first.1 in
    let letter = first.0 in
    rw (letter, rest) refl

char_small : (c : ℕ) → is_name_char c ≡ true → c < 128
char_small c h = grind (arith, nat_tests, h)

pub word_utf8 : (word : List ℕ) → is_word word ≡ true → IsUtf8 word
word_utf8 word h = IsUtf8-from_ascii word (ascii_by is_name_char char_small word (word_chars word h))

pub word_length : (word : List ℕ) → is_word word ≡ true → length word ≤ 32
word_length [] h = omega arith
word_length (c ∷ cs) h =
    let parts = and_parts (is_letter c && list_all is_name_char cs) (leb (length cs) 31) h in
    let short = leb-true (length cs) 31 parts.1 in
    omega arith
