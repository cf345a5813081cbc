-- Tests of bytes.
use Rattle.std.proofs.lemmas.List.{length-map}
use Rattle.std.proofs.lemmas.List.Folds.{list_all-map}
use Rattle.std.proofs.Common.{◌≡◌, ℕ, ◌<◌, List, [], ◌∷◌, length, Bool, true, ◌&&◌, nat_le, refl, arith}
use Rattle.std.specs.List.{list_all}
use Rattle.std.specs.Str.{IsUtf8, IsAscii}
use Rattle.std.proofs.lemmas.Bool.{and_parts}
use Rattle.std.proofs.lemmas.Bool.Decides.{nat_tests}
use Rattle.std.proofs.lemmas.Str.{IsUtf8-from_ascii}
use Rattle.std.proofs.lemmas.Str.Ascii.{IsAscii-nil, IsAscii-cons}
use Rattle.text_words.specs.Words.{is_name, is_name_char, is_letter}

-- what passes one test passes another
pub list_all-weaker : (p q : ℕ → Bool) → ((b : ℕ) → p b ≡ true → q b ≡ true) → (bs : List ℕ) → list_all p bs ≡ true → list_all q bs ≡ true
list_all-weaker p q weaker [] h = refl
list_all-weaker p q weaker (b ∷ bs) h =
    let parts = and_parts (p b) (list_all p bs) h in
    let first = weaker b parts.0 in
    let rest = list_all-weaker p q weaker bs parts.1 in
    rw (first, rest) refl

-- the bytes are ASCII if each passes a test that only ASCII passes
pub ascii_by : (p : ℕ → Bool) → ((b : ℕ) → p b ≡ true → b < 128) → (bs : List ℕ) → list_all p bs ≡ true → IsAscii bs
ascii_by p small [] h = IsAscii-nil
ascii_by p small (b ∷ bs) h =
    let parts = and_parts (p b) (list_all p bs) h in
    IsAscii-cons b bs (small b parts.0) (ascii_by p small bs parts.1)

-- a name has only such characters
pub name_chars : (word : List ℕ) → is_name word ≡ true → list_all is_name_char word ≡ true
name_chars [] h = refl
name_chars (c ∷ cs) h =
    let parts = and_parts (is_letter c && list_all is_name_char cs) (nat_le (length cs) 15) h in
    let first = and_parts (is_letter c) (list_all is_name_char cs) parts.0 in
    let rest = first.1 in
    let letter = first.0 in
    rw (rest, letter) refl

char_small : (c : ℕ) → is_name_char c ≡ true → c < 128
char_small c h = grind (arith, nat_tests, h)

pub name_ascii : (word : List ℕ) → is_name word ≡ true → IsAscii word
name_ascii word h = ascii_by is_name_char char_small word (name_chars word h)

pub name_utf8 : (word : List ℕ) → is_name word ≡ true → IsUtf8 word
name_utf8 word h = IsUtf8-from_ascii word (name_ascii word h)

-- a test of what each element is seen as
pub ruleset seen_all = (list_all-map, length-map, nat_tests)
