-- Names, numbers, hex and paths are words, and how long they are.
use Rattle.std.proofs.Common.{◌≡◌, ℕ, ◌+◌, ◌*◌, ◌^◌, ◌<◌, ◌≤◌, List, [], ◌∷◌, length, true, ◌&&◌, leb, refl, arith, length-append}
use Rattle.std.specs.Char.{is_ascii_digit}
use Rattle.std.specs.Fmt.{decimal}
use Rattle.std.specs.List.{AllByRecursion, join_with_byte, list_all}
use Rattle.std.proofs.lemmas.Bool.{and_parts, and_from, leb-true, lt-ltb}
use Rattle.std.proofs.lemmas.Bool.Decides.{nat_tests}
use Rattle.std.proofs.lemmas.Fmt.{digits_decimal, decimal_nonempty, length-decimal-le}
use Rattle.hex.specs.Hex.{encode_lower, lower_digits}
use Rattle.hex.proofs.HexLemmas.{length-encode_with}
use Rattle.text_words.specs.Words.{is_letter, is_name, is_name_char, is_lower_hex, IsName, IsPath, IsHexBytes, path_word}
use Rattle.text_words.specs.Lines.{IsWord, has_bytes, is_word_byte}
use Rattle.text_words.proofs.Bytes.{list_all-weaker, name_chars}
use Rattle.text_words.proofs.HexLaws.{lower_again}
use Rattle.text_words.proofs.NumberLaws.{own}
use Rattle.text_words.proofs.Splits.{each, each_true, join_all}

name_byte : (b : ℕ) → is_name_char b ≡ true → is_word_byte b ≡ true
name_byte b h = grind (arith, nat_tests, h)

digit_byte : (b : ℕ) → is_ascii_digit b ≡ true → is_word_byte b ≡ true
digit_byte b h = grind (arith, nat_tests, h)

hex_byte : (b : ℕ) → is_lower_hex b ≡ true → is_word_byte b ≡ true
hex_byte b h = grind (arith, nat_tests, h)

-- a name has 1 to 16 bytes
pub name_length : (word : List ℕ) → IsName word → (1 ≤ length word) × (length word ≤ 16)
name_length [] h = absurd cc
name_length (c ∷ cs) h =
    let parts = and_parts (is_letter c && list_all is_name_char cs) (leb (length cs) 15) h in
    let short = leb-true (length cs) 15 parts.1 in
    (omega arith, omega arith)

pub name_word : (word : List ℕ) → IsName word → IsWord word
name_word word h =
    let some : has_bytes word ≡ true = lt-ltb 0 (length word) (omega (arith, (name_length word h).0)) in
    and_from _ _ some (list_all-weaker is_name_char is_word_byte name_byte word (name_chars word h))

pub decimal_word : (n : ℕ) → n < 2 ^ 64 → IsWord (decimal n)
decimal_word n small =
    let some : has_bytes (decimal n) ≡ true = lt-ltb 0 (length (decimal n)) (decimal_nonempty n small) in
    and_from _ _ some (list_all-weaker is_ascii_digit is_word_byte digit_byte (decimal n) (digits_decimal own n small))

pub number_length : (n : ℕ) → n < 4294967296 → length (decimal n) ≤ 10
number_length n small = length-decimal-le 10 n (omega arith) (omega arith) (omega arith)

pub address_length : (n : ℕ) → n < 9223372036854775808 → length (decimal n) ≤ 19
address_length n small = length-decimal-le 19 n (omega arith) (omega arith) (omega arith)

hex_parts : (bytes : List ℕ) → IsHexBytes bytes → (1 ≤ length bytes) × (length bytes ≤ 4096)
hex_parts bytes h =
    let parts = and_parts (leb 1 (length bytes)) (leb (length bytes) 4096) h.0 in
    (leb-true 1 (length bytes) parts.0, leb-true (length bytes) 4096 parts.1)

pub hex_length : (bytes : List ℕ) → IsHexBytes bytes → length (encode_lower bytes) ≤ 8192
hex_length bytes h = let few = (hex_parts bytes h).1 in omega (arith, length-encode_with lower_digits bytes)

pub hex_word : (bytes : List ℕ) → IsHexBytes bytes → IsWord (encode_lower bytes)
hex_word bytes h =
    let one = (hex_parts bytes h).0 in
    let some : has_bytes (encode_lower bytes) ≡ true = lt-ltb 0 (length (encode_lower bytes)) (omega (arith, length-encode_with lower_digits bytes)) in
    and_from _ _ some (list_all-weaker is_lower_hex is_word_byte hex_byte (encode_lower bytes) (lower_again bytes h.1))

path_facts : (parts : List (List ℕ)) → IsPath parts → (1 ≤ length parts) × (length parts ≤ 8) × AllByRecursion IsName parts
path_facts parts h =
    let a = and_parts (leb 1 (length parts) && leb (length parts) 8) (list_all is_name parts) h in
    let b = and_parts (leb 1 (length parts)) (leb (length parts) 8) a.0 in
    (leb-true 1 (length parts) b.0, leb-true (length parts) 8 b.1, each_true is_name parts a.1)

-- names joined by a byte: 17 bytes for each, less one
joined_length : (c : ℕ) (name : List ℕ) (names : List (List ℕ)) → AllByRecursion IsName (name ∷ names)
    → (1 ≤ length (join_with_byte c (name ∷ names))) × (length (join_with_byte c (name ∷ names)) + 1 ≤ 17 * length (name ∷ names))
joined_length c name [] h = let l = name_length name h.0 in (l.0, omega arith)
joined_length c name (next ∷ names) h =
    let l = name_length name h.0 in
    let r = joined_length c next names h.1 in
    let e = length-append name (c ∷ join_with_byte c (next ∷ names)) in
    (omega arith, omega arith)

pub path_length : (parts : List (List ℕ)) → IsPath parts → length (path_word parts) ≤ 135
path_length [] h = absurd (omega (arith, (path_facts [] h).0))
path_length (part ∷ parts) h =
    let f = path_facts (part ∷ parts) h in
    let l = joined_length 47 part parts f.2 in
    omega arith

pub path_is_word : (parts : List (List ℕ)) → IsPath parts → IsWord (path_word parts)
path_is_word [] h = absurd (omega (arith, (path_facts [] h).0))
path_is_word (part ∷ parts) h =
    let f = path_facts (part ∷ parts) h in
    let l = joined_length 47 part parts f.2 in
    let some : has_bytes (path_word (part ∷ parts)) ≡ true = lt-ltb 0 (length (path_word (part ∷ parts))) (omega arith) in
    and_from _ _ some (join_all is_word_byte 47 refl (part ∷ parts) (each {P = IsName} {Q = λ word. list_all is_word_byte word ≡ true} (λ word name. list_all-weaker is_name_char is_word_byte name_byte word (name_chars word name)) (part ∷ parts) f.2))
