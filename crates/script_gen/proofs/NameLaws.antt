-- The names of clients, objects and regions.
use Rattle.std.proofs.Common.{◌≡◌, ℕ, ◌+◌, ◌%◌, ◌^◌, ◌<◌, List, [], ◌∷◌, true, refl, ap, arith}
use Rattle.std.specs.List.{list_all}
use Rattle.std.specs.Fmt.{decimal}
use Rattle.std.proofs.lemmas.Fmt.{decimal_digit, decimal_by_steps, length-decimal-le}
use Rattle.std.proofs.lemmas.List.Folds.{list_all-append}
use Rattle.std.proofs.lemmas.Bool.Decides.{nat_tests}
use Rattle.text_words.specs.Words.{is_letter, is_name_char, IsName}
use Rattle.script_gen.specs.Access.{client_name, object_name, region_name}

digit-char : (n : ℕ) → n < 10 → is_name_char (48 + n) ≡ true
digit-char n few = grind (arith, nat_tests)

abbrev HasNameChars : ℕ → List ℕ → Type 0
HasNameChars n ds = list_all is_name_char ds ≡ true

decimal-chars : (n : ℕ) → n < 2 ^ 64 → list_all is_name_char (decimal n) ≡ true
decimal-chars n few = decimal_by_steps HasNameChars
    (λ n lt. let e = digit-char n lt in grind (arith, e))
    (λ n ds low front. let e = digit-char (n % 10) (omega arith) in grind (arith, e, list_all-append is_name_char ds ((48 + n % 10) ∷ [])))
    n few

-- a letter and a small number are a name
pub letter-name : (c n : ℕ) → is_letter c ≡ true → n < 100 → IsName (c ∷ decimal n)
letter-name c n letter few =
    let chars = decimal-chars n (omega arith) in
    let short = length-decimal-le 2 n (omega arith) (omega arith) (omega arith) in
    let head : is_name_char c ≡ true = grind (arith, nat_tests) in
    grind (arith, nat_tests, chars, letter)

pub object-named : (n : ℕ) → n < 100 → IsName (object_name n)
object-named n few = letter-name 111 n refl few

pub region-named : (n : ℕ) → n < 100 → IsName (region_name n)
region-named n few = letter-name 114 n refl few

-- a client's name is two bytes
pub client-named : (n : ℕ) → n < 10 → client_name n ≡ 103 ∷ (48 + n) ∷ []
client-named n few = ap (λ (ds : List ℕ). 103 ∷ ds) (decimal_digit n few)
