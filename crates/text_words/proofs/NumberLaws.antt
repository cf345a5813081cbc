-- A number that is read is the number that is written, and the other way round.
use Rattle.std.proofs.Common.{◌≡◌, ℕ, ◌+◌, ◌-◌, ◌*◌, ◌^◌, ◌<◌, ◌≤◌, List, [], ◌∷◌, length, get_or, take, Bool, true, false, cond, eqb, ltb, not, ◌&&◌, ◌||◌, Option, Some, None, Result, Ok, Err, rules, inl, inr, refl, sym, ap, subst, ◌∙◌, arith, lit≤}
use Rattle.std.specs.Prelude.{IfSome}
use Rattle.std.specs.Char.{digit_value, is_ascii_digit}
use Rattle.std.specs.List.{list_all}
use Rattle.std.specs.Fmt.{decimal}
use Rattle.std.specs.Str.{IsUtf8}
use Rattle.std.specs.Str.Parse.{digits_value, ParsesUnsigned}
use Rattle.std.specs.Result.{OkIff}
use Rattle.std.proofs.lemmas.Bool.{ltb-true, and_parts, le-ltb, lt-ltb, cases_lt, cases_eq, and_from}
use Rattle.std.proofs.lemmas.Bool.Decides.{nat_tests}
use Rattle.std.proofs.lemmas.Str.{IsUtf8-from_ascii}
use Rattle.std.proofs.lemmas.Str.Parse.{IsNumeralModel, numerals_by_value, parse_digits, digits_value_short}
use Rattle.std.proofs.lemmas.Int.Digits.{digits_value_more}
use Rattle.std.proofs.lemmas.List.{length-take}
use Rattle.std.proofs.lemmas.Fmt.{decimal-digits_value, digits_decimal, digits_value-decimal, decimal_nonempty, first_decimal, decimal_digit}
use Rattle.text_words.specs.Numbers.{is_decimal, number_below}
use Rattle.text_words.proofs.Bytes.{ascii_by}

pub own : IsNumeralModel (λ ds. list_all is_ascii_digit ds ≡ true) (digits_value 10)
own = numerals_by_value _ (search rules)

digit_small : (c : ℕ) → is_ascii_digit c ≡ true → c < 128
digit_small c h = grind (arith, nat_tests, h)

lead : (c n : ℕ) → (not (eqb c 48) || eqb n 1) ≡ true → c ≡ 48 → n ≡ 1
lead c n h e = grind (arith, nat_tests, h)

-- what `is_decimal` says
pub decimal_parts : (w : List ℕ) → is_decimal w ≡ true → (list_all is_ascii_digit w ≡ true) × (0 < length w) × (get_or w 0 0 ≡ 48 → length w ≡ 1)
decimal_parts w h =
    let a = and_parts (list_all is_ascii_digit w && ltb 0 (length w)) (not (eqb (get_or w 0 0) 48) || eqb (length w) 1) h in
    let b = and_parts (list_all is_ascii_digit w) (ltb 0 (length w)) a.0 in
    (b.0, ltb-true 0 (length w) b.1, lead (get_or w 0 0) (length w) a.1)

pub decimal_utf8 : (w : List ℕ) → is_decimal w ≡ true → IsUtf8 w
decimal_utf8 w h = IsUtf8-from_ascii w (ascii_by is_ascii_digit digit_small w (decimal_parts w h).0)

-- too large, or no digits
pub none_below : (limit : ℕ) (w : List ℕ) → limit ≤ 2 ^ 64 → is_decimal w ≡ true → ((0 < length w) × (digits_value 10 w < 2 ^ 64) → ⊥) → None ≡ number_below limit w
unfolding number_below
none_below limit w fits h large_or_none =
    let some = (decimal_parts w h).1 in
    elim (cases_lt (digits_value 10 w) limit) [
      | inl less ↦ absurd (large_or_none (some, omega arith))
      | inr more ↦
          let large = le-ltb (digits_value 10 w) limit more in
          rw (h, large) refl
    ]

-- what `parse` answers where it gives an error
pub none_parsed : {E : Type 0} (limit : ℕ) (w text : List ℕ) (r : Result ℕ E) (e : E) → limit ≤ 2 ^ 64 → is_decimal w ≡ true → text ≡ w → ParsesUnsigned 64 10 text r → r ≡ Err e → None ≡ number_below limit w
none_parsed {E = E} limit w text r e fits h same parsed is =
    let digits = (decimal_parts w h).0 in
    let at_error : OkIff r ((0 < length w) × (digits_value 10 w < 2 ^ 64)) (digits_value 10 w) = parse_digits own 64 w r (subst (λ (t : List ℕ). ParsesUnsigned 64 10 t r) same parsed) digits in
    none_below limit w fits h (subst (λ (x : Result ℕ E). OkIff x ((0 < length w) × (digits_value 10 w < 2 ^ 64)) (digits_value 10 w)) is at_error)

pub some_parsed : {E : Type 0} (limit : ℕ) (w text : List ℕ) (r : Result ℕ E) (v : ℕ) → is_decimal w ≡ true → text ≡ w → ParsesUnsigned 64 10 text r → r ≡ Ok v → cond (ltb v limit) (Some v) None ≡ number_below limit w
unfolding number_below
some_parsed {E = E} limit w text r v h same parsed is =
    let digits = (decimal_parts w h).0 in
    let at_value : OkIff r ((0 < length w) × (digits_value 10 w < 2 ^ 64)) (digits_value 10 w) = parse_digits own 64 w r (subst (λ (t : List ℕ). ParsesUnsigned 64 10 t r) same parsed) digits in
    let value : v ≡ digits_value 10 w = (subst (λ (x : Result ℕ E). OkIff x ((0 < length w) × (digits_value 10 w < 2 ^ 64)) (digits_value 10 w)) is at_value).1 in
    rw (h, value) refl

some_parts : (b : Bool) (m n : ℕ) → cond b (Some m) None ≡ Some n → (b ≡ true) × (m ≡ n)
some_parts true m n e = (refl, cc)
some_parts false m n e = absurd cc

-- what is read as a number is its digits
pub number_is : (limit n : ℕ) (w : List ℕ) → limit ≤ 2 ^ 64 → number_below limit w ≡ Some n → (w ≡ decimal n) × (n < limit)
unfolding number_below
number_is limit n w fits e =
    let s = some_parts (is_decimal w && ltb (digits_value 10 w) limit) (digits_value 10 w) n e in
    let t = and_parts (is_decimal w) (ltb (digits_value 10 w) limit) s.0 in
    let d = decimal_parts w t.0 in
    let below = ltb-true (digits_value 10 w) limit t.1 in
    let small : digits_value 10 w < 2 ^ 64 = omega arith in
    (sym (decimal-digits_value own w d.0 d.1 d.2 small) ∙ ap decimal s.1, subst (λ (k : ℕ). k < limit) s.1 below)

one_digit : (n : ℕ) → n ≡ 0 → (not (eqb (get_or (decimal n) 0 0) 48) || eqb (length (decimal n)) 1) ≡ true
one_digit n e = let d : decimal n ≡ 48 ∷ [] = ap decimal e ∙ decimal_digit 0 (omega arith) in rw d refl

first_digit : (c n : ℕ) → 48 < c → (not (eqb c 48) || eqb n 1) ≡ true
first_digit c n h = grind (arith, nat_tests)

pub decimal_again : (n : ℕ) → n < 2 ^ 64 → is_decimal (decimal n) ≡ true
decimal_again n small =
    let digits : list_all is_ascii_digit (decimal n) ≡ true = digits_decimal own n small in
    let some : ltb 0 (length (decimal n)) ≡ true = lt-ltb 0 (length (decimal n)) (decimal_nonempty n small) in
    let first : (not (eqb (get_or (decimal n) 0 0) 48) || eqb (length (decimal n)) 1) ≡ true =
    elim (cases_eq n 0) [
      | inl e ↦ one_digit n e
      | inr more ↦ first_digit (get_or (decimal n) 0 0) (length (decimal n)) (first_decimal n (omega arith) small)
    ] in
    and_from _ _ (and_from _ _ digits some) first

-- what is written as a number is read
pub number_again : (limit n : ℕ) → limit ≤ 2 ^ 64 → n < limit → number_below limit (decimal n) ≡ Some n
unfolding number_below
number_again limit n fits lt =
    let small : n < 2 ^ 64 = omega arith in
    let is = decimal_again n small in
    let value = digits_value-decimal own n small in
    let less = lt-ltb n limit lt in
    rw (is, value, less) refl

-- a number fits 32 bits
pub number_small : (n : ℕ) (w : List ℕ) → number_below 4294967296 w ≡ Some n → n < 4294967296
number_small n w e = (number_is 4294967296 n w (lit≤ tt) e).1

pub number_found : (limit : ℕ) (w : List ℕ) (r : Option ℕ) → limit ≤ 2 ^ 64 → r ≡ number_below limit w → IfSome r (λ n. (n < limit) × (w ≡ decimal n))
number_found limit w None fits e = tt
number_found limit w (Some n) fits e = let is = number_is limit n w fits (sym e) in (is.1, is.0)

pub number_only : (limit : ℕ) (w : List ℕ) (r : Option ℕ) → limit ≤ 2 ^ 64 → r ≡ number_below limit w → (n : ℕ) → n < limit → w ≡ decimal n → r ≡ Some n
number_only limit w r fits e n lt is = e ∙ ap (number_below limit) is ∙ number_again limit n fits lt

-- nine digits at most are below a thousand million
pub few_below : (w : List ℕ) (i : ℕ) → list_all is_ascii_digit (take i w) ≡ true → length w ≤ 9 → digits_value 10 (take i w) < 10 ^ 9
few_below w i h few = digits_value_short own (take i w) 9 h (omega (arith, length-take i w))

-- a digit is one of `0` to `9`
pub digit_within : (c : ℕ) → is_ascii_digit c ≡ true → (48 ≤ c) × (c ≤ 57)
digit_within c test = (grind (arith, nat_tests, test), grind (arith, nat_tests, test))

digit_is : (c : ℕ) → 48 ≤ c → c ≤ 57 → digit_value c ≡ c - 48
digit_is c low high = grind (arith, nat_tests)

-- one digit more
pub value_more : (w : List ℕ) (i : ℕ) → i < length w → is_ascii_digit (get_or w i 0) ≡ true
    → digits_value 10 (take (i + 1) w) ≡ digits_value 10 (take i w) * 10 + (get_or w i 0 - 48)
value_more w i lt test =
    let within = digit_within (get_or w i 0) test in
    digits_value_more 10 w i lt ∙ ap (λ (d : ℕ). digits_value 10 (take i w) * 10 + d) (digit_is (get_or w i 0) within.0 within.1)
