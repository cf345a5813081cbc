-- The numbers of a command.
use Rattle.std.specs.Prelude.{nat_lt, ◌&&◌, ◌^◌, option_and_then}
use Rattle.std.specs.List.{list_all}
use Rattle.std.specs.Char.{digit_value}
use Rattle.std.specs.Str.Parse.{AllDigits, IsNumeral, ParsesUnsigned, digits_value, without_leading_plus}
use Rattle.std.proofs.Common.{◌≡◌, ℕ, ◌<◌, ◌≤◌, length, Bool, true, false, cond, List, [], ◌∷◌, Option, Some, None, Result, Ok, Err, refl, sym, ap, ◌∙◌, arith}
use Rattle.std.proofs.lemmas.Bool.{and_parts, and_from, ltb-true, lt-ltb}
use Rattle.clap.specs.Words.{ReadsOne, Text, one_text, rows_of}
use Rattle.clap.specs.ValueTests.{is_numeral}
use Rattle.clap.specs.declared.parser.matches.Found.{Found}
use Rattle.clap.proofs.WalkLemmas.{one_text-rows}
use Rattle.spr_run.specs.Asked.{number_below, whole_number}

digits-of : (ds : List ℕ) → list_all (λ d. nat_lt (digit_value d) 10) ds ≡ true → AllDigits 10 ds
digits-of [] e = tt
digits-of (d ∷ ds) e =
    let parts = and_parts (nat_lt (digit_value d) 10) (list_all (λ d. nat_lt (digit_value d) 10) ds) e in
    (ltb-true (digit_value d) 10 parts.0, digits-of ds parts.1)

digits-test : (ds : List ℕ) → AllDigits 10 ds → list_all (λ d. nat_lt (digit_value d) 10) ds ≡ true
digits-test [] all = refl
digits-test (d ∷ ds) all = and_from (nat_lt (digit_value d) 10) (list_all (λ d. nat_lt (digit_value d) 10) ds) (lt-ltb (digit_value d) 10 all.0) (digits-test ds all.1)

numeral-of : (ds : List ℕ) → is_numeral ds ≡ true → IsNumeral 10 ds
numeral-of ds e =
    let parts = and_parts (nat_lt 0 (length ds)) (list_all (λ d. nat_lt (digit_value d) 10) ds) e in
    (ltb-true 0 (length ds) parts.0, digits-of ds parts.1)

numeral-test : (ds : List ℕ) → IsNumeral 10 ds → is_numeral ds ≡ true
numeral-test ds is = and_from (nat_lt 0 (length ds)) (list_all (λ d. nat_lt (digit_value d) 10) ds) (lt-ltb 0 (length ds) is.0) (digits-test ds is.1)

-- a number, where it is below a limit
abbrev pub below : ℕ → Option ℕ → Option ℕ
below limit None = None
below limit (Some n) = cond (nat_lt n limit) (Some n) None

pub below-some : (limit n : ℕ) (r : Option ℕ) → r ≡ Some n → n < limit → below limit r ≡ Some n
below-some limit n r is low = ap (below limit) is ∙ ap (λ (b : Bool). cond b (Some n) None) (lt-ltb n limit low)

pub below-none : (limit n : ℕ) (r : Option ℕ) → r ≡ Some n → limit ≤ n → below limit r ≡ None
below-none limit n r is high = ap (below limit) is ∙ high-none (nat_lt n limit) refl where
  high-none : (b : Bool) → nat_lt n limit ≡ b → cond (nat_lt n limit) (Some n) None ≡ None
  high-none true e = let low = ltb-true n limit e in absurd (omega arith)
  high-none false e = ap (λ (b : Bool). cond b (Some n) None) e

some-below : (b : Bool) (n v limit : ℕ) → b ≡ true → v ≡ n → cond (b && nat_lt n limit) (Some n) None ≡ below limit (Some v)
some-below true n v limit e is = ap (λ k. below limit (Some k)) (sym is)
some-below false n v limit e is = absurd cc

none-below : (b c : Bool) (n : ℕ) → (b ≡ true → c ≡ true → ⊥) → cond (b && c) (Some n) None ≡ None
none-below true true n h = absurd (h refl refl)
none-below true false n h = refl
none-below false c n h = refl

-- what a text is read as, where the type has 32 bits
whole-of : (E : Type 0) (G : List ℕ → Result ℕ E → Type 0) (limit : ℕ) (text : Text) (r : Option ℕ) → limit ≤ 2 ^ 32 → ((u : List ℕ) (x : Result ℕ E) → G u x → ParsesUnsigned 32 10 u x)
    → ReadsOne G text r → whole_number limit (without_leading_plus text) ≡ below limit r
whole-of E G limit text (Some v) small only reads =
    let p = only text (Ok v) reads in
    some-below (is_numeral (without_leading_plus text)) (digits_value 10 (without_leading_plus text)) v limit (numeral-test (without_leading_plus text) p.0.0) p.1
whole-of E G limit text None small only reads =
    let p = only text (Err reads.0) reads.1 in
    none-below (is_numeral (without_leading_plus text)) (nat_lt (digits_value 10 (without_leading_plus text)) limit) (digits_value 10 (without_leading_plus text))
    (λ is low. p (numeral-of (without_leading_plus text) is, let lower = ltb-true (digits_value 10 (without_leading_plus text)) limit low in omega arith))

pub number-of : (E : Type 0) (G : List ℕ → Result ℕ E → Type 0) (f : Found) (id : Text) (limit : ℕ) (r : Option ℕ) → limit ≤ 2 ^ 32 → ((u : List ℕ) (x : Result ℕ E) → G u x → ParsesUnsigned 32 10 u x)
    → (one_text f id ≡ None → r ≡ None) → ((t : List ℕ) → one_text f id ≡ Some t → ReadsOne G t r) → number_below limit id (rows_of f) ≡ below limit r
number-of E G f id limit r small only none value =
    ap (option_and_then (λ (text : Text). whole_number limit (without_leading_plus text))) (sym (one_text-rows f id)) ∙ go (one_text f id) refl
  where
    go : (o : Option Text) → one_text f id ≡ o → option_and_then (λ (text : Text). whole_number limit (without_leading_plus text)) o ≡ below limit r
    go None e = sym (ap (below limit) (none e))
    go (Some t) e = whole-of E G limit t r small only (value t e)
