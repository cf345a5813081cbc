-- Hex that is read is what is written, and the other way round.
use Rattle.std.proofs.Common.{◌≡◌, ℕ, zero, suc, ◌+◌, ◌*◌, ◌/◌, ◌%◌, ◌<◌, List, [], ◌∷◌, length, slice_index, Bool, true, false, ◌&&◌, ◌||◌, not, cond, eqb, leb, ltb, Option, Some, None, unwrap_or, Result, Ok, Err, refl, sym, ap, subst, ◌∙◌, arith}
use Rattle.std.specs.Prelude.{IfSome, IfOk}
use Rattle.std.specs.List.{AllByRecursion, list_all}
use Rattle.std.proofs.lemmas.Bool.{and_parts, and_from, ltb-true, eqb-true, agree_below_at}
use Rattle.std.proofs.lemmas.Bool.Decides.{nat_tests}
use Rattle.hex.specs.Hex.{decode_of, decode_pairs, hex_digit_value, encode_lower, encode_with, lower_digits, pair_value, value_at, digit_or_error, IsBytes, ◌>>=◌}
use Rattle.hex.specs.declared.error.FromHexError.{FromHexError}
use Rattle.hex.proofs.HexLemmas.{length-encode_with, decode_of-encode_lower, decode_of-ok, decode_of-even}
use Rattle.text_words.specs.Words.{is_lower_hex, is_hex_length, hex_of, decoded, IsHexBytes}

-- the digits of the numbers below 16 are lower-case digits
abbrev digit_is : ℕ → Bool
digit_is d = is_lower_hex (slice_index lower_digits d)

digits_are : (d : ℕ) → d < 16 → is_lower_hex (slice_index lower_digits d) ≡ true
digits_are d lt = agree_below_at digit_is (λ _. true) 16 d refl lt

-- a lower-case digit is the digit of its value
abbrev reads_back : ℕ → Bool
reads_back c = not (is_lower_hex c) || (eqb (slice_index lower_digits (unwrap_or (hex_digit_value c) 99)) c && ltb (unwrap_or (hex_digit_value c) 99) 16)

lower_small : (c : ℕ) → is_lower_hex c ≡ true → c < 128
lower_small c h = grind (arith, nat_tests, h)

all_read_back : (c : ℕ) → c < 128 → reads_back c ≡ true
all_read_back c lt = agree_below_at reads_back (λ _. true) 128 c refl lt

second : (a b : Bool) → (not a || b) ≡ true → a ≡ true → b ≡ true
second true b h e = h
second false b h e = absurd cc

digit_back : (c v : ℕ) → is_lower_hex c ≡ true → hex_digit_value c ≡ Some v → (slice_index lower_digits v ≡ c) × (v < 16)
digit_back c v lower e =
    let at_value = subst (λ (o : Option ℕ). (eqb (slice_index lower_digits (unwrap_or o 99)) c && ltb (unwrap_or o 99) 16) ≡ true) e (second (is_lower_hex c) _ (all_read_back c (lower_small c lower)) lower) in
    let parts = and_parts (eqb (slice_index lower_digits v) c) (ltb v 16) at_value in
    (eqb-true _ c parts.0, ltb-true v 16 parts.1)

bind_ok : {A B : Type 0} (r : Result A FromHexError) (f : A → Result B FromHexError) (y : B) → (r >>= f) ≡ Ok y → (x : A) × (r ≡ Ok x) × (f x ≡ Ok y)
bind_ok (Ok x) f y e = (x, refl, e)
bind_ok (Err d) f y e = absurd cc

done : {A : Type 0} → A → Result A FromHexError
done x = Ok x

ok_is : {A : Type 0} (x y : A) → done x ≡ done y → x ≡ y
unfolding done
ok_is x y e = cc

value_is : (c i v : ℕ) (o : Option ℕ) → digit_or_error c i o ≡ Ok v → o ≡ Some v
value_is c i v (Some u) e = ap (λ (n : ℕ). Some n) (let same : done u ≡ done v = unfold done in e in ok_is u v same)
value_is c i v None e = absurd cc

halves : (h l b : ℕ) → l < 16 → h * 16 + l ≡ b → (b / 16 ≡ h) × (b % 16 ≡ l)
halves h l b lt e = (omega arith, omega arith)

pair_back : (high low i b : ℕ) → is_lower_hex high ≡ true → is_lower_hex low ≡ true → pair_value high low i ≡ Ok b
    → (slice_index lower_digits (b / 16) ≡ high) × (slice_index lower_digits (b % 16) ≡ low)
pair_back high low i b hh hl e =
    let p = bind_ok (value_at high i) (λ h. value_at low (i + 1) >>= λ l. Ok (h * 16 + l)) b e in
    let q = bind_ok (value_at low (i + 1)) (λ l. Ok (p.0 * 16 + l)) b p.2 in
    let h = digit_back high p.0 hh (value_is high i p.0 (hex_digit_value high) p.1) in
    let l = digit_back low q.0 hl (value_is low (i + 1) q.0 (hex_digit_value low) q.1) in
    let sum : done (p.0 * 16 + q.0) ≡ done b = unfold done in q.2 in
    let parts = halves p.0 q.0 b l.1 (ok_is (p.0 * 16 + q.0) b sum) in
    (ap (slice_index lower_digits) parts.0 ∙ h.0, ap (slice_index lower_digits) parts.1 ∙ l.0)

pairs_back : (i : ℕ) (w bytes : List ℕ) → list_all is_lower_hex w ≡ true → decode_pairs i w ≡ Ok bytes → encode_lower bytes ≡ w
unfolding decode_pairs encode_with
pairs_back i [] bytes lower e = let same : [] ≡ bytes = cc in rw (sym same) refl
pairs_back i (digit ∷ []) bytes lower e = absurd cc
pairs_back i (high ∷ low ∷ rest) bytes lower e =
    let a = and_parts (is_lower_hex high) (is_lower_hex low && list_all is_lower_hex rest) lower in
    let b = and_parts (is_lower_hex low) (list_all is_lower_hex rest) a.1 in
    let p = bind_ok (pair_value high low i) (λ byte. decode_pairs (i + 2) rest >>= λ bs. Ok (byte ∷ bs)) bytes e in
    let q = bind_ok (decode_pairs (i + 2) rest) (λ bs. Ok (p.0 ∷ bs)) bytes p.2 in
    let front = pair_back high low i p.0 a.0 b.0 p.1 in
    let back = pairs_back (i + 2) rest q.0 b.1 q.1 in
    let same : (p.0 ∷ q.0) ≡ bytes = cc (q.2) in
    rw (sym same) (rw (front.0, front.1, back) refl)

decoded_is : (r : Result (List ℕ) FromHexError) (bytes : List ℕ) → decoded r ≡ Some bytes → r ≡ Ok bytes
decoded_is (Ok found) bytes e = let same : found ≡ bytes = cc in ap (λ (bs : List ℕ). Ok bs) same
decoded_is (Err d) bytes e = absurd cc

chosen : (b : Bool) (o : Option (List ℕ)) (bytes : List ℕ) → cond b o None ≡ Some bytes → (b ≡ true) × (o ≡ Some bytes)
chosen true o bytes e = (refl, e)
chosen false o bytes e = absurd cc

pub bytes_by_recursion : (bytes : List ℕ) → IsBytes bytes → AllByRecursion (λ b. b < 256) bytes
bytes_by_recursion [] h = tt
bytes_by_recursion (b ∷ bytes) h = (h 0, bytes_by_recursion bytes (λ i. h (suc i)))

bytes_by_index : (bytes : List ℕ) → AllByRecursion (λ b. b < 256) bytes → IsBytes bytes
bytes_by_index [] h i = omega arith
bytes_by_index (b ∷ bytes) h zero = h.0
bytes_by_index (b ∷ bytes) h (suc i) = bytes_by_index bytes h.1 i

half_length : (n m : ℕ) → n ≡ 2 * m → (leb 2 n && leb n 8192) ≡ true → (leb 1 m && leb m 4096) ≡ true
half_length n m e h = grind (arith, nat_tests, h, e)

twice_length : (n m : ℕ) → n ≡ 2 * m → (leb 1 m && leb m 4096) ≡ true → (leb 2 n && leb n 8192) ≡ true
twice_length n m e h = grind (arith, nat_tests, h, e)

-- what is read as hex is its digits
pub hex_is : (w bytes : List ℕ) → hex_of w ≡ Some bytes → (w ≡ encode_lower bytes) × IsHexBytes bytes
unfolding hex_of
hex_is w bytes e =
    let c = chosen (is_hex_length w && list_all is_lower_hex w) (decoded (decode_of w)) bytes e in
    let t = and_parts (is_hex_length w) (list_all is_lower_hex w) c.0 in
    let ok = decoded_is (decode_of w) bytes c.1 in
    let facts = decode_of-ok w bytes ok in
    let pairs : decode_pairs 0 w ≡ Ok bytes = sym (decode_of-even w facts.0) ∙ ok in
    (sym (pairs_back 0 w bytes t.1 pairs), (half_length (length w) (length bytes) facts.2 t.0, bytes_by_recursion bytes facts.3))

half_small : (b : ℕ) → b < 256 → (b / 16 < 16) × (b % 16 < 16)
half_small b h = (omega arith, omega arith)

pub lower_again : (bytes : List ℕ) → AllByRecursion (λ b. b < 256) bytes → list_all is_lower_hex (encode_lower bytes) ≡ true
unfolding encode_with
lower_again [] h = refl
lower_again (b ∷ bytes) h =
    let small = half_small b h.0 in
    and_from _ _ (digits_are (b / 16) small.0) (and_from _ _ (digits_are (b % 16) small.1) (lower_again bytes h.1))

-- what is written as hex is read
pub hex_again : (bytes : List ℕ) → IsHexBytes bytes → hex_of (encode_lower bytes) ≡ Some bytes
unfolding hex_of
hex_again bytes h =
    let long = twice_length (length (encode_lower bytes)) (length bytes) (length-encode_with lower_digits bytes) h.0 in
    let lower = lower_again bytes h.1 in
    let back = decode_of-encode_lower bytes (bytes_by_index bytes h.1) in
    rw (long, lower, back) refl

pub hex_found : {E : Type 0} (w : List ℕ) (r : Result (Option (List ℕ)) E) → IfOk r (λ bytes. bytes ≡ hex_of w) → IfOk r (λ bytes. IfSome bytes (λ b. IsHexBytes b × (w ≡ encode_lower b)))
hex_found w (Ok None) e = tt
hex_found w (Ok (Some b)) e = let is = hex_is w b (sym e) in (is.1, is.0)
hex_found w (Err d) e = tt

pub hex_only : {E : Type 0} (w : List ℕ) (r : Result (Option (List ℕ)) E) → IfOk r (λ bytes. bytes ≡ hex_of w) → (b : List ℕ) → IsHexBytes b → w ≡ encode_lower b → IfOk r (λ bytes. bytes ≡ Some b)
hex_only w (Ok bytes) e b h is = e ∙ ap hex_of is ∙ hex_again b h
hex_only w (Err d) e b h is = tt
