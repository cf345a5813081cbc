-- The first of some words, and then the others with a byte before each; a digit; and hex, byte by byte.
use Rattle.std.proofs.Common.{◌≡◌, ℕ, ◌+◌, ◌-◌, ◌/◌, ◌%◌, ◌^◌, ◌<◌, ◌≤◌, List, [], ◌∷◌, ◌++◌, length, take, drop, get_or, slice_index, map, Bor, Result, Ok, Err, sym, ap, ◌∙◌, append_assoc, arith}
use Rattle.std.specs.Prelude.{OnOk}
use Rattle.std.specs.List.{flat_map, join_with_byte}
use Rattle.std.specs.Fmt.{decimal}
use Rattle.std.proofs.Math.Seq.{take-length}
use Rattle.std.proofs.lemmas.Fmt.{decimal_digit, decimal_step, length-decimal-le}
use Rattle.std.proofs.lemmas.List.{append-nil, drop_all, length-append}
use Rattle.hex.specs.Hex.{encode_lower, encode_with, lower_digits}
use Rattle.hex.proofs.Pairs.{encode_with-drop}
use Rattle.text_words.specs.Lines.{spaced}
use Rattle.text_words.specs.Words.{path_word}
use Rattle.text_words.proofs.Splits.{join_spaced}

joined : (c : ℕ) (out with_first new first : List ℕ) (rest : List (List ℕ)) → with_first ≡ out ++ first → new ≡ with_first ++ flat_map (λ w. c ∷ w) rest → new ≡ out ++ join_with_byte c (first ∷ rest)
joined c out with_first new first rest f h =
    h ∙ ap (λ (bs : List ℕ). bs ++ flat_map (λ w. c ∷ w) rest) f ∙ append_assoc out first (flat_map (λ w. c ∷ w) rest) ∙ ap (λ (bs : List ℕ). out ++ bs) (sym (join_spaced c first rest))

take_all : {A : Type 0} (ys : List A) (n : ℕ) → n ≡ length ys → take n ys ≡ ys
take_all ys n e = rw e (take-length ys)

others : {A : Type 0} (x : A) (xs : List A) → take (length (x ∷ xs) - 1) (drop 1 (x ∷ xs)) ≡ xs
others x xs = take_all xs (length (x ∷ xs) - 1) (omega arith)

pub words_put : {E : Type 0} (r : Result (Unit {0}) E) (out with_first new : List ℕ) (words : List (Bor (List ℕ))) (d : Bor (List ℕ)) → 1 ≤ length words
    → with_first ≡ out ++ (get_or words 0 d).now
    → OnOk r (new ≡ with_first ++ spaced (map (λ word. word.now) (take (length words - 1) (drop 1 words))))
    → OnOk r (new ≡ out ++ join_with_byte 32 (map (λ word. word.now) words))
words_put r out with_first new [] d some f h = absurd (omega arith)
words_put (Ok x) out with_first new (word ∷ words) d some f h =
    joined 32 out with_first new word.now (map (λ w. w.now) words) f (h ∙ ap (λ (ws : List (Bor (List ℕ))). with_first ++ spaced (map (λ w. w.now) ws)) (others word words))
words_put (Err e) out with_first new (word ∷ words) d some f h = h

pub path_put : {E : Type 0} (r : Result (Unit {0}) E) (out with_first new first d : List ℕ) (parts seen : List (List ℕ)) → 1 ≤ length seen → seen ≡ parts
    → with_first ≡ out ++ 32 ∷ first → first ≡ get_or seen 0 d
    → OnOk r (new ≡ with_first ++ flat_map (λ w. 47 ∷ w) (take (length seen - 1) (drop 1 seen)))
    → OnOk r (new ≡ out ++ 32 ∷ path_word parts)
path_put r out with_first new first d parts [] some same f g h = absurd (omega arith)
path_put (Ok x) out with_first new first d parts (part ∷ rest) some same f g h =
    let first_is : with_first ≡ (out ++ 32 ∷ []) ++ part = f ∙ ap (λ (bs : List ℕ). out ++ 32 ∷ bs) g ∙ sym (append_assoc out (32 ∷ []) part) in
    joined 47 (out ++ 32 ∷ []) with_first new part rest first_is (h ∙ ap (λ (ws : List (List ℕ)). with_first ++ flat_map (λ w. 47 ∷ w) ws) (others part rest))
    ∙ append_assoc out (32 ∷ []) (join_with_byte 47 (part ∷ rest)) ∙ ap (λ (ps : List (List ℕ)). out ++ 32 ∷ path_word ps) same
path_put (Err e) out with_first new first d parts (part ∷ rest) some same f g h = h

-- a number below ten is its digit
pub one_digit : (n : ℕ) → n < 10 → decimal n ≡ (48 + n) ∷ []
one_digit n small = decimal_digit n small

-- a number of two digits
pub two_digits : (n : ℕ) → 10 ≤ n → n < 100 → decimal n ≡ (48 + n / 10) ∷ (48 + n % 10) ∷ []
two_digits n more small = decimal_step n more (omega arith) ∙ ap (λ (ds : List ℕ). ds ++ (48 + n % 10) ∷ []) (decimal_digit (n / 10) (omega arith))

-- the last two digits of a number
pub last_two : (n : ℕ) → 100 ≤ n → n < 2 ^ 64 → decimal n ≡ decimal (n / 100) ++ (48 + n / 10 % 10) ∷ (48 + n % 10) ∷ []
last_two n more small =
    let tenth : 10 ≤ n / 10 = omega arith in
    let hundredth : n / 10 / 10 ≡ n / 100 = omega arith in
    let low : List ℕ = (48 + n % 10) ∷ [] in
    decimal_step n (omega arith) small
    ∙ ap (λ (ds : List ℕ). ds ++ low) (decimal_step (n / 10) tenth (omega arith) ∙ ap (λ (k : ℕ). decimal k ++ (48 + n / 10 % 10) ∷ []) hundredth)
    ∙ append_assoc (decimal (n / 100)) ((48 + n / 10 % 10) ∷ []) low

pub two_longer : (n : ℕ) → 100 ≤ n → n < 2 ^ 64 → length (decimal n) ≡ length (decimal (n / 100)) + 2
two_longer n more small = ap length (last_two n more small) ∙ length-append (decimal (n / 100)) ((48 + n / 10 % 10) ∷ (48 + n % 10) ∷ [])

-- two bytes that were pushed
pub two_pushed : (out one two : List ℕ) (a b : ℕ) → one ≡ out ++ a ∷ [] → two ≡ one ++ b ∷ [] → two ≡ out ++ a ∷ b ∷ []
two_pushed out one two a b first second = second ∙ ap (λ (bs : List ℕ). bs ++ b ∷ []) first ∙ append_assoc out (a ∷ []) (b ∷ [])

-- a hundredth was put, and then the last two digits
pub number_put : (out front one two : List ℕ) (n : ℕ) → 100 ≤ n → n < 2 ^ 64 → front ≡ out ++ decimal (n / 100)
    → one ≡ front ++ (48 + n / 10 % 10) ∷ [] → two ≡ one ++ (48 + n % 10) ∷ [] → two ≡ out ++ decimal n
number_put out front one two n more small put first second =
    let low : List ℕ = (48 + n / 10 % 10) ∷ (48 + n % 10) ∷ [] in
    two_pushed front one two (48 + n / 10 % 10) (48 + n % 10) first second
    ∙ ap (λ (bs : List ℕ). bs ++ low) put ∙ append_assoc out (decimal (n / 100)) low
    ∙ ap (λ (bs : List ℕ). out ++ bs) (sym (last_two n more small))

-- a number has twenty digits at most
pub most_digits : (n : ℕ) → n < 2 ^ 64 → length (decimal n) ≤ 20
most_digits n small = length-decimal-le 20 n (omega arith) (omega arith) small

-- the two digits of one byte more
pub hex_put : (out one two bytes : List ℕ) (i high low : ℕ) → i < length bytes
    → high ≡ slice_index lower_digits (get_or bytes i 0 / 16) → low ≡ slice_index lower_digits (get_or bytes i 0 % 16)
    → one ≡ out ++ high ∷ [] → two ≡ one ++ low ∷ []
    → two ++ encode_lower (drop (i + 1) bytes) ≡ out ++ encode_lower (drop i bytes)
hex_put out one two bytes i high low lt is_high is_low first second =
    let rest : List ℕ = encode_lower (drop (i + 1) bytes) in
    let digits : high ∷ low ∷ rest ≡ encode_lower (drop i bytes) =
    ap (λ (x : ℕ). x ∷ low ∷ rest) is_high ∙ ap (λ (x : ℕ). slice_index lower_digits (get_or bytes i 0 / 16) ∷ x ∷ rest) is_low ∙ sym (encode_with-drop lower_digits bytes i lt) in
    ap (λ (bs : List ℕ). bs ++ rest) (second ∙ ap (λ (bs : List ℕ). bs ++ low ∷ []) first)
    ∙ append_assoc (out ++ high ∷ []) (low ∷ []) rest ∙ append_assoc out (high ∷ []) (low ∷ rest)
    ∙ ap (λ (bs : List ℕ). out ++ bs) digits

-- no byte is left
pub hex_put_all : (out bytes : List ℕ) (i : ℕ) → length bytes ≤ i → out ++ encode_lower (drop i bytes) ≡ out
unfolding encode_with
hex_put_all out bytes i past = rw (drop_all i bytes past) (append-nil out)
