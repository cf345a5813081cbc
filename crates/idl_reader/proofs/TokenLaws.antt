-- The tokens of a text, from its first byte on.
use Rattle.std.proofs.Common.{◌≡◌, ℕ, nat_eq, suc, ◌+◌, ◌≤◌, ◌&&◌, ◌||◌, not, leb, List, [], ◌∷◌, length, take, drop, Bool, true, false, cond, refl, sym, ap, subst, ◌∙◌, arith, add_assoc, add-zero, slice_index_or, ◌<◌}
use Rattle.std.specs.List.{list_all, prefix_len, take_while}
use Rattle.std.proofs.lemmas.Bool.{and_parts, eqb-true, leb-true, le-leb, lt-leb}
use Rattle.std.proofs.lemmas.List.Folds.{length-prefix_len}
use Rattle.std.proofs.lemmas.List.Sums.{prefix_len-le-length, take_while-cons}
use Rattle.text_words.specs.Words.{is_letter, is_name_char}
use Rattle.idl_reader.specs.Words.{is_word}
use Rattle.idl_reader.specs.Tokens.{Lexeme, Word, Sign, Stray, Long, End, Within, Gap, Name, Comment, is_blank, is_sign, begins_comment, comment_first, word_then, is_at_token, is_no_line_feed, goes_on, tokens_from, BeginsWord}

-- the tokens where nothing goes on
abbrev begun : ℕ → ℕ → List ℕ → List Lexeme
begun at c cs =
    cond (is_blank c) (tokens_from Gap (at + 1) cs)
    (cond (is_sign c) (Sign at c ∷ tokens_from Gap (at + 1) cs)
    (cond (is_letter c) (word_then at (c ∷ take_while is_name_char cs) (tokens_from Name (at + 1) cs))
    (cond (begins_comment c cs) (tokens_from Comment (at + 1) cs) (Stray at ∷ []))))

pub tokens-cons : (within : Within) (at c : ℕ) (cs : List ℕ) → tokens_from within at (c ∷ cs) ≡ cond (goes_on within c) (tokens_from within (at + 1) cs) (begun at c cs)
unfolding tokens_from
tokens-cons within at c cs = refl

suc-one : (n : ℕ) → suc n ≡ 1 + n
suc-one n = omega arith

skip_cases : (within : Within) (at c : ℕ) (cs : List ℕ) (b : Bool) → (let m = prefix_len (goes_on within) cs in tokens_from within (at + 1) cs ≡ tokens_from Gap (at + 1 + m) (drop m cs))
    → let n = cond b (1 + prefix_len (goes_on within) cs) 0 in cond b (tokens_from within (at + 1) cs) (begun at c cs) ≡ tokens_from Gap (at + n) (drop n (c ∷ cs))
unfolding tokens_from
skip_cases within at c cs true rest =
    let n = prefix_len (goes_on within) cs in
    rest
    ∙ ap (λ k. tokens_from Gap k (drop n cs)) (add_assoc at 1 n)
    ∙ ap (λ m. tokens_from Gap (at + (1 + n)) (drop m (c ∷ cs))) (suc-one n)
skip_cases within at c cs false rest = ap (λ k. begun k c cs) (sym (add-zero at))

-- what was begun goes on so far, and then the next token is looked for
pub tokens_skip : (within : Within) (at : ℕ) (cs : List ℕ) → let n = prefix_len (goes_on within) cs in tokens_from within at cs ≡ tokens_from Gap (at + n) (drop n cs)
unfolding tokens_from
tokens_skip within at [] = ap (λ (k : ℕ). End k ∷ []) (sym (add-zero at))
tokens_skip within at (c ∷ cs) = skip_cases within at c cs (goes_on within c) (tokens_skip within (at + 1) cs)

neither : (a b : Bool) → not (a || b) ≡ true → (a ≡ false) × (b ≡ false)
neither true b e = absurd cc
neither false true e = absurd cc
neither false false e = (refl, refl)

or-first : (a b : Bool) → not (a || b) ≡ false → b ≡ false → a ≡ true
or-first true b e none = refl
or-first false true e none = absurd cc
or-first false false e none = absurd cc

-- a blank is left out
pub tokens-blank : (at c : ℕ) (cs : List ℕ) → is_blank c ≡ true → tokens_from Gap at (c ∷ cs) ≡ tokens_from Gap (at + 1) cs
tokens-blank at c cs blank = tokens-cons Gap at c cs ∙ rw blank refl

-- and a comment
comment-is : (c d : ℕ) → (nat_eq c 47 && nat_eq d 47) ≡ true → (c ≡ 47) × (d ≡ 47)
comment-is c d e =
    let both = and_parts (nat_eq c 47) (nat_eq d 47) e in
    (eqb-true c 47 both.0, eqb-true d 47 both.1)

pub tokens-comment : (at : ℕ) (bs : List ℕ) → comment_first bs ≡ true → let n = prefix_len is_no_line_feed bs in tokens_from Gap at bs ≡ tokens_from Gap (at + n) (drop n bs)
unfolding tokens_from
tokens-comment at [] e = absurd cc
tokens-comment at (c ∷ []) e = absurd cc
tokens-comment at (c ∷ d ∷ cs) e =
    let both = comment-is c d e in
    let Skips : ℕ → ℕ → Type 0 = λ x y. let n = prefix_len is_no_line_feed (x ∷ y ∷ cs) in tokens_from Gap at (x ∷ y ∷ cs) ≡ tokens_from Gap (at + n) (drop n (x ∷ y ∷ cs)) in
    subst (λ x. Skips x d) (sym both.0) (subst (Skips 47) (sym both.1) (tokens_skip Comment at (47 ∷ 47 ∷ cs)))

pub tokens-gap : (at : ℕ) (bs : List ℕ) → is_at_token bs ≡ false → comment_first bs ≡ false → tokens_from Gap at bs ≡ tokens_from Gap (at + 1) (drop 1 bs)
tokens-gap at [] gap none = absurd cc
tokens-gap at (c ∷ cs) gap none = tokens-blank at c cs (or-first (is_blank c) (begins_comment c cs) gap none)

-- a sign is a token
pub tokens-sign : (at c : ℕ) (cs : List ℕ) → is_blank c ≡ false → is_sign c ≡ true → tokens_from Gap at (c ∷ cs) ≡ Sign at c ∷ tokens_from Gap (at + 1) cs
tokens-sign at c cs blank sign = tokens-cons Gap at c cs ∙ rw (blank, sign) refl

-- a letter begins a word
pub tokens-word : (at c : ℕ) (cs : List ℕ) → is_blank c ≡ false → is_sign c ≡ false → is_letter c ≡ true
    → let n = prefix_len is_name_char cs in tokens_from Gap at (c ∷ cs) ≡ word_then at (c ∷ take_while is_name_char cs) (tokens_from Gap (at + 1 + n) (drop n cs))
tokens-word at c cs blank sign letter = tokens-cons Gap at c cs ∙ rw (blank, sign, letter) (ap (λ ts. word_then at (c ∷ take_while is_name_char cs) ts) (tokens_skip Name (at + 1) cs))

-- any other byte begins no token
pub tokens-bad : (at c : ℕ) (cs : List ℕ) → is_at_token (c ∷ cs) ≡ true → is_sign c ≡ false → is_letter c ≡ false → tokens_from Gap at (c ∷ cs) ≡ Stray at ∷ []
tokens-bad at c cs ahead sign letter =
    let none = neither (is_blank c) (begins_comment c cs) ahead in
    let blank : is_blank c ≡ false = none.0 in
    let comment : begins_comment c cs ≡ false = none.1 in
    tokens-cons Gap at c cs ∙ rw (blank, sign, letter, comment) refl

-- a word that is short enough, and one that is not
pub word_short : (at : ℕ) (w : List ℕ) (rest : List Lexeme) → length w ≤ 32 → word_then at w rest ≡ Word at w ∷ rest
word_short at w rest short = ap (λ b. cond b (Word at w ∷ rest) (Long at ∷ [])) (le-leb (length w) 32 short)

pub word_long : (at : ℕ) (w : List ℕ) (rest : List Lexeme) → 32 < length w → word_then at w rest ≡ Long at ∷ []
word_long at w rest long = ap (λ b. cond b (Word at w ∷ rest) (Long at ∷ [])) (lt-leb (length w) 32 long)

letter_char : (c : ℕ) → is_letter c ≡ true → is_name_char c ≡ true
letter_char c e = rw e refl

one-more : (n c : ℕ) (cs : List ℕ) → (take (1 + n) (c ∷ cs) ≡ c ∷ take n cs) × (drop (1 + n) (c ∷ cs) ≡ drop n cs)
one-more n c cs = subst (λ m. (take m (c ∷ cs) ≡ c ∷ take n cs) × (drop m (c ∷ cs) ≡ drop n cs)) (suc-one n) (refl, refl)

-- the word at the front
pub tokens-front : (at : ℕ) (bs : List ℕ) → BeginsWord bs → let n = prefix_len is_name_char bs in tokens_from Gap at bs ≡ word_then at (take n bs) (tokens_from Gap (at + n) (drop n bs))
tokens-front at [] h = absurd h
tokens-front at (c ∷ cs) h =
    let m = prefix_len is_name_char cs in
    let Fronts : ℕ → Type 0 = λ n. tokens_from Gap at (c ∷ cs) ≡ word_then at (take n (c ∷ cs)) (tokens_from Gap (at + n) (drop n (c ∷ cs))) in
    let more = one-more m c cs in
    let here : Fronts (1 + m) =
    tokens-word at c cs h.2 h.1 h.0
    ∙ ap (λ k. word_then at (c ∷ take m cs) (tokens_from Gap k (drop m cs))) (add_assoc at 1 m)
    ∙ ap (λ w. word_then at w (tokens_from Gap (at + (1 + m)) (drop m cs))) (sym more.0)
    ∙ ap (λ r. word_then at (take (1 + m) (c ∷ cs)) (tokens_from Gap (at + (1 + m)) r)) (sym more.1) in
    subst Fronts (sym (ap (λ b. cond b (1 + m) 0) (letter_char c h.0))) here

pub front_length : (bs : List ℕ) → let n = prefix_len is_name_char bs in (length (take n bs) ≡ n) × (n ≤ length bs)
front_length bs = (length-prefix_len is_name_char bs, prefix_len-le-length is_name_char bs)

-- the first token, by the first byte
pub first-end : (at : ℕ) (bs : List ℕ) → length bs < 1 → End at ∷ [] ≡ tokens_from Gap at bs
unfolding tokens_from
first-end at [] none = refl
first-end at (c ∷ cs) none = absurd (omega arith)

pub first-sign : (at : ℕ) (bs : List ℕ) → is_at_token bs ≡ true → is_sign (slice_index_or bs 0 0) ≡ true → Sign at (slice_index_or bs 0 0) ∷ tokens_from Gap (at + 1) (drop 1 bs) ≡ tokens_from Gap at bs
first-sign at [] ahead sign = absurd cc
first-sign at (c ∷ cs) ahead sign = sym (tokens-sign at c cs (neither (is_blank c) (begins_comment c cs) ahead).0 sign)

pub first-bad : (at : ℕ) (bs : List ℕ) → 1 ≤ length bs → is_at_token bs ≡ true → is_sign (slice_index_or bs 0 0) ≡ false → is_letter (slice_index_or bs 0 0) ≡ false → Stray at ∷ [] ≡ tokens_from Gap at bs
first-bad at [] some ahead sign letter = absurd (omega arith)
first-bad at (c ∷ cs) some ahead sign letter = sym (tokens-bad at c cs ahead sign letter)

pub first_word : (bs : List ℕ) → is_at_token bs ≡ true → is_sign (slice_index_or bs 0 0) ≡ false → is_letter (slice_index_or bs 0 0) ≡ true → BeginsWord bs
first_word [] ahead sign letter = absurd cc
first_word (c ∷ cs) ahead sign letter = (letter, sign, (neither (is_blank c) (begins_comment c cs) ahead).0)

-- each word of the tokens is one, and the end is the last
abbrev pub Tokens : List Lexeme → Type 0
Tokens [] = Unit {0}
Tokens (Word at word ∷ rest) = (is_word word ≡ true) × Tokens rest
Tokens (Sign at sign ∷ rest) = Unit {0} × Tokens rest
Tokens (Stray at ∷ rest) = Unit {0} × Tokens rest
Tokens (Long at ∷ rest) = Unit {0} × Tokens rest
Tokens (End at ∷ rest) = Unit {0} × (rest ≡ [])

while_all : (p : ℕ → Bool) (bs : List ℕ) → list_all p (take_while p bs) ≡ true
while_all p [] = refl
while_all p (b ∷ bs) = rw (take_while-cons p b bs) (cases (p b) refl (while_all p bs)) where
  cases : (t : Bool) → p b ≡ t → list_all p (take_while p bs) ≡ true → list_all p (cond t (b ∷ take_while p bs) []) ≡ true
  cases true e rest = rw (e, rest) refl
  cases false e rest = refl

word_then_fits : (at : ℕ) (word : List ℕ) (rest : List Lexeme) → (length word ≤ 32 → is_word word ≡ true) → Tokens rest → Tokens (word_then at word rest)
word_then_fits at word rest is after = cases (leb (length word) 32) refl where
  cases : (t : Bool) → leb (length word) 32 ≡ t → Tokens (cond t (Word at word ∷ rest) (Long at ∷ []))
  cases true e = (is (leb-true (length word) 32 e), after)
  cases false e = (tt, tt)

begun_word : (c : ℕ) (cs : List ℕ) → is_letter c ≡ true → length (c ∷ take_while is_name_char cs) ≤ 32 → is_word (c ∷ take_while is_name_char cs) ≡ true
begun_word c cs letter short =
    let all = while_all is_name_char cs in
    let few : leb (length (take_while is_name_char cs)) 31 ≡ true = le-leb (length (take_while is_name_char cs)) 31 (omega arith) in
    rw (letter, all, few) refl

when_fits : (b : Bool) (x y : List Lexeme) → (b ≡ true → Tokens x) → Tokens y → Tokens (cond b x y)
when_fits true x y first other = first refl
when_fits false x y first other = other

pub tokens_fit : (within : Within) (at : ℕ) (bs : List ℕ) → Tokens (tokens_from within at bs)
unfolding tokens_from
tokens_fit within at [] = (tt, refl)
tokens_fit within at (c ∷ cs) = fits (tokens_fit within (at + 1) cs) (tokens_fit Gap (at + 1) cs) (tokens_fit Name (at + 1) cs) (tokens_fit Comment (at + 1) cs) where
  fits : Tokens (tokens_from within (at + 1) cs) → Tokens (tokens_from Gap (at + 1) cs) → Tokens (tokens_from Name (at + 1) cs) → Tokens (tokens_from Comment (at + 1) cs)
      → Tokens (tokens_from within at (c ∷ cs))
  fits same gap name comment =
      when_fits (goes_on within c) _ _ (λ e. same)
      (when_fits (is_blank c) _ _ (λ e. gap)
      (when_fits (is_sign c) _ _ (λ e. (tt, gap))
      (when_fits (is_letter c) _ _ (λ e. word_then_fits at (c ∷ take_while is_name_char cs) (tokens_from Name (at + 1) cs) (begun_word c cs e) name)
      (when_fits (begins_comment c cs) _ _ (λ e. comment) (tt, tt)))))
