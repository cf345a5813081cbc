-- Lists that are split where a byte stands, and joined by it.
use Rattle.std.proofs.Common.{◌≡◌, ℕ, ◌-◌, ◌≤◌, List, [], ◌∷◌, ◌++◌, length, take, drop, Bool, true, false, cond, ◌&&◌, not, eqb, Some, None, inl, inr, subst, refl, sym, ap, ◌∙◌, arith}
use Rattle.std.specs.List.{AllByRecursion, flat_map, join_with_byte, list_all, position_or_len, slice_split, onto_first}
use Rattle.std.specs.Str.{IsAscii}
use Rattle.std.proofs.lemmas.Bool.{and_parts, not-true, eq-eqb, and_from, cases_Bool, not_from_false}
use Rattle.std.proofs.lemmas.List.{append-nil, length-drop, take_rest}
use Rattle.std.proofs.lemmas.List.Folds.{list_all-append}
use Rattle.std.proofs.lemmas.List.Splits.{slice_split-cons_yes, slice_split-cons_no}
use Rattle.std.proofs.lemmas.Str.{IsAscii-append}
use Rattle.std.proofs.lemmas.Str.Ascii.{IsAscii-cons, IsAscii-nil}

-- the byte is nowhere in the list
abbrev pub lacks : ℕ → List ℕ → Bool
lacks c bs = list_all (λ b. not (eqb b c)) bs

abbrev pub Lacks : ℕ → List (List ℕ) → Type 0
Lacks c words = AllByRecursion (λ word. lacks c word ≡ true) words

pub split_front : (c : ℕ) (word rest : List ℕ) → lacks c word ≡ true → slice_split (λ b. eqb b c) (word ++ c ∷ rest) ≡ word ∷ slice_split (λ b. eqb b c) rest
split_front c [] rest h = slice_split-cons_yes (λ b. eqb b c) c rest (eq-eqb c c refl)
split_front c (b ∷ word) rest h =
    let parts = and_parts (not (eqb b c)) (lacks c word) h in
    let step = slice_split-cons_no (λ b. eqb b c) b (word ++ c ∷ rest) (not-true (eqb b c) parts.0) in
    step ∙ ap (onto_first b) (split_front c word rest parts.1)

pub split_alone : (c : ℕ) (word : List ℕ) → lacks c word ≡ true → slice_split (λ b. eqb b c) word ≡ word ∷ []
split_alone c [] h = refl
split_alone c (b ∷ word) h =
    let parts = and_parts (not (eqb b c)) (lacks c word) h in
    let step = slice_split-cons_no (λ b. eqb b c) b word (not-true (eqb b c) parts.0) in
    step ∙ ap (onto_first b) (split_alone c word parts.1)

-- what is joined is split again
pub split_joined : (c : ℕ) (word : List ℕ) (words : List (List ℕ)) → Lacks c (word ∷ words) → slice_split (λ b. eqb b c) (join_with_byte c (word ∷ words)) ≡ word ∷ words
split_joined c word [] h = split_alone c word h.0
split_joined c word (next ∷ words) h = split_front c word (join_with_byte c (next ∷ words)) h.0 ∙ ap (λ (ws : List (List ℕ)). word ∷ ws) (split_joined c next words h.1)

-- the first word, and then the byte before each other
pub join_spaced : (c : ℕ) (word : List ℕ) (words : List (List ℕ)) → join_with_byte c (word ∷ words) ≡ word ++ flat_map (λ w. c ∷ w) words
join_spaced c word [] = sym (append-nil word)
join_spaced c word (next ∷ words) = ap (λ (bs : List ℕ). word ++ (c ∷ bs)) (join_spaced c next words)

pub join_ascii : (c : ℕ) → IsAscii (c ∷ []) → (words : List (List ℕ)) → AllByRecursion IsAscii words → IsAscii (join_with_byte c words)
join_ascii c small [] h = IsAscii-nil
join_ascii c small (word ∷ []) h = h.0
join_ascii c small (word ∷ next ∷ words) h = IsAscii-append word (c ∷ join_with_byte c (next ∷ words)) h.0 (IsAscii-cons c (join_with_byte c (next ∷ words)) (small 0) (join_ascii c small (next ∷ words) h.1))

-- a test that the words and the byte pass, all that is joined passes
pub join_all : (p : ℕ → Bool) (c : ℕ) → p c ≡ true → (words : List (List ℕ)) → AllByRecursion (λ word. list_all p word ≡ true) words → list_all p (join_with_byte c words) ≡ true
join_all p c pc [] h = refl
join_all p c pc (word ∷ []) h = h.0
join_all p c pc (word ∷ next ∷ words) h =
    let rest = join_all p c pc (next ∷ words) h.1 in
    list_all-append p word (c ∷ join_with_byte c (next ∷ words)) ∙ and_from _ _ h.0 (and_from _ _ pc rest)

-- each word has a property that follows from another
pub each : {P Q : List ℕ → Type 0} → ((word : List ℕ) → P word → Q word) → (words : List (List ℕ)) → AllByRecursion P words → AllByRecursion Q words
each f [] h = h
each f (word ∷ words) h = (f word h.0, each f words h.1)

-- a test of each word, as a fact of each
pub each_true : (p : List ℕ → Bool) (words : List (List ℕ)) → list_all p words ≡ true → AllByRecursion (λ word. p word ≡ true) words
each_true p [] h = tt
each_true p (word ∷ words) h = let parts = and_parts (p word) (list_all p words) h in (parts.0, each_true p words parts.1)

pub true_each : (p : List ℕ → Bool) (words : List (List ℕ)) → AllByRecursion (λ word. p word ≡ true) words → list_all p words ≡ true
true_each p [] h = refl
true_each p (word ∷ words) h = and_from _ _ h.0 (true_each p words h.1)

-- parts of a split: there is one, and each has only bytes that pass a test, and not the byte at which it was split
abbrev pub IsParts : (ℕ → Bool) → ℕ → List (List ℕ) → Type 0
IsParts p c [] = ⊥
IsParts p c (part ∷ parts) = AllByRecursion (λ word. list_all (λ b. p b && not (eqb b c)) word ≡ true) (part ∷ parts)

first_part : (p : ℕ → Bool) (c b : ℕ) → p b ≡ true → eqb b c ≡ false → (parts : List (List ℕ)) → IsParts p c parts → IsParts p c (onto_first b parts)
first_part p c b pb other [] h = absurd h
first_part p c b pb other (part ∷ parts) h = (and_from _ _ (and_from _ _ pb (not_from_false (eqb b c) other)) h.0, h.1)

new_part : (p : ℕ → Bool) (c : ℕ) (parts : List (List ℕ)) → IsParts p c parts → IsParts p c ([] ∷ parts)
new_part p c [] h = absurd h
new_part p c (part ∷ parts) h = (refl, h)

pub split_all : (p : ℕ → Bool) (c : ℕ) (bs : List ℕ) → list_all p bs ≡ true → IsParts p c (slice_split (λ b. eqb b c) bs)
split_all p c [] h = (refl, tt)
split_all p c (b ∷ bs) h =
    let parts = and_parts (p b) (list_all p bs) h in
    let rest = split_all p c bs parts.1 in
    elim (cases_Bool (eqb b c)) [
      | inl same ↦ subst (IsParts p c) (sym (slice_split-cons_yes (λ x. eqb x c) b bs same)) (new_part p c (slice_split (λ x. eqb x c) bs) rest)
      | inr other ↦ subst (IsParts p c) (sym (slice_split-cons_no (λ x. eqb x c) b bs other)) (first_part p c b parts.0 other (slice_split (λ x. eqb x c) bs) rest)
    ]

-- where no place has the byte, the list lacks it
pub lacks_from_none : (c : ℕ) (bs : List ℕ) → length bs ≤ position_or_len (λ b. eqb b c) bs → lacks c bs ≡ true
lacks_from_none c [] h = refl
lacks_from_none c (b ∷ bs) h =
    elim (cases_Bool (eqb b c)) [
      | inl e ↦ absurd (omega (arith, rw e at h))
      | inr e ↦
          let rest : length bs ≤ position_or_len (λ x. eqb x c) bs = omega (arith, rw e at h) in
          and_from _ _ (not_from_false (eqb b c) e) (lacks_from_none c bs rest)
    ]

pub none_parts : (n : ℕ) (t : Bool) → cond t (Some n) None ≡ None → t ≡ false
none_parts n true e = absurd cc
none_parts n false e = refl

-- what stands behind a place is no longer than the list
pub rest_within : (bs : List ℕ) (i n : ℕ) → length bs ≤ n → length (take (length bs - i) (drop i bs)) ≤ n
rest_within bs i n h = omega (arith, ap length (take_rest bs i), length-drop i bs)
