-- Lists: their reverses, counts, tests and places.
use Rattle.std.proofs.Common.{◌≡◌, ℕ, zero, suc, ◌+◌, ◌<◌, ◌≤◌, List, [], ◌∷◌, ◌++◌, length, map, reverse, Bool, true, false, not, ◌||◌, cond, count_by, Some, None, refl, sym, ap, subst, ◌∙◌, inl, inr, arith}
use Rattle.std.specs.Prelude.{nat_lt, position, slice_get, unwrap_or, ◌⊎◌}
use Rattle.std.specs.List.{position_or_len, list_any, filter, find, AllByRecursion}
use Rattle.std.proofs.lemmas.Bool.{cases_Bool, lt-ltb, or_cases, or_left, or_right, or_parts, or_from, cond_both, cond-true, cond-false, both_ways, false≢true, not_from_true, not_from_false}
use Rattle.std.proofs.lemmas.List.{length-map}
use Rattle.std.proofs.lemmas.List.Folds.{list_any-append}
use Rattle.std.proofs.lemmas.List.Sums.{sum_by-append}
use mathlib.Core.List.{reverse-cons}

-- how many pass does not depend on the order
pub count_by_reverse : {X : Type 0} (p : X → Bool) (xs : List X) → count_by p (reverse xs) ≡ count_by p xs
count_by_reverse p [] = refl
count_by_reverse p (x ∷ xs) =
    let split : count_by p (reverse xs ++ x ∷ []) ≡ count_by p (reverse xs) + (0 + cond (p x) 1 0) = sum_by-append (λ y. cond (p y) 1 0) (reverse xs) (x ∷ []) in
    let front : count_by p (x ∷ xs) ≡ (0 + cond (p x) 1 0) + count_by p xs = sum_by-append (λ y. cond (p y) 1 0) (x ∷ []) xs in
    let before = count_by_reverse p xs in
    ap (λ ys. count_by p ys) (reverse-cons x xs) ∙ split ∙ omega (arith, before, front)

place_map : {X Y : Type 0} (f : X → Y) (p : Y → Bool) (xs : List X) → position_or_len p (map f xs) ≡ position_or_len (λ x. p (f x)) xs
place_map f p [] = refl
place_map f p (x ∷ xs) = ap (λ (n : ℕ). cond (not (p (f x))) (1 + n) 0) (place_map f p xs)

-- a place among the values of a list is a place in the list
pub position_map : {X Y : Type 0} (f : X → Y) (p : Y → Bool) (xs : List X) → position p (map f xs) ≡ position (λ x. p (f x)) xs
position_map f p xs =
    ap (λ (n : ℕ). cond (nat_lt (position_or_len p (map f xs)) n) (Some (position_or_len p (map f xs))) None) (length-map xs f)
    ∙ ap (λ (n : ℕ). cond (nat_lt n (length xs)) (Some n) None) (place_map f p xs)

-- an element counted at the front, and at the end
pub count_by_cons : {X : Type 0} (p : X → Bool) (x : X) (xs : List X) → count_by p (x ∷ xs) ≡ cond (p x) 1 0 + count_by p xs
count_by_cons p x xs =
    let front : count_by p (x ∷ xs) ≡ (0 + cond (p x) 1 0) + count_by p xs = sum_by-append (λ y. cond (p y) 1 0) (x ∷ []) xs in
    omega (arith, front)

pub count_by_push : {X : Type 0} (p : X → Bool) (xs : List X) (x : X) → count_by p (xs ++ x ∷ []) ≡ count_by p xs + cond (p x) 1 0
count_by_push p xs x =
    let split : count_by p (xs ++ x ∷ []) ≡ count_by p xs + (0 + cond (p x) 1 0) = sum_by-append (λ y. cond (p y) 1 0) xs (x ∷ []) in
    omega (arith, split)

-- what passes a test passes a weaker one
pub list_any_weaker : {X : Type 0} (p q : X → Bool) → ((x : X) → p x ≡ true → q x ≡ true) → (xs : List X) → list_any p xs ≡ true → list_any q xs ≡ true
list_any_weaker p q h [] e = e
list_any_weaker p q h (x ∷ xs) e =
    elim (or_cases (p x) (list_any p xs) e) [
      | inl here ↦ or_left (q x) (list_any q xs) (h x here)
      | inr later ↦ or_right (q x) (list_any q xs) (list_any_weaker p q h xs later)
    ]

-- what no element passes, no filtered one does
pub list_any_filter : {X : Type 0} (p q : X → Bool) (xs : List X) → list_any p xs ≡ false → list_any p (filter q xs) ≡ false
list_any_filter p q [] e = refl
list_any_filter p q (x ∷ xs) e =
    let parts = or_parts (p x) (list_any p xs) e in
    let rest = list_any_filter p q xs parts.1 in
    cond_both (q x) (x ∷ filter q xs) (filter q xs) (λ ys. list_any p ys ≡ false) (λ _. or_from (p x) (list_any p (filter q xs)) parts.0 rest) (λ _. rest)

pub list_any_push : {X : Type 0} (p : X → Bool) (xs : List X) (x : X) → list_any p (xs ++ x ∷ []) ≡ (list_any p xs || p x)
list_any_push p xs x = list_any-append p xs (x ∷ []) ∙ ap (λ b. list_any p xs || b) (or_false (p x)) where
  or_false : (b : Bool) → (b || false) ≡ b
  or_false true = refl
  or_false false = refl

-- the first element that passes
pub find_some : {X : Type 0} (p : X → Bool) (xs : List X) → list_any p xs ≡ true → (x : X) × (find p xs ≡ Some x) × (p x ≡ true)
find_some p [] e = absurd (false≢true e)
find_some p (x ∷ xs) e =
    elim (cases_Bool (p x)) [
      | inl here ↦ (x, cond-true (p x) (Some x) (find p xs) here, here)
      | inr not_here ↦
          elim (or_cases (p x) (list_any p xs) e) [
            | inl here ↦ absurd (both_ways (p x) not_here here)
            | inr later ↦ let found = find_some p xs later in (found.0, cond-false (p x) (Some x) (find p xs) not_here ∙ found.1, found.2)
          ]
    ]

-- where none passes, none counts
pub count_by_none : {X : Type 0} (p : X → Bool) (xs : List X) → list_any p xs ≡ false → count_by p xs ≡ 0
count_by_none p [] e = refl
count_by_none p (x ∷ xs) e =
    let parts = or_parts (p x) (list_any p xs) e in
    let rest = count_by_none p xs parts.1 in
    let front = count_by_cons p x xs in
    let here = cond-false {A = ℕ} (p x) 1 0 parts.0 in
    omega (arith, rest, front, here)

pub count_by_weaker : {X : Type 0} (p q : X → Bool) → ((x : X) → p x ≡ true → q x ≡ true) → (xs : List X) → count_by p xs ≤ count_by q xs
count_by_weaker p q h [] = omega arith
count_by_weaker p q h (x ∷ xs) =
    let rest = count_by_weaker p q h xs in
    let mine = count_by_cons p x xs in
    let yours = count_by_cons q x xs in
    elim (cases_Bool (p x)) [
      | inl here ↦ let one = cond-true {A = ℕ} (p x) 1 0 here in let other = cond-true {A = ℕ} (q x) 1 0 (h x here) in omega (arith, rest, mine, yours, one, other)
      | inr not_here ↦ let none = cond-false {A = ℕ} (p x) 1 0 not_here in omega (arith, rest, mine, yours, none)
    ]

-- the place of the first that passes is in the front, where none passes behind it
pub place_front : {X : Type 0} (p : X → Bool) (front back : List X) → list_any p back ≡ false → (position_or_len p (front ++ back) < length front) ⊎ (length (front ++ back) ≤ position_or_len p (front ++ back))
place_front p [] [] e = inr (omega arith)
place_front p [] (x ∷ back) e =
    let parts = or_parts (p x) (list_any p back) e in
    let step : position_or_len p (x ∷ back) ≡ 1 + position_or_len p back = cond-true (not (p x)) (1 + position_or_len p back) 0 (not_from_false (p x) parts.0) in
    elim (place_front p [] back parts.1) [ inl l ↦ absurd (omega (arith, l)) | inr r ↦ inr (omega (arith, r, step)) ]
place_front p (x ∷ front) back e =
    elim (cases_Bool (p x)) [
      | inl here ↦
          let first : position_or_len p (x ∷ front ++ back) ≡ 0 = cond-false (not (p x)) (1 + position_or_len p (front ++ back)) 0 (not_from_true (p x) here) in
          inl (omega (arith, first))
      | inr not_here ↦
          let step : position_or_len p (x ∷ front ++ back) ≡ 1 + position_or_len p (front ++ back) = cond-true (not (p x)) (1 + position_or_len p (front ++ back)) 0 (not_from_false (p x) not_here) in
          elim (place_front p front back e) [ inl l ↦ inl (omega (arith, l, step)) | inr r ↦ inr (omega (arith, r, step)) ]
    ]

pub same_value : {X : Type 0} (a b : X) → Some a ≡ Some b → a ≡ b
same_value a b e = cc

-- what holds of each element holds of the first that passes a test, of those that pass it, and of the one at a place
pub all_found : {X : Type 0} (P : X → Type 0) (p : X → Bool) (xs : List X) (x : X) → AllByRecursion P xs → find p xs ≡ Some x → P x
all_found P p [] x h e = absurd cc
all_found P p (y ∷ xs) x h e =
    elim (cases_Bool (p y)) [
      | inl here ↦ subst P (same_value y x (sym (cond-true (p y) (Some y) (find p xs) here) ∙ e)) h.0
      | inr not_here ↦ all_found P p xs x h.1 (sym (cond-false (p y) (Some y) (find p xs) not_here) ∙ e)
    ]

pub all_filtered : {X : Type 0} (P : X → Type 0) (p : X → Bool) (xs : List X) → AllByRecursion P xs → AllByRecursion (λ x. (p x ≡ true) × P x) (filter p xs)
all_filtered P p [] h = tt
all_filtered P p (x ∷ xs) h =
    let rest = all_filtered P p xs h.1 in
    cond_both (p x) (x ∷ filter p xs) (filter p xs) (AllByRecursion (λ y. (p y ≡ true) × P y)) (λ e. ((e, h.0), rest)) (λ _. rest)

pub all_got : {X : Type 0} (P : X → Type 0) (xs : List X) (i : ℕ) (x : X) → AllByRecursion P xs → slice_get xs i ≡ Some x → P x
all_got P [] i x h e = absurd cc
all_got P (y ∷ xs) zero x h e = subst P (same_value y x e) h.0
all_got P (y ∷ xs) (suc i) x h e = all_got P xs i x h.1 e

pub all_weakly : {X : Type 0} (P Q : X → Type 0) → ((x : X) → P x → Q x) → (xs : List X) → AllByRecursion P xs → AllByRecursion Q xs
all_weakly P Q f [] h = tt
all_weakly P Q f (x ∷ xs) h = (f x h.0, all_weakly P Q f xs h.1)

-- a found element passes
pub found_passes : {X : Type 0} (p : X → Bool) (xs : List X) (x : X) → find p xs ≡ Some x → p x ≡ true
found_passes p [] x e = absurd cc
found_passes p (y ∷ xs) x e =
    elim (cases_Bool (p y)) [
      | inl here ↦ subst (λ z. p z ≡ true) (same_value y x (sym (cond-true (p y) (Some y) (find p xs) here) ∙ e)) here
      | inr not_here ↦ found_passes p xs x (sym (cond-false (p y) (Some y) (find p xs) not_here) ∙ e)
    ]

-- where one passes, the one at the first place that passes does
record IsAtPlace {X : Type 0} (p : X → Bool) (xs : List X) (place : ℕ) : Type 0 where
  pub inside : place < length xs
  pub passes : (x : X) → slice_get xs place ≡ Some x → p x ≡ true

at_place : {X : Type 0} (p : X → Bool) (xs : List X) → list_any p xs ≡ true → IsAtPlace p xs (position_or_len p xs)
at_place p [] e = absurd (false≢true e)
at_place p (y ∷ xs) e =
    elim (cases_Bool (p y)) [
      | inl here ↦
          let first : position_or_len p (y ∷ xs) ≡ 0 = cond-false (not (p y)) (1 + position_or_len p xs) 0 (not_from_true (p y) here) in
          subst (IsAtPlace p (y ∷ xs)) (sym first) (record { inside = omega arith; passes = λ x is. subst (λ z. p z ≡ true) (same_value y x is) here })
      | inr not_here ↦
          let later : list_any p xs ≡ true = elim (or_cases (p y) (list_any p xs) e) [ inl here ↦ absurd (both_ways (p y) not_here here) | inr l ↦ l ] in
          let rest = at_place p xs later in
          let step : position_or_len p (y ∷ xs) ≡ suc (position_or_len p xs) = cond-true (not (p y)) (1 + position_or_len p xs) 0 (not_from_false (p y) not_here) ∙ omega arith in
          let inside : suc (position_or_len p xs) < length (y ∷ xs) = omega (arith, rest.inside) in
          subst (IsAtPlace p (y ∷ xs)) (sym step) (record { inside = inside; passes = rest.passes })
    ]

pub number_passes : {X : Type 0} (p : X → Bool) (xs : List X) (x : X) → list_any p xs ≡ true → slice_get xs (unwrap_or (position p xs) 0) ≡ Some x → p x ≡ true
number_passes p xs x some e =
    let at = at_place p xs some in
    let place = position_or_len p xs in
    let is : unwrap_or (position p xs) 0 ≡ place = ap (λ o. unwrap_or o 0) (cond-true (nat_lt place (length xs)) (Some place) None (lt-ltb place (length xs) at.inside)) in
    at.passes x (ap (λ n. slice_get xs n) (sym is) ∙ e)

-- where one passes alone, whoever passes is the one that is found
pub only_found : {X : Type 0} (p : X → Bool) (xs : List X) (x : X) → count_by p xs ≡ 1 → find p xs ≡ Some x → AllByRecursion (λ y. p y ≡ true → y ≡ x) xs
only_found p [] x one found = tt
only_found {X} p (y ∷ xs) x one found =
    let counted = count_by_cons p y xs in
    elim (cases_Bool (p y)) [
      | inl here ↦
          let mine = cond-true {A = ℕ} (p y) 1 0 here in
          let none : count_by p xs ≡ 0 = omega (arith, counted, one, mine) in
          ((λ e. same_value y x (sym (cond-true (p y) (Some y) (find p xs) here) ∙ found)), none_pass xs none)
      | inr not_here ↦
          let none = cond-false {A = ℕ} (p y) 1 0 not_here in
          ((λ e. absurd (both_ways (p y) not_here e)), only_found p xs x (omega (arith, counted, one, none)) (sym (cond-false (p y) (Some y) (find p xs) not_here) ∙ found))
    ] where
      none_pass : (zs : List X) → count_by p zs ≡ 0 → AllByRecursion (λ z. p z ≡ true → z ≡ x) zs
      none_pass [] e = tt
      none_pass (z ∷ zs) e =
          let counts = count_by_cons p z zs in
          let rest : count_by p zs ≡ 0 = omega (arith, counts, e) in
          ((λ passes. let m = cond-true {A = ℕ} (p z) 1 0 passes in absurd (omega (arith, counts, m, e))), none_pass zs rest)
