-- The first element that passes a test, before and after one is replaced or appended.
use Rattle.std.proofs.Common.{◌≡◌, ℕ, suc, ◌+◌, ◌<◌, ◌≤◌, ltb, List, [], ◌∷◌, ◌++◌, length, get_or, find, position, Bool, true, false, cond, not, Option, Some, None, refl, sym, ap, subst, set, ◌∙◌, arith, length-append}
use Rattle.std.specs.List.{position_or_len}
use Rattle.std.specs.Option.{option_or}
use Rattle.std.proofs.lemmas.Bool.{ltb-true, ltb-false, lt-ltb, eq-eqb}
use Rattle.std.proofs.lemmas.Option.{slice_get_past}
use Rattle.std.proofs.lemmas.List.Folds.{find_at, find-set, find_past, find-append, position_or_len_push, length-prefix_len}
use Rattle.std.proofs.lemmas.List.{length-take}

pub record Finds {X : Type 0} (p : X → Bool) (xs : List X) (i : ℕ) : Type 0 where
  pub item : X
  pub found : find p xs ≡ Some item
  pub at : (d : X) → get_or xs i d ≡ item
  pub passes : p item ≡ true

later : {X : Type 0} (p : X → Bool) (x : X) (xs : List X) (n : ℕ) → p x ≡ false → Finds p xs n → Finds p (x ∷ xs) (suc n)
later p x xs n e f = record { item = f.item; found = rw e f.found; at = f.at; passes = f.passes }

first_by : {X : Type 0} (p : X → Bool) (x : X) (xs : List X) (b : Bool) → p x ≡ b → (position_or_len p xs < length xs → Finds p xs (position_or_len p xs)) → position_or_len p (x ∷ xs) < suc (length xs) → Finds p (x ∷ xs) (position_or_len p (x ∷ xs))
first_by p x xs true e more lt = rw e (record { item = x; found = rw e refl; at = λ d. refl; passes = e })
first_by p x xs false e more lt =
    let n : ℕ = position_or_len p xs in
    let small : 1 + n < suc (length xs) = rw e at lt in
    let f = more (omega (arith, small)) in
    let next : Finds p (x ∷ xs) (suc n) = later p x xs n e f in
    let one : suc n ≡ 1 + n = omega arith in
    rw e (subst (λ (k : ℕ). Finds p (x ∷ xs) k) one next)

first : {X : Type 0} (p : X → Bool) (xs : List X) → position_or_len p xs < length xs → Finds p xs (position_or_len p xs)
first p [] lt = absurd (omega arith)
first p (x ∷ xs) lt = first_by p x xs (p x) refl (first p xs) lt

some_parts : (b : Bool) (i j : ℕ) → cond b (Some i) None ≡ Some j → (b ≡ true) × (i ≡ j)
some_parts true i j e = (refl, cc)
some_parts false i j e = absurd cc

none_part : (b : Bool) (i : ℕ) → cond b (Some i) None ≡ None → b ≡ false
none_part true i e = absurd cc
none_part false i e = refl

-- what stands at the first position is what is found
pub finds : {X : Type 0} (p : X → Bool) (xs : List X) (i : ℕ) → position p xs ≡ Some i → Finds p xs i
finds p xs i e =
    let h = some_parts (ltb (position_or_len p xs) (length xs)) (position_or_len p xs) i e in
    subst (λ (n : ℕ). Finds p xs n) h.1 (first p xs (ltb-true _ _ h.0))

pub place_within : {X : Type 0} (p : X → Bool) (xs : List X) (i : ℕ) → position p xs ≡ Some i → i < length xs
place_within p xs i e =
    let h = some_parts (ltb (position_or_len p xs) (length xs)) (position_or_len p xs) i e in
    subst (λ (n : ℕ). n < length xs) h.1 (ltb-true _ _ h.0)

pub finds_none : {X : Type 0} (p : X → Bool) (xs : List X) → position p xs ≡ None → find p xs ≡ None
finds_none p xs e = find_at p xs ∙ slice_get_past xs (position_or_len p xs) (ltb-false _ _ (none_part _ _ e))

-- the element at the first position is replaced by one that passes too
pub replaced : {X : Type 0} (p : X → Bool) (xs : List X) (i : ℕ) (y : X) → position p xs ≡ Some i → p y ≡ true → find p (set xs i y) ≡ Some y
replaced p xs i y e passes =
    let h = some_parts (ltb (position_or_len p xs) (length xs)) (position_or_len p xs) i e in
    find-set p xs i y (sym h.1) (place_within p xs i e) passes

-- an element that does not pass is replaced by another
pub passed_over : {X : Type 0} (q : X → Bool) (xs : List X) (i : ℕ) (x y : X) → x ≡ get_or xs i x → q x ≡ false → q y ≡ false → find q (set xs i y) ≡ find q xs
passed_over q xs i x y is before after = find_past q xs i y x (ap q (sym is) ∙ before) after

-- an element is appended where none passes, or one that does not pass
pub appended : {X : Type 0} (p : X → Bool) (xs : List X) (y : X) → position p xs ≡ None → p y ≡ true → find p (xs ++ y ∷ []) ≡ Some y
appended p xs y e passes = rw (find-append p xs (y ∷ []), finds_none p xs e, passes) refl

or_none : {X : Type 0} (o : Option X) → option_or o None ≡ o
or_none None = refl
or_none (Some x) = refl

pub appended_other : {X : Type 0} (q : X → Bool) (xs : List X) (y : X) → q y ≡ false → find q (xs ++ y ∷ []) ≡ find q xs
appended_other q xs y fails = rw (find-append q xs (y ∷ []), fails) (or_none (find q xs))

-- the place of an element that is appended where none passes
pub place_added : {X : Type 0} (p : X → Bool) (xs : List X) (y : X) → position p xs ≡ None → p y ≡ true → position p (xs ++ y ∷ []) ≡ Some (length xs)
place_added p xs y e passes =
    let past : length xs ≤ position_or_len p xs = ltb-false _ _ (none_part _ _ e) in
    let within : position_or_len p xs ≤ length xs = omega (arith, length-prefix_len (λ x. not (p x)) xs, length-take (position_or_len p xs) xs) in
    let at : position_or_len p xs ≡ length xs = omega arith in
    let here : position_or_len p (xs ++ y ∷ []) ≡ length xs = position_or_len_push p xs y ∙ rw (at, eq-eqb (length xs) (length xs) refl, passes) (omega arith) in
    let longer : length xs < length (xs ++ y ∷ []) = rw length-append (omega arith) in
    rw (here, lt-ltb (length xs) (length (xs ++ y ∷ [])) longer) refl
