-- Laws of tests over lists.
use Rattle.std.proofs.Common.{◌≡◌, ℕ, zero, suc, ◌+◌, ◌<◌, ◌≤◌, List, [], ◌∷◌, length, get_or, Bool, true, false, cond, ltb, ltb-true, ltb-false, Option, Some, None, refl, ap, arith, remove}
use Rattle.std.specs.Prelude.{find, position, not, ◌||◌}
use Rattle.std.specs.List.{list_any, Contains, position_or_len}
use Rattle.std.proofs.lemmas.Option.{cond_some}
use Rattle.vmm_space.specs.declared.regions.Region.{Region}
use Rattle.vmm_space.specs.Regions.{is_named}
use Rattle.vmm_space.specs.Spaces.{without_named}
use Rattle.std.proofs.lemmas.Bool.{false_from_ne_true}
use Rattle.std.proofs.lemmas.List.Folds.{list_any_at}

passes_if : {X : Type 0} (p : X → Bool) (b : Bool) (y x : X) (rest : Option X) → p y ≡ b → (rest ≡ Some x → p x ≡ true) → cond b (Some y) rest ≡ Some x → p x ≡ true
passes_if p true y x rest is then h = cc
passes_if p false y x rest is then h = then h

-- what is found passes the test
pub find_passes : {X : Type 0} (p : X → Bool) (xs : List X) (x : X) → find p xs ≡ Some x → p x ≡ true
find_passes p [] x h = cc
find_passes p (y ∷ ys) x h = passes_if p (p y) y x (find p ys) refl (find_passes p ys x) h

-- if none passes, each fails
pub each_fails : {X : Type 0} (p : X → Bool) (xs : List X) (k : ℕ) (d : X) → list_any p xs ≡ false → k < length xs → p (get_or xs k d) ≡ false
each_fails p xs k d none here =
    false_from_ne_true (p (get_or xs k d)) (λ (passes : p (get_or xs k d) ≡ true). let some : list_any p xs ≡ true = list_any_at p xs k d here passes in cc)

-- a first reason that is none fails, and so do the further ones
pub record NoReason {X : Type 0} (b : Bool) (rest : Option X) : Type 0 where
  pub fails : b ≡ false
  pub further : rest ≡ None

pub no_reason : {X : Type 0} (b : Bool) (reason : X) (rest : Option X) → cond b (Some reason) rest ≡ None → NoReason b rest
no_reason true reason rest none = absurd cc
no_reason false reason rest none = record { fails = refl; further = none }

-- what stands in the rest stands in the whole
contains_behind : {X : Type 0} (y : X) (ys : List X) (x : X) → Contains ys x → Contains (y ∷ ys) x
contains_behind y ys x at = (suc at.0, omega (arith, at.1), at.2)

found_step : {X : Type 0} (b : Bool) (y : X) (ys : List X) (x : X) (rest : Option X) → (rest ≡ Some x → Contains ys x) → cond b (Some y) rest ≡ Some x → Contains (y ∷ ys) x
found_step true y ys x rest then found = (0, omega arith, cc)
found_step false y ys x rest then found = contains_behind y ys x (then found)

-- what is found is there
pub find_contains : {X : Type 0} (p : X → Bool) (xs : List X) (x : X) → find p xs ≡ Some x → Contains xs x
find_contains p [] x found = absurd cc
find_contains p (y ∷ ys) x found = found_step (p y) y ys x (find p ys) (find_contains p ys x) found

none_if : (b : Bool) (n : ℕ) → cond b (Some n) None ≡ None → b ≡ false
none_if true n h = absurd cc
none_if false n h = refl

none_step : (b rest : Bool) (n first : ℕ) → suc n ≤ cond (not b) (1 + first) 0 → (n ≤ first → rest ≡ false) → (b || rest) ≡ false
none_step true rest n first few then = absurd (omega arith)
none_step false rest n first few then = then (omega arith)

none_passes : {X : Type 0} (p : X → Bool) (xs : List X) → length xs ≤ position_or_len p xs → list_any p xs ≡ false
none_passes p [] few = refl
none_passes p (x ∷ xs) few = none_step (p x) (list_any p xs) (length xs) (position_or_len p xs) few (none_passes p xs)

-- what has no place is not there
pub unplaced : {X : Type 0} (p : X → Bool) (xs : List X) → position p xs ≡ None → list_any p xs ≡ false
unplaced p xs none = none_passes p xs (ltb-false (position_or_len p xs) (length xs) (none_if (ltb (position_or_len p xs) (length xs)) (position_or_len p xs) none))

some_step : (b rest : Bool) (n first : ℕ) → cond (not b) (1 + first) 0 < suc n → (first < n → rest ≡ true) → (b || rest) ≡ true
some_step true rest n first few then = refl
some_step false rest n first few then = then (omega arith)

some_passes : {X : Type 0} (p : X → Bool) (xs : List X) → position_or_len p xs < length xs → list_any p xs ≡ true
some_passes p [] few = absurd (omega arith)
some_passes p (x ∷ xs) few = some_step (p x) (list_any p xs) (length xs) (position_or_len p xs) few (some_passes p xs)

-- what has a place is there
pub placed : {X : Type 0} (p : X → Bool) (xs : List X) (place : ℕ) → position p xs ≡ Some place → list_any p xs ≡ true
placed p xs place some =
    let first = cond_some (ltb (position_or_len p xs) (length xs)) (position_or_len p xs) place some in
    some_passes p xs (ltb-true (position_or_len p xs) (length xs) first.0)

removed_step : (b : Bool) (region : Region) (regions : List Region) (place first : ℕ) (others : List Region) → cond (not b) (1 + first) 0 ≡ place → place < length (region ∷ regions)
    → ((at : ℕ) → first ≡ at → at < length regions → remove regions at ≡ others) → remove (region ∷ regions) place ≡ cond b regions (region ∷ others)
removed_step true region regions zero first others is lt then = refl
removed_step true region regions (suc place) first others is lt then = absurd (omega arith)
removed_step false region regions zero first others is lt then = absurd (omega arith)
removed_step false region regions (suc place) first others is lt then = ap (λ (rest : List Region). region ∷ rest) (then place (omega arith) (omega arith))

removed_at : (name : List ℕ) (regions : List Region) (place : ℕ) → position_or_len (is_named name) regions ≡ place → place < length regions → remove regions place ≡ without_named name regions
removed_at name [] place is lt = absurd (omega arith)
removed_at name (region ∷ regions) place is lt =
    removed_step (is_named name region) region regions place (position_or_len (is_named name) regions) (without_named name regions) is lt (λ at same below. removed_at name regions at same below)

-- the first region of a name is taken away
pub removed : (name : List ℕ) (regions : List Region) (place : ℕ) → position (is_named name) regions ≡ Some place → place < length regions → remove regions place ≡ without_named name regions
removed name regions place some lt =
    let first = cond_some (ltb (position_or_len (is_named name) regions) (length regions)) (position_or_len (is_named name) regions) place some in
    removed_at name regions place first.1 lt
