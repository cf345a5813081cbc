-- Places that rise from word to word.
use Rattle.std.proofs.Common.{◌≡◌, ℕ, ◌+◌, ◌<◌, ◌≤◌, List, [], ◌∷◌, ◌++◌, ◌⊎◌, inl, inr, arith}
use Rattle.std.specs.Prelude.{Any}
use Rattle.idl_reader.specs.declared.idl.Word.{Word}
use Rattle.idl_check.proofs.Lists.{none_of_nil, any_cases}

-- the words' places rise, and the first is not below this
abbrev pub Rises : ℕ → List Word → Type 0
Rises low [] = Unit {0}
Rises low (w ∷ ws) = (low ≤ w.place) × Rises (w.place + 1) ws

-- the place of one of the words
abbrev pub IsPlaceOf : List Word → ℕ → Type 0
IsPlaceOf words place = Any (λ word. place ≡ word.place) words

pub rises_lower : (low high : ℕ) (words : List Word) → low ≤ high → Rises high words → Rises low words
rises_lower low high [] below r = tt
rises_lower low high (w ∷ ws) below r = (omega (arith, r.0), r.1)

pub above : (low : ℕ) (words : List Word) → Rises low words → (place : ℕ) → IsPlaceOf words place → low ≤ place
above low [] r place a = absurd (none_of_nil (λ (word : Word). place ≡ word.place) a)
above low (w ∷ ws) r place a = cases (any_cases (λ (word : Word). place ≡ word.place) w ws a) (λ later. above (w.place + 1) ws r.1 place later) where
  cases : (place ≡ w.place) ⊎ IsPlaceOf ws place → (IsPlaceOf ws place → w.place + 1 ≤ place) → low ≤ place
  cases (inl same) others = omega (arith, r.0)
  cases (inr later) others = omega (arith, r.0, others later)

pub rises_front : (low : ℕ) (xs ys : List Word) → Rises low (xs ++ ys) → Rises low xs
rises_front low [] ys r = tt
rises_front low (x ∷ xs) ys r = (r.0, rises_front (x.place + 1) xs ys r.1)

pub rises_rest : (low : ℕ) (xs ys : List Word) → Rises low (xs ++ ys) → Rises low ys
rises_rest low [] ys r = r
rises_rest low (x ∷ xs) ys r = rises_lower low (x.place + 1) ys (omega (arith, r.0)) (rises_rest (x.place + 1) xs ys r.1)

-- what stands before has a smaller place
pub before : (low : ℕ) (xs ys : List Word) → Rises low (xs ++ ys) → (p q : ℕ) → IsPlaceOf xs p → IsPlaceOf ys q → p < q
before low [] ys r p q a b = absurd (none_of_nil (λ (word : Word). p ≡ word.place) a)
before low (x ∷ xs) ys r p q a b = cases (any_cases (λ (word : Word). p ≡ word.place) x xs a) (λ later. before (x.place + 1) xs ys r.1 p q later b) where
  cases : (p ≡ x.place) ⊎ IsPlaceOf xs p → (IsPlaceOf xs p → p < q) → p < q
  cases (inl same) others = let high = above (x.place + 1) ys (rises_rest (x.place + 1) xs ys r.1) q b in omega arith
  cases (inr later) others = others later

-- some of the words, in their order
pub data IsPart : List Word → List Word → Type 0 where
  Ends : IsPart [] []
  Keeps : (w : Word) (some all : List Word) → IsPart some all → IsPart (w ∷ some) (w ∷ all)
  Skips : (w : Word) (some all : List Word) → IsPart some all → IsPart some (w ∷ all)

pub rises_part : (low : ℕ) (some all : List Word) → IsPart some all → Rises low all → Rises low some
rises_part low some all Ends r = tt
rises_part low some all (Keeps w s a part) r = (r.0, rises_part (w.place + 1) s a part r.1)
rises_part low some all (Skips w s a part) r = rises_lower low (w.place + 1) s (omega (arith, r.0)) (rises_part (w.place + 1) s a part r.1)

pub whole : (words : List Word) → IsPart words words
whole [] = Ends
whole (w ∷ ws) = Keeps w ws ws (whole ws)

pub nothing : (words : List Word) → IsPart [] words
nothing [] = Ends
nothing (w ∷ ws) = Skips w [] ws (nothing ws)

pub part_append : (a b x y : List Word) → IsPart a x → IsPart b y → IsPart (a ++ b) (x ++ y)
part_append a b x y Ends q = q
part_append a b x y (Keeps w s t p) q = Keeps w (s ++ b) (t ++ y) (part_append s b t y p q)
part_append a b x y (Skips w s t p) q = Skips w (s ++ b) (t ++ y) (part_append s b t y p q)
