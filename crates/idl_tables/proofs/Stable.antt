-- Bases are followed deep enough: the line of each declaration is those of its bases, each declaration once, and then itself.
use Rattle.std.proofs.Common.{◌≡◌, ℕ, zero, suc, ◌+◌, ◌<◌, ◌≤◌, List, [], ◌∷◌, ◌++◌, length, get_or, ◌⊎◌, inl, inr, refl, sym, ap, ◌∙◌, add-zero, arith}
use Rattle.std.specs.List.{AllByRecursion}
use Rattle.std.proofs.lemmas.Bool.{cases_lt}
use Rattle.std.proofs.lemmas.List.{length-map}
use Rattle.idl_tables.specs.Lines.{once_after, merged, joined_line, next_from, lines_to}

get_or_beyond : {X : Type 0} (xs : List X) (i : ℕ) (d : X) → length xs ≤ i → get_or xs i d ≡ d
get_or_beyond [] i d h = refl
get_or_beyond (x ∷ xs) zero d h = absurd (omega arith)
get_or_beyond (x ∷ xs) (suc i) d h = get_or_beyond xs i d (omega arith)

next_at : (lines : List (List ℕ)) (k : ℕ) (spots : List (List ℕ)) (i : ℕ) → i < length spots → get_or (next_from lines k spots) i [] ≡ joined_line lines (get_or spots i []) (k + i)
next_at lines k [] i below = absurd (omega arith)
next_at lines k (s ∷ ss) zero below = ap (λ n. joined_line lines s n) (sym (add-zero k))
next_at lines k (s ∷ ss) (suc i) below =
    let place : k + 1 + i ≡ k + suc i = omega arith in
    next_at lines (k + 1) ss i (omega arith) ∙ ap (λ n. joined_line lines (get_or ss i []) n) place

length-next_from : (lines : List (List ℕ)) (k : ℕ) (spots : List (List ℕ)) → length (next_from lines k spots) ≡ length spots
length-next_from lines k [] = refl
length-next_from lines k (s ∷ ss) = ap (λ n. suc n) (length-next_from lines (k + 1) ss)

pub length-lines_to : (n : ℕ) (spots : List (List ℕ)) → length (lines_to n spots) ≡ length spots
unfolding lines_to
length-lines_to zero spots = length-map spots _
length-lines_to (suc n) spots = length-next_from (lines_to n spots) 0 spots

merged_same : (a b : List (List ℕ)) (before bases : List ℕ) → AllByRecursion (λ x. get_or a x [] ≡ get_or b x []) bases → merged a before bases ≡ merged b before bases
merged_same a b before [] h = refl
merged_same a b before (x ∷ xs) h = ap (λ l. merged a (once_after before l) xs) h.0 ∙ merged_same a b (once_after before (get_or b x [])) xs h.1

joined_same : (a b : List (List ℕ)) (bases : List ℕ) (i : ℕ) → AllByRecursion (λ x. get_or a x [] ≡ get_or b x []) bases → joined_line a bases i ≡ joined_line b bases i
unfolding joined_line
joined_same a b bases i h = ap (λ l. l ++ i ∷ []) (merged_same a b [] bases h)

-- a number for each declaration that falls from it to its bases
pub record Falls (rank : ℕ → ℕ) (spots : List (List ℕ)) : Type 0 where
  pub falls : (i : ℕ) → i < length spots → AllByRecursion (λ b. b < length spots → rank b < rank i) (get_or spots i [])

pub each_same : {X : Type 0} (a b : List (List X)) (n low : ℕ) (rank : ℕ → ℕ) (bases : List ℕ) → length a ≡ n → length b ≡ n → ((x : ℕ) → x < n → rank x < low → get_or a x [] ≡ get_or b x []) → AllByRecursion (λ x. x < n → rank x < low) bases
    → AllByRecursion (λ x. get_or a x [] ≡ get_or b x []) bases
each_same a b n low rank [] p q same h = tt
each_same {X} a b n low rank (x ∷ xs) p q same h = (here (cases_lt x n), each_same a b n low rank xs p q same h.1) where
  here : (x < n) ⊎ (n ≤ x) → get_or a x [] ≡ get_or b x []
  here (inl below) = same x below (h.0 below)
  here (inr beyond) = get_or_beyond a x [] (omega arith) ∙ sym (get_or_beyond b x [] (omega arith))

pub stable : (rank : ℕ → ℕ) (spots : List (List ℕ)) → Falls rank spots → (m i : ℕ) → i < length spots → rank i < m → get_or (lines_to m spots) i [] ≡ get_or (lines_to (suc m) spots) i []
unfolding lines_to
stable rank spots f zero i below low = absurd (omega arith)
stable rank spots f (suc m) i below low =
    next_at (lines_to m spots) 0 spots i below
    ∙ joined_same (lines_to m spots) (lines_to (suc m) spots) (get_or spots i []) (0 + i)
    (each_same (lines_to m spots) (lines_to (suc m) spots) (length spots) (rank i) rank (get_or spots i []) (length-lines_to m spots) (length-lines_to (suc m) spots) (λ x within lower. stable rank spots f m x within (omega arith)) (f.falls i below))
    ∙ sym (next_at (lines_to (suc m) spots) 0 spots i below)

-- so the lines are those that the equation asks for
pub line_is : (rank : ℕ → ℕ) (spots : List (List ℕ)) → Falls rank spots → (n i : ℕ) → i < length spots → rank i < n → get_or (lines_to n spots) i [] ≡ joined_line (lines_to n spots) (get_or spots i []) i
unfolding lines_to
line_is rank spots f n i below low =
    let zero_add : 0 + i ≡ i = omega arith in
    stable rank spots f n i below low ∙ next_at (lines_to n spots) 0 spots i below ∙ ap (λ k. joined_line (lines_to n spots) (get_or spots i []) k) zero_add
