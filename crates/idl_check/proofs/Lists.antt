-- What holds of some element of a list, by recursion on the list.
use Rattle.std.proofs.Common.{◌≡◌, ℕ, zero, suc, ◌<◌, List, [], ◌∷◌, ◌++◌, length, map, take, get_or, Bool, ◌||◌, Some, ◌⊎◌, inl, inr, refl, sym, ap, subst, arith}
use Rattle.std.specs.Prelude.{slice_get, All, Any}
use Rattle.std.specs.List.{flat_map, list_any}

module _ {X : Type 0} (P : X → Type 0) where
  pub none_of_nil : Any P [] → ⊥
  none_of_nil a = let below = a.2 in omega arith

  pub any_here : (x : X) (xs : List X) → P x → Any P (x ∷ xs)
  any_here x xs p = (0, x, omega arith, refl, p)

  pub any_later : (x : X) (xs : List X) → Any P xs → Any P (x ∷ xs)
  any_later x xs a = let below = a.2 in (suc a.0, a.1, omega arith, a.3, a.4)

  at_cases : (x : X) (xs : List X) (k : ℕ) (y : X) → k < length (x ∷ xs) → get_or (x ∷ xs) k y ≡ y → P y → P x ⊎ Any P xs
  at_cases x xs zero y below is p = inl (subst (λ (z : X). P z) (sym is) p)
  at_cases x xs (suc k) y below is p = inr (k, y, omega arith, is, p)

  pub any_cases : (x : X) (xs : List X) → Any P (x ∷ xs) → P x ⊎ Any P xs
  any_cases x xs a = at_cases x xs a.0 a.1 a.2 a.3 a.4

  pub any_at : (xs : List X) (k : ℕ) (x : X) → slice_get xs k ≡ Some x → P x → Any P xs
  any_at [] k x at p = absurd cc
  any_at (y ∷ ys) zero x at p = let same : x ≡ y = cc in any_here y ys (subst (λ (z : X). P z) same p)
  any_at (y ∷ ys) (suc k) x at p = any_later y ys (any_at ys k x at p)

  -- where it stands
  pub at_any : (xs : List X) → Any P xs → (k : ℕ) × (x : X) × (slice_get xs k ≡ Some x) × P x
  at_any [] a = absurd (none_of_nil a)
  at_any (y ∷ ys) a = cases (any_cases y ys a) (λ later. at_any ys later) where
    cases : P y ⊎ Any P ys → (Any P ys → (k : ℕ) × (x : X) × (slice_get ys k ≡ Some x) × P x) → (k : ℕ) × (x : X) × (slice_get (y ∷ ys) k ≡ Some x) × P x
    cases (inl p) others = (0, y, refl, p)
    cases (inr later) others = let found = others later in (suc found.0, found.1, found.2, found.3)

  pub any_left : (xs ys : List X) → Any P xs → Any P (xs ++ ys)
  any_left [] ys a = absurd (none_of_nil a)
  any_left (x ∷ xs) ys a = cases (any_cases x xs a) (λ later. any_left xs ys later) where
    cases : P x ⊎ Any P xs → (Any P xs → Any P (xs ++ ys)) → Any P (x ∷ (xs ++ ys))
    cases (inl p) others = any_here x (xs ++ ys) p
    cases (inr later) others = any_later x (xs ++ ys) (others later)

  pub any_right : (xs ys : List X) → Any P ys → Any P (xs ++ ys)
  any_right [] ys a = a
  any_right (x ∷ xs) ys a = any_later x (xs ++ ys) (any_right xs ys a)

  pub any_either : (xs ys : List X) → Any P (xs ++ ys) → Any P xs ⊎ Any P ys
  any_either [] ys a = inr a
  any_either (x ∷ xs) ys a = cases (any_cases x (xs ++ ys) a) (λ later. any_either xs ys later) where
    further : Any P xs ⊎ Any P ys → Any P (x ∷ xs) ⊎ Any P ys
    further (inl left) = inl (any_later x xs left)
    further (inr right) = inr right

    cases : P x ⊎ Any P (xs ++ ys) → (Any P (xs ++ ys) → Any P xs ⊎ Any P ys) → Any P (x ∷ xs) ⊎ Any P ys
    cases (inl p) others = inl (any_here x xs p)
    cases (inr later) others = further (others later)

  -- of some element of a prefix
  pub any_take : (n : ℕ) (xs : List X) → Any P (take n xs) → Any P xs
  any_take zero xs a = absurd (none_of_nil a)
  any_take (suc n) [] a = absurd (none_of_nil a)
  any_take (suc n) (x ∷ xs) a = cases (any_cases x (take n xs) a) (λ later. any_take n xs later) where
    cases : P x ⊎ Any P (take n xs) → (Any P (take n xs) → Any P xs) → Any P (x ∷ xs)
    cases (inl p) others = any_here x xs p
    cases (inr later) others = any_later x xs (others later)

pub any_weaker : {X : Type 0} (P Q : X → Type 0) → ((x : X) → P x → Q x) → (xs : List X) → Any P xs → Any Q xs
any_weaker P Q f xs a = (a.0, a.1, a.2, a.3, f a.1 a.4)

module _ {X Y : Type 0} (P : Y → Type 0) (f : X → Y) where
  pub any_map : (xs : List X) → Any (λ x. P (f x)) xs → Any P (map f xs)
  any_map [] a = absurd (none_of_nil (λ x. P (f x)) a)
  any_map (x ∷ xs) a = cases (any_cases (λ x. P (f x)) x xs a) (λ later. any_map xs later) where
    cases : P (f x) ⊎ Any (λ x. P (f x)) xs → (Any (λ x. P (f x)) xs → Any P (map f xs)) → Any P (map f (x ∷ xs))
    cases (inl p) others = any_here P (f x) (map f xs) p
    cases (inr later) others = any_later P (f x) (map f xs) (others later)

  pub map_any : (xs : List X) → Any P (map f xs) → Any (λ x. P (f x)) xs
  map_any [] a = absurd (none_of_nil P a)
  map_any (x ∷ xs) a = cases (any_cases P (f x) (map f xs) a) (λ later. map_any xs later) where
    cases : P (f x) ⊎ Any P (map f xs) → (Any P (map f xs) → Any (λ x. P (f x)) xs) → Any (λ x. P (f x)) (x ∷ xs)
    cases (inl p) others = any_here (λ x. P (f x)) x xs p
    cases (inr later) others = any_later (λ x. P (f x)) x xs (others later)

module _ {X Y : Type 0} (P : Y → Type 0) (f : X → List Y) where
  pub any_flat_map : (xs : List X) → Any (λ x. Any P (f x)) xs → Any P (flat_map f xs)
  any_flat_map [] a = absurd (none_of_nil (λ x. Any P (f x)) a)
  any_flat_map (x ∷ xs) a = cases (any_cases (λ x. Any P (f x)) x xs a) (λ later. any_flat_map xs later) where
    cases : Any P (f x) ⊎ Any (λ x. Any P (f x)) xs → (Any (λ x. Any P (f x)) xs → Any P (flat_map f xs)) → Any P (f x ++ flat_map f xs)
    cases (inl here) others = any_left P (f x) (flat_map f xs) here
    cases (inr later) others = any_right P (f x) (flat_map f xs) (others later)

  pub flat_map_any : (xs : List X) → Any P (flat_map f xs) → Any (λ x. Any P (f x)) xs
  flat_map_any [] a = absurd (none_of_nil P a)
  flat_map_any (x ∷ xs) a = cases (any_either P (f x) (flat_map f xs) a) (λ later. flat_map_any xs later) where
    cases : Any P (f x) ⊎ Any P (flat_map f xs) → (Any P (flat_map f xs) → Any (λ x. Any P (f x)) xs) → Any (λ x. Any P (f x)) (x ∷ xs)
    cases (inl here) others = any_here (λ x. Any P (f x)) x xs here
    cases (inr later) others = any_later (λ x. Any P (f x)) x xs (others later)

-- where nothing fails, each holds
pub all_unless : {X : Type 0} (P Q : X → Type 0) → ((x : X) → (Q x → ⊥) → P x) → (xs : List X) → (Any Q xs → ⊥) → All P xs
all_unless {X} P Q f xs none = λ k d below. f (get_or xs k d) (λ q. none (k, get_or xs k d, below, default xs k d below, q)) where
  default : (xs : List X) (k : ℕ) (d : X) → k < length xs → get_or xs k (get_or xs k d) ≡ get_or xs k d
  default [] k d below = absurd (omega arith)
  default (x ∷ xs) zero d below = refl
  default (x ∷ xs) (suc k) d below = default xs k d (omega arith)

pub none_where_all : {X : Type 0} (P Q : X → Type 0) → ((x : X) → P x → Q x → ⊥) → (xs : List X) → All P xs → Any Q xs → ⊥
none_where_all P Q f xs all a = f a.1 (subst P a.3 (all a.0 a.1 a.2)) a.4

-- a test of what a function gives
pub list_any-map : {X Y : Type 0} (test : Y → Bool) (f : X → Y) (xs : List X) → list_any test (map f xs) ≡ list_any (λ x. test (f x)) xs
list_any-map test f [] = refl
list_any-map test f (x ∷ xs) = ap (λ b. test (f x) || b) (list_any-map test f xs)
