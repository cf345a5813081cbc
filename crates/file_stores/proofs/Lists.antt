-- Items of a list by their places.
use Rattle.std.proofs.Common.{◌≡◌, ◌⊎◌, ⊎_elim, inl, inr, ℕ, zero, suc, ◌+◌, ◌<◌, List, [], ◌∷◌, ◌++◌, length, map, take, Some, refl, sym, ap, subst, arith}
use Rattle.std.specs.Prelude.{slice_get}
use Rattle.file_stores.specs.Keys.{EachAt}

pub some-is : {A : Type 0} (x y : A) → Some x ≡ Some y → x ≡ y
some-is x y e = cc

pub no-item : {A : Type 0} (k : ℕ) (x : A) → slice_get {X = A} [] k ≡ Some x → ⊥
no-item k x e = cc

-- what stands at a place of a list with one more item
pub at-more : {A : Type 0} (xs : List A) (x y : A) (k : ℕ) → slice_get (xs ++ x ∷ []) k ≡ Some y → (slice_get xs k ≡ Some y) ⊎ ((k ≡ length xs) × (x ≡ y))
at-more [] x y zero e = inr (refl, some-is x y e)
at-more [] x y (suc k) e = absurd (no-item k y e)
at-more (a ∷ xs) x y zero e = inl e
at-more (a ∷ xs) x y (suc k) e = ⊎_elim (λ l. inl l) (λ r. inr (ap suc r.0, r.1)) (at-more xs x y k e)

pub each-none : {A : Type 0} (P : ℕ → A → Type 0) → EachAt P []
each-none P k x e = absurd (no-item k x e)

-- what holds of each item, and of one more behind them
pub each-more : {A : Type 0} (P : ℕ → A → Type 0) (xs : List A) (x : A) → EachAt P xs → P (length xs) x → EachAt P (xs ++ x ∷ [])
each-more P xs x all last k y e = ⊎_elim (λ l. all k y l) (λ r. subst (λ n. P n y) (sym r.0) (subst (P (length xs)) r.1 last)) (at-more xs x y k e)

-- the item that is there
pub there : {A : Type 0} (xs : List A) (k : ℕ) → k < length xs → (x : A) × (slice_get xs k ≡ Some x)
there [] k lt = absurd (omega arith)
there (x ∷ xs) zero lt = (x, refl)
there (x ∷ xs) (suc k) lt = there xs k (omega arith)

pub length-more : {A : Type 0} (xs : List A) (x : A) → length (xs ++ x ∷ []) ≡ length xs + 1
length-more [] x = refl
length-more (y ∷ xs) x = let e = length-more xs x in omega (arith, e)

-- what stands in a list stands there in a longer one
pub at-longer : {A : Type 0} (xs ys : List A) (k : ℕ) (x : A) → slice_get xs k ≡ Some x → slice_get (xs ++ ys) k ≡ Some x
at-longer [] ys k x e = absurd (no-item k x e)
at-longer (y ∷ xs) ys zero x e = e
at-longer (y ∷ xs) ys (suc k) x e = at-longer xs ys k x e

-- what stands in the first items stands in the list
pub at-taken : {A : Type 0} (n : ℕ) (xs : List A) (k : ℕ) (x : A) → slice_get (take n xs) k ≡ Some x → slice_get xs k ≡ Some x
at-taken zero xs k x e = absurd (no-item k x e)
at-taken (suc n) [] k x e = absurd (no-item k x e)
at-taken (suc n) (y ∷ xs) zero x e = e
at-taken (suc n) (y ∷ xs) (suc k) x e = at-taken n xs k x e

pub at-last : {A : Type 0} (xs : List A) (x : A) → slice_get (xs ++ x ∷ []) (length xs) ≡ Some x
at-last [] x = refl
at-last (y ∷ xs) x = at-last xs x

-- the item whose image stands in the list of images
pub from-map : {A B : Type 0} (f : A → B) (xs : List A) (k : ℕ) (y : B) → slice_get (map f xs) k ≡ Some y → (x : A) × (slice_get xs k ≡ Some x) × (f x ≡ y)
from-map f [] k y e = absurd (no-item k y e)
from-map f (x ∷ xs) zero y e = (x, refl, some-is (f x) y e)
from-map f (x ∷ xs) (suc k) y e = from-map f xs k y e

pub to-map : {A B : Type 0} (f : A → B) (xs : List A) (k : ℕ) (x : A) → slice_get xs k ≡ Some x → slice_get (map f xs) k ≡ Some (f x)
to-map f [] k x e = absurd (no-item k x e)
to-map f (y ∷ xs) zero x e = ap (λ z. Some (f z)) (some-is y x e)
to-map f (y ∷ xs) (suc k) x e = to-map f xs k x e

pub map-more : {A B : Type 0} (f : A → B) (xs : List A) (x : A) → map f (xs ++ x ∷ []) ≡ map f xs ++ f x ∷ []
map-more f [] x = refl
map-more f (y ∷ xs) x = ap (λ l. f y ∷ l) (map-more f xs x)

pub map-take : {A B : Type 0} (f : A → B) (n : ℕ) (xs : List A) → map f (take n xs) ≡ take n (map f xs)
map-take f zero xs = refl
map-take f (suc n) [] = refl
map-take f (suc n) (x ∷ xs) = ap (λ l. f x ∷ l) (map-take f n xs)
