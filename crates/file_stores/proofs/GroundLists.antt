-- Items of a list by their places.
use Rattle.std.proofs.Common.{◌≡◌, ℕ, zero, suc, ◌<◌, List, [], ◌∷◌, length, Some, refl, sym, ap, subst, ◌∙◌, arith}
use Rattle.std.specs.Prelude.{slice_get}
use Rattle.mirror_rules.specs.Claims.{Nth, nth_here, nth_later}
use Rattle.file_stores.proofs.Lists.{some-is, no-item}

pub nth-get : {A : Type 0} {k : ℕ} {xs : List A} {x : A} → Nth k xs x → slice_get xs k ≡ Some x
nth-get nth_here = refl
nth-get (nth_later h) = nth-get h

pub get-nth : {A : Type 0} (xs : List A) (k : ℕ) (x : A) → slice_get xs k ≡ Some x → Nth k xs x
get-nth [] k x e = absurd (no-item k x e)
get-nth (a ∷ xs) zero x e = subst (λ y. Nth zero (a ∷ xs) y) (some-is a x e) nth_here
get-nth (a ∷ xs) (suc k) x e = nth_later (get-nth xs k x e)

-- what stands at a place, once
pub same-item : {A : Type 0} {n k : ℕ} {xs : List A} {x : A} (y : A) → Nth n xs x → n ≡ k → slice_get xs k ≡ Some y → x ≡ y
same-item {k = k} {xs = xs} {x = x} y h e f = some-is x y (sym (nth-get h) ∙ (ap (λ n. slice_get xs n) e ∙ f))

pub get-within : {A : Type 0} (xs : List A) (k : ℕ) (x : A) → slice_get xs k ≡ Some x → k < length xs
get-within [] k x e = absurd (no-item k x e)
get-within (a ∷ xs) zero x e = omega arith
get-within (a ∷ xs) (suc k) x e = let rest = get-within xs k x e in omega (arith, rest)
