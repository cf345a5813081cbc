-- How often a number divides the numbers from 1 on.
use Rattle.std.proofs.Common.{◌≡◌, ℕ, zero, suc, ◌+◌, ◌/◌, ◌%◌, ◌<◌, ◌≤◌, eqb, eq-eqb, Bool, true, Option, Some, refl, sym, ap, ◌∙◌, arith, eqb-true}
use Rattle.std.specs.Prelude.{◌==◌}
use Rattle.std.proofs.Math.Nat.{mod-zero, div-zero, le-div_iff_mul-le, div-lt_iff_lt-mul, div-mul-le_self, mod-eq-sub-div-mul, mod_self}
use Rattle.std.proofs.lemmas.Nat.Gcd.{dvd_antisymm, dvd_of_mod-eq-zero}
use Rattle.link_lossy.specs.Links.{Sends, every_seen}

-- the quotient never falls
grows : (n k : ℕ) → k / n ≤ (k + 1) / n
grows zero k = rw (div-zero, div-zero) (omega arith)
grows (suc n) k = (le-div_iff_mul-le {k = suc n} (omega arith)).1 (omega (arith, div-mul-le_self k (suc n)))

-- it rises where the number divides
rises : (n k : ℕ) → (k + 1) % n ≡ 0 → k / n < (k + 1) / n
rises zero k e = absurd (omega (arith, mod-zero (k + 1)))
rises (suc n) k e = (div-lt_iff_lt-mul {k = suc n} (omega arith)).1 (omega (arith, e, mod-eq-sub-div-mul (k + 1) (suc n)))

pub every_sends : (n before after : ℕ) (lost : Bool) → after ≡ before + 1 → lost ≡ (after % n == 0) → Sends lost (every_seen n before) (every_seen n after)
every_sends n before after lost e is = record {
  packets = e;
  test = refl;
  count = rw e (grows n before);
  rose = λ yes. rw e (rises n before (let t : eqb (after % n) 0 ≡ true = sym is ∙ yes in rw e at (eqb-true (after % n) 0 t)));
  told = is;
}

-- a number is told by which numbers it divides
divides_all : (n m : ℕ) (f g : ℕ → Bool) → f ≡ (λ packet. packet % n == 0) → g ≡ (λ packet. packet % m == 0) → f ≡ g → n % m ≡ 0
divides_all n m f g is its same =
    let at : (n % n == 0) ≡ (n % m == 0) = ap (λ (h : ℕ → Bool). h n) (sym is ∙ same ∙ its) in
    let own : eqb (n % n) 0 ≡ true = eq-eqb (n % n) 0 (mod_self n) in
    eqb-true (n % m) 0 (sym at ∙ own)

tests_of : (f g : ℕ → Bool) → ◌≡◌ {A = Option (ℕ → Bool)} (Some f) (Some g) → f ≡ g
tests_of f g e = cc

pub same_number : (n m given other : ℕ) → (every_seen n given).loses ≡ (every_seen m other).loses → n ≡ m
same_number n m given other e =
    let f : ℕ → Bool = λ packet. packet % n == 0 in
    let g : ℕ → Bool = λ packet. packet % m == 0 in
    let same : f ≡ g = tests_of f g e in
    dvd_antisymm (dvd_of_mod-eq-zero n (divides_all m n g f refl refl (sym same))) (dvd_of_mod-eq-zero m (divides_all n m f g refl refl same))
