-- No two paths have the same key.
use Rattle.std.proofs.Common.{◌≡◌, ℕ, zero, suc, Bool, true, false, List, [], ◌∷◌, ◌++◌, refl, sym, ap, ◌∙◌, nat_eq}
use Rattle.std.specs.Bool.{Decides}
use Rattle.std.specs.Cmp.Lexicographic.{pointwise}
use Rattle.std.specs.Str.{bytes_eq}
use Rattle.std.proofs.lemmas.Slice.Eq.{slice_eq-Decides, bytes_eq-Decides}
use Rattle.name_context.specs.Keys.{part_key, path_key}

-- two parts with the same key, whatever follows, are equal, and so is what follows
pub part_key-same : (p q more rest : List ℕ) → part_key p ++ more ≡ part_key q ++ rest → (p ≡ q) × (more ≡ rest)
part_key-same [] [] more rest e = (refl, cc)
part_key-same [] (zero ∷ q) more rest e = absurd cc
part_key-same [] (suc n ∷ q) more rest e = absurd cc
part_key-same (zero ∷ p) [] more rest e = absurd cc
part_key-same (suc m ∷ p) [] more rest e = absurd cc
part_key-same (zero ∷ p) (zero ∷ q) more rest e =
    let tail : part_key p ++ more ≡ part_key q ++ rest = cc in
    let same = part_key-same p q more rest tail in
    (ap (λ (bytes : List ℕ). 0 ∷ bytes) same.0, same.1)
part_key-same (zero ∷ p) (suc n ∷ q) more rest e = absurd cc
part_key-same (suc m ∷ p) (zero ∷ q) more rest e = absurd cc
part_key-same (suc m ∷ p) (suc n ∷ q) more rest e =
    let head : suc m ≡ suc n = cc in
    let tail : part_key p ++ more ≡ part_key q ++ rest = cc in
    let same = part_key-same p q more rest tail in
    let parts = same.0 in
    (cc, same.1)

-- the key of a part has a byte at least
part_key-some : (part rest : List ℕ) → [] ≡ part_key part ++ rest → ⊥
part_key-some [] rest e = cc
part_key-some (zero ∷ part) rest e = cc
part_key-some (suc n ∷ part) rest e = cc

pub path_key-same : (p q : List (List ℕ)) → path_key p ≡ path_key q → p ≡ q
path_key-same [] [] e = refl
path_key-same [] (part ∷ q) e = absurd (part_key-some part (path_key q) e)
path_key-same (part ∷ p) [] e = absurd (part_key-some part (path_key p) (sym e))
path_key-same (part ∷ p) (other ∷ q) e =
    let same = part_key-same part other (path_key p) (path_key q) e in
    let part_is = same.0 in
    let rest = path_key-same p q same.1 in
    cc

-- two tests that decide the same
both : (a b : Bool) {P Q : Type 0} → Decides a P → Decides b Q → (P → Q) → (Q → P) → a ≡ b
both true true d e to from = refl
both true false d e to from = sym (e.1 (to (d.0 refl)))
both false true d e to from = d.1 (from (e.0 refl))
both false false d e to from = refl

-- keys are equal as the paths are
pub key_eq-path_eq : (p q : List (List ℕ)) (key other : List ℕ) → key ≡ path_key p → other ≡ path_key q → pointwise nat_eq key other ≡ pointwise bytes_eq q p
key_eq-path_eq p q key other is other_is =
    both (pointwise nat_eq key other) (pointwise bytes_eq q p)
    (bytes_eq-Decides key other)
    (slice_eq-Decides bytes_eq-Decides q p (pointwise bytes_eq q p) refl)
    (λ same. sym (path_key-same p q (sym is ∙ (same ∙ other_is))))
    (λ same. is ∙ (ap path_key (sym same) ∙ sym other_is))
