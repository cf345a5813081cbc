-- Paths that begin with others.
use Rattle.std.proofs.Common.{◌≡◌, ℕ, ◌+◌, ◌<◌, ◌≤◌, Bool, true, false, not, ◌&&◌, List, [], ◌∷◌, length, get_or, drop, refl, sym, ap, ◌∙◌}
use Rattle.std.specs.List.{starts_with}
use Rattle.std.proofs.lemmas.List.{at_drop_more, at_drop_all}
use Rattle.std.specs.Str.{bytes_eq}

-- the same, part by part
abbrev pub begins : List (List ℕ) → List (List ℕ) → Bool
begins [] path = true
begins (part ∷ above) [] = false
begins (part ∷ above) (other ∷ path) = bytes_eq part other && begins above path

pub starts_with-begins : (above path : List (List ℕ)) → starts_with bytes_eq path above ≡ begins above path
starts_with-begins [] path = refl
starts_with-begins (part ∷ above) [] = refl
starts_with-begins (part ∷ above) (other ∷ path) = ap (λ (b : Bool). bytes_eq part other && b) (starts_with-begins above path)

-- one part further
pub begins-step : (above path : List (List ℕ)) (place : ℕ) (d e : List ℕ) → place < length above → place < length path
    → begins (drop place above) (drop place path) ≡ (bytes_eq (get_or above place d) (get_or path place e) && begins (drop (place + 1) above) (drop (place + 1) path))
begins-step above path place d e lt within =
    at_drop_more (λ (ps : List (List ℕ)). begins ps (drop place path)) above place d lt
    ∙ at_drop_more (λ (ps : List (List ℕ)). begins (get_or above place d ∷ drop (place + 1) above) ps) path place e within

-- a part that differs
pub begins-fails : (above path : List (List ℕ)) (place : ℕ) (part other : List ℕ) → place < length above → place < length path → part ≡ get_or above place part → other ≡ get_or path place other → bytes_eq part other ≡ false
    → begins (drop place above) (drop place path) ≡ begins above path → false ≡ starts_with bytes_eq path above
begins-fails above path place part other lt within is other_is differ so_far =
    let rest = begins (drop (place + 1) above) (drop (place + 1) path) in
    sym (starts_with-begins above path ∙ (sym so_far ∙ (begins-step above path place part other lt within
    ∙ (ap (λ (p : List ℕ). bytes_eq p (get_or path place other) && rest) (sym is)
    ∙ (ap (λ (p : List ℕ). bytes_eq part p && rest) (sym other_is) ∙ ap (λ (b : Bool). b && rest) differ)))))

-- no part differs
pub begins-ends : (above path : List (List ℕ)) (place : ℕ) → length above ≤ place → begins (drop place above) (drop place path) ≡ begins above path → true ≡ starts_with bytes_eq path above
begins-ends above path place end so_far =
    sym (starts_with-begins above path ∙ (sym so_far ∙ at_drop_all (λ (ps : List (List ℕ)). begins ps (drop place path)) above place end))

pub not-true : (b : Bool) → true ≡ not b → b ≡ false
not-true true e = absurd cc
not-true false e = refl
