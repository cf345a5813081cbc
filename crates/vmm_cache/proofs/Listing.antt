-- Lists of pages: without one of them, and backwards.
use Rattle.std.specs.Prelude.{not, reverse, filter, nat_eq}
use Rattle.std.proofs.Common.{◌≡◌, ◌≢◌, ℕ, sym, ◌∙◌, ap, refl, inl, inr, Bool, true, false, cond, List, [], ◌∷◌, ◌++◌, append-nil}
use Rattle.std.specs.List.{AllByRecursion}
use Rattle.std.proofs.lemmas.Bool.Decides.{eqb_tells}
use Rattle.std.proofs.lemmas.List.{reverse-append}
use Rattle.std.proofs.lemmas.List.Elements.{filter-append}

abbrev pub is_other : ℕ → ℕ → Bool
is_other page other = not (nat_eq other page)

pub other_same : (page : ℕ) → is_other page page ≡ false
other_same page = elim (eqb_tells page page) [ inl e ↦ ap not e.0 | inr n ↦ absurd (n.1 refl) ]

pub other_apart : (page other : ℕ) → other ≢ page → is_other page other ≡ true
other_apart page other d = elim (eqb_tells other page) [ inl e ↦ absurd (d e.1) | inr n ↦ ap not n.0 ]

pub eq_same : (a : ℕ) → nat_eq a a ≡ true
eq_same a = elim (eqb_tells a a) [ inl e ↦ e.0 | inr n ↦ absurd (n.1 refl) ]

pub eq_apart : (a b : ℕ) → a ≢ b → nat_eq a b ≡ false
eq_apart a b d = elim (eqb_tells a b) [ inl e ↦ absurd (d e.1) | inr n ↦ n.0 ]

pub eq_from : (a b : ℕ) → nat_eq a b ≡ true → a ≡ b
eq_from a b t = elim (eqb_tells a b) [ inl e ↦ e.1 | inr n ↦ absurd (let no : true ≡ false = sym t ∙ n.0 in let f : ⊥ = cc in f) ]

pub reverse_cons : (x : ℕ) (xs : List ℕ) → reverse (x ∷ xs) ≡ reverse xs ++ x ∷ []
reverse_cons x xs = reverse-append (x ∷ []) xs

pub filter-reverse : (p : ℕ → Bool) (xs : List ℕ) → filter p (reverse xs) ≡ reverse (filter p xs)
filter-reverse p [] = refl
filter-reverse p (x ∷ xs) =
    ap (filter p) (reverse_cons x xs) ∙ filter-append p (reverse xs) (x ∷ []) ∙ ap (λ (ys : List ℕ). ys ++ filter p (x ∷ [])) (filter-reverse p xs) ∙ ends (p x)
  where
    ends : (b : Bool) → reverse (filter p xs) ++ cond b (x ∷ []) [] ≡ reverse (cond b (x ∷ filter p xs) (filter p xs))
    ends true = sym (reverse_cons x (filter p xs))
    ends false = append-nil (reverse (filter p xs))

-- where no element is the page, nothing goes
pub without_none : (page : ℕ) (xs : List ℕ) → AllByRecursion (λ x. nat_eq page x ≡ false) xs → filter (is_other page) xs ≡ xs
without_none page [] h = refl
without_none page (x ∷ xs) h =
    elim (eqb_tells x page) [
      | inl e ↦ absurd (let no : true ≡ false = sym (eq_same page) ∙ ap (nat_eq page) (sym e.1) ∙ h.0 in let f : ⊥ = cc in f)
      | inr n ↦ rw n.0 (ap (λ (ys : List ℕ). x ∷ ys) (without_none page xs h.1))
    ]
