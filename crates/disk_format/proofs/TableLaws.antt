-- Where the tests of a table pass.
use Rattle.std.proofs.Common.{◌≡◌, ◌≢◌, ℕ, zero, suc, ◌+◌, ◌<◌, inl, inr, Bool, true, false, not, ◌&&◌, ◌||◌, List, [], ◌∷◌, length, get_or, set, Option, Some, None, refl, sym, ◌∙◌, subst, arith, if◌then◌else◌, ◌==◌}
use Rattle.std.proofs.lemmas.Bool.{eq-eqb}
use Rattle.std.proofs.lemmas.Bool.Decides.{eqb_tells}
use Rattle.disk_format.specs.Table.{first_place, again_place, is_in}

-- the first of some that passes, or what comes after it
abbrev pub pick : Bool → ℕ → Option ℕ → Option ℕ
pick t place rest = if t then Some place else rest

pub pick-none : (t : Bool) (place : ℕ) (rest : Option ℕ) → pick t place rest ≡ None → (t ≡ false) × (rest ≡ None)
pick-none true place rest h = (cc, cc)
pick-none false place rest h = (refl, h)

pub none-pick : (t : Bool) (place : ℕ) (rest : Option ℕ) → t ≡ false → rest ≡ None → pick t place rest ≡ None
none-pick t place rest e f = rw (e, f)

-- none passes
pub none-passes : (step : ℕ) (p : ℕ → Bool) (place : ℕ) (xs : List ℕ) → first_place step p place xs ≡ None → (k d : ℕ) → k < length xs → p (get_or xs k d) ≡ false
none-passes step p place [] h k d lt = absurd (omega arith)
none-passes step p place (x ∷ xs) h zero d lt = (pick-none (p x) place (first_place step p (place + step) xs) h).0
none-passes step p place (x ∷ xs) h (suc k) d lt =
    none-passes step p (place + step) xs (pick-none (p x) place (first_place step p (place + step) xs) h).1 k d (omega arith)

pub first-none-set : (step : ℕ) (p : ℕ → Bool) (place : ℕ) (xs : List ℕ) (i v : ℕ) → first_place step p place xs ≡ None → p v ≡ false → first_place step p place (set xs i v) ≡ None
first-none-set step p place [] i v h q = h
first-none-set step p place (x ∷ xs) zero v h q =
    let k = pick-none (p x) place (first_place step p (place + step) xs) h in none-pick (p v) place (first_place step p (place + step) xs) q k.1
first-none-set step p place (x ∷ xs) (suc i) v h q =
    let k = pick-none (p x) place (first_place step p (place + step) xs) h in
    none-pick (p x) place (first_place step p (place + step) (set xs i v)) k.0 (first-none-set step p (place + step) xs i v k.1 q)

-- none of the entries is this one
abbrev pub AllBut : ℕ → List ℕ → Type 0
AllBut b [] = Unit {0}
AllBut b (e ∷ es) = (e ≢ b) × AllBut b es

-- no block is named by two entries
abbrev pub Distinct : List ℕ → Type 0
Distinct [] = Unit {0}
Distinct (e ∷ es) = (e ≢ 0 → AllBut e es) × Distinct es

-- no entry is one of the seen
abbrev pub Apart : List ℕ → List ℕ → Type 0
Apart seen [] = Unit {0}
Apart seen (e ∷ es) = (e ≢ 0 → is_in seen e ≡ false) × Apart seen es

pub eqb-false : (a b : ℕ) → a ≢ b → (a == b) ≡ false
eqb-false a b h = elim (eqb_tells a b) as (λ _. (a == b) ≡ false) [ inl t ↦ absurd (h t.1) | inr t ↦ t.0 ]

pub ne-from_eqb : (a b : ℕ) → (a == b) ≡ false → a ≢ b
ne-from_eqb a b h e = let t = eq-eqb a b e in cc

pub or-false : (a b : Bool) → (a || b) ≡ false → (a ≡ false) × (b ≡ false)
or-false true b h = (cc, cc)
or-false false b h = (refl, h)

-- a block that is named and was seen is no hole's
not-seen : (e : ℕ) (seen : List ℕ) → (not (e == 0) && is_in seen e) ≡ false → e ≢ 0 → is_in seen e ≡ false
not-seen e seen h ne = elim (eqb_tells e 0) as (λ _. is_in seen e ≡ false) [ inl t ↦ absurd (ne t.1) | inr t ↦ subst (λ v. (not v && is_in seen e) ≡ false) t.0 h ]

seen-not : (e : ℕ) (seen : List ℕ) → (e ≢ 0 → is_in seen e ≡ false) → (not (e == 0) && is_in seen e) ≡ false
seen-not e seen f = elim (eqb_tells e 0) as (λ _. (not (e == 0) && is_in seen e) ≡ false) [ inl t ↦ rw t.0 | inr t ↦ rw t.0 (f t.1) ]

apart-head : (e : ℕ) (seen es : List ℕ) → Apart (e ∷ seen) es → e ≢ 0 → AllBut e es
apart-head e seen [] a ne = tt
apart-head e seen (x ∷ es) a ne =
    ((λ q. ne-from_eqb x e (or-false (x == e) (is_in seen x) (a.0 (λ z. ne (sym q ∙ z)))).0 q), apart-head e seen es a.1 ne)

apart-less : (e : ℕ) (seen es : List ℕ) → Apart (e ∷ seen) es → Apart seen es
apart-less e seen [] a = tt
apart-less e seen (x ∷ es) a = ((λ ne. (or-false (x == e) (is_in seen x) (a.0 ne)).1), apart-less e seen es a.1)

apart-more : (e : ℕ) (seen es : List ℕ) → Apart seen es → AllBut e es → Apart (e ∷ seen) es
apart-more e seen [] a f = tt
apart-more e seen (x ∷ es) a f = ((λ ne. rw (eqb-false x e f.0) (a.0 ne)), apart-more e seen es a.1 f.1)

pub none-apart : (step : ℕ) (seen : List ℕ) (place : ℕ) (es : List ℕ) → again_place step seen place es ≡ None → Apart seen es × Distinct es
none-apart step seen place [] h = (tt, tt)
none-apart step seen place (e ∷ es) h =
    let k = pick-none (not (e == 0) && is_in seen e) place (again_place step (e ∷ seen) (place + step) es) h in
    let r = none-apart step (e ∷ seen) (place + step) es k.1 in
    ((not-seen e seen k.0, apart-less e seen es r.0), (apart-head e seen es r.0, r.1))

but-set : (es : List ℕ) (p b e : ℕ) → AllBut e es → b ≢ e → AllBut e (set es p b)
but-set [] p b e f n = tt
but-set (x ∷ es) zero b e f n = (n, f.1)
but-set (x ∷ es) (suc p) b e f n = (f.0, but-set es p b e f.1 n)

distinct-set : (es : List ℕ) (p b : ℕ) → Distinct es → AllBut b es → Distinct (set es p b)
distinct-set [] p b d f = tt
distinct-set (e ∷ es) zero b d f = (λ _. f.1, d.1)
distinct-set (e ∷ es) (suc p) b d f = (λ ne. but-set es p b e (d.0 ne) (λ q. f.0 (sym q)), distinct-set es p b d.1 f.1)

-- a hole that is seen hides nothing
apart-zero : (seen es : List ℕ) → Apart seen es → Apart (0 ∷ seen) es
apart-zero seen [] a = tt
apart-zero seen (x ∷ es) a = ((λ ne. rw (eqb-false x 0 ne) (a.0 ne)), apart-zero seen es a.1)

apart-next : (e : ℕ) (seen es : List ℕ) → Apart seen es → (e ≢ 0 → AllBut e es) → Apart (e ∷ seen) es
apart-next e seen es a f = elim (eqb_tells e 0) as (λ _. Apart (e ∷ seen) es) [ inl t ↦ subst (λ v. Apart (v ∷ seen) es) (sym t.1) (apart-zero seen es a) | inr t ↦ apart-more e seen es a (f t.1) ]

pub apart-none : (step : ℕ) (seen : List ℕ) (place : ℕ) (es : List ℕ) → Apart seen es → Distinct es → again_place step seen place es ≡ None
apart-none step seen place [] a d = refl
apart-none step seen place (e ∷ es) a d =
    none-pick (not (e == 0) && is_in seen e) place (again_place step (e ∷ seen) (place + step) es) (seen-not e seen a.0) (apart-none step (e ∷ seen) (place + step) es (apart-next e seen es a.1 d.0) d.1)

apart-nil : (es : List ℕ) → Apart [] es
apart-nil [] = tt
apart-nil (x ∷ es) = ((λ _. refl), apart-nil es)

-- no block is named twice after an entry got a block that none had
pub again-none-set : (step place : ℕ) (es : List ℕ) (p b : ℕ) → again_place step [] place es ≡ None → AllBut b es → again_place step [] place (set es p b) ≡ None
again-none-set step place es p b h f = apart-none step [] place (set es p b) (apart-nil (set es p b)) (distinct-set es p b (none-apart step [] place es h).1 f)

-- what is in no place of a list is another than each of them
pub all-but : (b : ℕ) (es : List ℕ) → is_in es b ≡ false → AllBut b es
all-but b [] h = tt
all-but b (e ∷ es) h = let o = or-false (b == e) (is_in es b) h in ((λ q. ne-from_eqb b e o.0 (sym q)), all-but b es o.1)

pub but-in : (b : ℕ) (es : List ℕ) → AllBut b es → is_in es b ≡ false
but-in b [] h = refl
but-in b (e ∷ es) h = rw (eqb-false b e (λ q. h.0 (sym q))) (but-in b es h.1)
