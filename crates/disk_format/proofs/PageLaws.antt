-- The pages that entries name, under writes of blocks.
use Rattle.std.proofs.Common.{◌≡◌, ◌≢◌, ℕ, zero, suc, ◌<◌, ◌⊎◌, inl, inr, true, false, List, [], ◌∷◌, length, get_or, set, replicate, Some, refl, sym, ◌∙◌, subst, arith, if◌then◌else◌, ◌==◌}
use Rattle.std.specs.Prelude.{slice_get}
use Rattle.std.proofs.lemmas.List.{get_or-set_same, get_or-set_other}
use Rattle.std.proofs.lemmas.Bool.{cases_eq, ne_eqb}
use Rattle.disk_format.specs.Image.{page_of, pages_of}
use Rattle.disk_format.proofs.TableLaws.{AllBut, Distinct}

-- the page of another block, or a hole
pub page-other : (size : ℕ) (blocks : List (List ℕ)) (b : ℕ) (x : List ℕ) (e : ℕ) → (e ≡ 0) ⊎ (e ≢ b) → page_of size (set blocks b x) e ≡ page_of size blocks e
page-other size blocks b x e (inl z) = rw z refl
page-other size blocks b x e (inr ne) = elim (e == 0) as (λ t. (if t then replicate size 0 else get_or (set blocks b x) e []) ≡ (if t then replicate size 0 else get_or blocks e [])) [ true ↦ refl | false ↦ get_or-set_other blocks b e x [] ne ]

page-block : (size : ℕ) (blocks : List (List ℕ)) (b : ℕ) (x : List ℕ) → b ≢ 0 → get_or blocks b [] ≡ x → page_of size blocks b ≡ x
page-block size blocks b x ne is = rw (ne_eqb b 0 ne) is

-- the header's block is no page's
pub pages-header : (size : ℕ) (blocks : List (List ℕ)) (x : List ℕ) (entries : List ℕ) → pages_of size (set blocks 0 x) entries ≡ pages_of size blocks entries
pages-header size blocks x [] = refl
pages-header size blocks x (e ∷ es) = let head = page-other size blocks 0 x e (cases_eq e 0) in let tail = pages-header size blocks x es in cc

-- a block that no entry names may be written
pub pages-free : (size : ℕ) (blocks : List (List ℕ)) (b : ℕ) (x : List ℕ) (entries : List ℕ) → AllBut b entries → pages_of size (set blocks b x) entries ≡ pages_of size blocks entries
pages-free size blocks b x [] h = refl
pages-free size blocks b x (e ∷ es) h = let head = page-other size blocks b x e (inr h.0) in let tail = pages-free size blocks b x es h.1 in cc

but-at : (b : ℕ) (es : List ℕ) (p e : ℕ) → AllBut b es → p < length es → get_or es p 0 ≡ e → e ≢ b
but-at b [] p e f lt is = absurd (omega arith)
but-at b (a ∷ es) zero e f lt is = λ q. f.0 (is ∙ q)
but-at b (a ∷ es) (suc p) e f lt is = but-at b es p e f.1 (omega arith) is

-- the block of a page that has one is written in place
pub pages-same : (size : ℕ) (blocks : List (List ℕ)) (x : List ℕ) (entries : List ℕ) (p e : ℕ) → Distinct entries → p < length entries → get_or entries p 0 ≡ e → e ≢ 0 → e < length blocks
    → pages_of size (set blocks e x) entries ≡ set (pages_of size blocks entries) p x
pages-same size blocks x [] p e f lt is ne room = absurd (omega arith)
pages-same size blocks x (a ∷ es) zero e f lt is ne room =
    let tail = pages-free size blocks e x es (subst (λ v. AllBut v es) is (f.0 (λ z. ne (sym is ∙ z)))) in
    let head : page_of size (set blocks e x) a ≡ x = page-block size (set blocks e x) a x (λ z. ne (sym is ∙ z)) (rw is (get_or-set_same blocks e x [] room)) in cc
pages-same size blocks x (a ∷ es) (suc p) e f lt is ne room =
    let tail = pages-same size blocks x es p e f.1 (omega arith) is ne room in
    let head = page-other size blocks e x a (other (cases_eq a 0)) in
    cc
  where
    other : (a ≡ 0) ⊎ (a ≢ 0) → (a ≡ 0) ⊎ (a ≢ e)
    other (inl z) = inl z
    other (inr n) = inr (λ q. but-at a es p e (f.0 n) (omega arith) is (sym q))

-- a page gets a block that holds it already
pub pages-named : (size : ℕ) (blocks : List (List ℕ)) (x : List ℕ) (entries : List ℕ) (p b : ℕ) → b ≢ 0 → get_or blocks b [] ≡ x
    → pages_of size blocks (set entries p b) ≡ set (pages_of size blocks entries) p x
pages-named size blocks x [] p b ne is = refl
pages-named size blocks x (e ∷ es) zero b ne is = let head : page_of size blocks b ≡ x = page-block size blocks b x ne is in cc
pages-named size blocks x (e ∷ es) (suc p) b ne is = let tail = pages-named size blocks x es p b ne is in cc

-- one of the pages
pub page-at : (size : ℕ) (blocks : List (List ℕ)) (entries : List ℕ) (p : ℕ) → p < length entries → slice_get (pages_of size blocks entries) p ≡ Some (page_of size blocks (get_or entries p 0))
page-at size blocks [] p lt = absurd (omega arith)
page-at size blocks (e ∷ es) zero lt = refl
page-at size blocks (e ∷ es) (suc p) lt = page-at size blocks es p (omega arith)
