-- Bytes cut into pages.
use Rattle.std.proofs.Common.{◌≡◌, ℕ, zero, suc, ◌+◌, ◌*◌, ◌<◌, ◌≤◌, List, [], ◌∷◌, ◌++◌, length, take, drop, Option, Some, None, IfSome, refl, sym, ap, ◌∙◌, arith}
use Rattle.std.specs.Prelude.{slice_get}
use Rattle.std.proofs.lemmas.List.{take-append-le, drop-append-le, drop-drop, length-drop, length-take-le, take-append-drop, take_all, take_at, nil_from_length}
use borrow.Rule.Slice.PartMut.{put_mid}
use Rattle.page_ground.specs.Pages.{cut}

pub length-cut : (size n : ℕ) (bytes : List ℕ) → length (cut size n bytes) ≡ n
length-cut size zero bytes = refl
length-cut size (suc n) bytes = ap suc (length-cut size n (drop size bytes))

grow : (size k : ℕ) → suc k * size ≡ size + k * size
grow size k = grind arith

-- a page of the bytes
pub page-cut : (size n k : ℕ) (bytes : List ℕ) → k < n → slice_get (cut size n bytes) k ≡ Some (take size (drop (k * size) bytes))
page-cut size zero k bytes lt = absurd (omega arith)
page-cut size (suc n) zero bytes lt = let e : 0 * size ≡ 0 = omega arith in rw e refl
page-cut size (suc n) (suc k) bytes lt =
    let e : drop (k * size) (drop size bytes) ≡ drop (suc k * size) bytes = drop-drop (k * size) size bytes ∙ ap (λ m. drop m bytes) (sym (grow size k)) in
    page-cut size n k (drop size bytes) (omega arith) ∙ ap (λ (l : List ℕ). Some (take size l)) e

-- the first pages are those of the first bytes
pub cut-front : (size k : ℕ) (front rest : List ℕ) → length front ≡ k * size → cut size k (front ++ rest) ≡ cut size k front
cut-front size zero front rest long = refl
cut-front size (suc k) front rest long =
    let le : size ≤ length front = omega (arith, grow size k) in
    let less : length (drop size front) ≡ k * size = omega (arith, grow size k, length-drop size front) in
    let head : take size (front ++ rest) ≡ take size front = take-append-le size front rest le in
    let tail : drop size (front ++ rest) ≡ drop size front ++ rest = drop-append-le size front rest le in
    rw (head, tail) (ap (λ (l : List (List ℕ)). take size front ∷ l) (cut-front size k (drop size front) rest less))

-- one more page
pub cut-more : (size k : ℕ) (front page rest : List ℕ) → length front ≡ k * size → length page ≡ size → cut size (suc k) (front ++ (page ++ rest)) ≡ cut size k front ++ page ∷ []
cut-more size zero front page rest long fits =
    let empty : front ≡ [] = nil_from_length front (long ∙ omega arith) in
    let first : take size (page ++ rest) ≡ page = take_at page rest size fits in
    rw (empty, first) refl
cut-more size (suc k) front page rest long fits =
    let le : size ≤ length front = omega (arith, grow size k) in
    let less : length (drop size front) ≡ k * size = omega (arith, grow size k, length-drop size front) in
    let head : take size (front ++ (page ++ rest)) ≡ take size front = take-append-le size front (page ++ rest) le in
    let tail : drop size (front ++ (page ++ rest)) ≡ drop size front ++ (page ++ rest) = drop-append-le size front (page ++ rest) le in
    rw (head, tail) (ap (λ (l : List (List ℕ)). take size front ∷ l) (cut-more size k (drop size front) page rest less fits))

-- one more element of a list
take-next : {X : Type 0} (xs : List X) (k : ℕ) (x : X) → slice_get xs k ≡ Some x → take (suc k) xs ≡ take k xs ++ x ∷ []
take-next [] k x is = cc
take-next (y ∷ ys) zero x is = let e : y ≡ x = cc in rw e refl
take-next (y ∷ ys) (suc k) x is = ap (λ l. y ∷ l) (take-next ys k x is)

-- one more page was read
pub read-next : (size k n : ℕ) (out page : List ℕ) (pages : Option (List (List ℕ))) → length page ≡ size → k * size ≤ length out → IfSome pages (λ ps. slice_get ps k ≡ Some page)
    → IfSome pages (λ ps. take k ps ≡ cut size k out) → IfSome pages (λ ps. take (k + 1) ps ≡ cut size (k + 1) (put_mid (k * size) n out page))
read-next size k n out page None fits room next read = tt
read-next size k n out page (Some ps) fits room next read =
    let front : List ℕ = take (k * size) out in
    let long : length front ≡ k * size = length-take-le (k * size) out room in
    let so_far : cut size k front ≡ cut size k out = sym (cut-front size k front (drop (k * size) out) long) ∙ ap (cut size k) (take-append-drop (k * size) out) in
    let up : k + 1 ≡ suc k = omega arith in
    rw up (take-next ps k page next ∙ (ap (λ (l : List (List ℕ)). l ++ page ∷ []) (read ∙ sym so_far) ∙ sym (cut-more size k front page (drop n (drop (k * size) out)) long fits)))

-- all pages were read
pub read-all : (size n : ℕ) (out : List ℕ) (pages : Option (List (List ℕ))) → IfSome pages (λ ps. length ps ≡ n) → IfSome pages (λ ps. take n ps ≡ cut size n out) → IfSome pages (λ ps. ps ≡ cut size n out)
read-all size n out None many read = tt
read-all size n out (Some ps) many read = sym (take_all n ps (omega arith)) ∙ read
