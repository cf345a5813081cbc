-- The entries that were seen before a page.
use Rattle.std.proofs.Common.{◌≡◌, ◌≢◌, ℕ, zero, suc, ◌+◌, ◌-◌, ◌*◌, ◌<◌, ◌≤◌, Bool, true, false, not, ◌&&◌, ◌||◌, List, [], ◌∷◌, length, drop, get_or, set, slice_index_or, Option, Some, None, refl, ap, sym, ◌∙◌, subst, inl, inr, arith, ◌==◌}
use Rattle.std.proofs.Common.{add-one}
use Rattle.std.proofs.lemmas.List.{drop_more, length-set, get_or-set_same, get_or-set_other}
use Rattle.std.proofs.lemmas.Bool.{cases_eq, eq-eqb, ne_eqb, and_parts, leb-true, ltb-true, not-false}
use Rattle.disk_format.specs.declared.shape.ImageShape.{ImageShape}
use Rattle.disk_format.specs.Shape.{first_data}
use Rattle.disk_format.specs.Table.{first_place, again_place, is_in}
use Rattle.disk_format.specs.VersionOne.{is_entry}
use Rattle.disk_format.proofs.TableLaws.{pick, none-passes}

-- the first so many of a list, the last of them first
abbrev pub seen : ℕ → List ℕ → List ℕ
seen zero xs = []
seen (suc n) xs = get_or xs n 0 ∷ seen n xs

pub seen-more : (n : ℕ) (xs : List ℕ) → seen (n + 1) xs ≡ get_or xs n 0 ∷ seen n xs
seen-more n xs = rw add-one refl

-- the next entry
again-next : (step n place : ℕ) (xs : List ℕ) → n < length xs
    → again_place step (seen n xs) place (drop n xs)
    ≡ pick (not (get_or xs n 0 == 0) && is_in (seen n xs) (get_or xs n 0)) place (again_place step (seen (n + 1) xs) (place + step) (drop (n + 1) xs))
again-next step n place xs lt = rw (drop_more xs n 0 lt, seen-more n xs) refl

-- an entry that was not seen: the rest of the list tells
pub again-passed : (step n place : ℕ) (xs : List ℕ) (all : Option ℕ) → n < length xs → (not (get_or xs n 0 == 0) && is_in (seen n xs) (get_or xs n 0)) ≡ false
    → again_place step (seen n xs) place (drop n xs) ≡ all → again_place step (seen (n + 1) xs) (place + step) (drop (n + 1) xs) ≡ all
again-passed step n place xs all lt unseen is =
    sym (ap (λ t. pick t place (again_place step (seen (n + 1) xs) (place + step) (drop (n + 1) xs))) unseen) ∙ sym (again-next step n place xs lt) ∙ is

-- an entry that was seen
pub again-found : (step n place : ℕ) (xs : List ℕ) (all : Option ℕ) → n < length xs → (not (get_or xs n 0 == 0) && is_in (seen n xs) (get_or xs n 0)) ≡ true
    → again_place step (seen n xs) place (drop n xs) ≡ all → Some place ≡ all
again-found step n place xs all lt known is =
    sym (again-next step n place xs lt ∙ ap (λ t. pick t place (again_place step (seen (n + 1) xs) (place + step) (drop (n + 1) xs))) known) ∙ is

-- an entry that is no hole is the number of a first block
pub record Named (shape : ImageShape) (e : ℕ) : Type 0 where
  pub low : first_data shape ≤ e
  pub high : e < first_data shape + shape.pages

pub entry-named : (shape : ImageShape) (e : ℕ) → not (is_entry shape e) ≡ false → e ≢ 0 → Named shape e
entry-named shape e h ne =
    let parts = and_parts _ _ (second (e == 0) _ (not-false _ h) (ne_eqb e 0 ne)) in
    record { low = leb-true (first_data shape) e parts.0; high = ltb-true e (first_data shape + shape.pages) parts.1 }
  where
    second : (a b : Bool) → (a || b) ≡ true → a ≡ false → b ≡ true
    second true b h e = cc
    second false b h e = h

-- of each first block, whether one of the seen names it
abbrev pub Marked : ℕ → ℕ → List ℕ → List Bool → Type 0
Marked first pages seen used = (k : ℕ) → k < pages → slice_index_or used k false ≡ is_in seen (first + k)

-- a hole marks no block
pub marked-hole : (first pages : ℕ) (seen : List ℕ) (used : List Bool) → 1 ≤ first → Marked first pages seen used → Marked first pages (0 ∷ seen) used
marked-hole first pages seen used pos h k lt = rw (ne_eqb (first + k) 0 (λ q. omega arith)) (h k lt)

-- the block of an entry is marked
pub marked-entry : (first pages e : ℕ) (seen : List ℕ) (used : List Bool) → first ≤ e → e < first + pages → length used ≡ pages → Marked first pages seen used
    → Marked first pages (e ∷ seen) (set used (e - first) true)
marked-entry first pages e seen used low high many h k lt =
    elim (cases_eq k (e - first)) [
      | inl same ↦
          let q : first + k ≡ e = omega arith in
          rw (eq-eqb (first + k) e q, same) (get_or-set_same used (e - first) true false (omega arith))
      | inr other ↦
          rw (ne_eqb (first + k) e (λ q. other (omega arith))) (get_or-set_other used (e - first) k true false other ∙ h k lt)
    ]

-- a loop over the entries: the blocks of those that were seen are marked, and the rest of them tells what all do
pub record Looked (shape : ImageShape) (n : ℕ) (entries : List ℕ) (used : List Bool) : Type 0 where
  pub many : length used ≡ shape.pages
  pub marked : Marked (first_data shape) shape.pages (seen n entries) used
  pub rest : again_place 4 (seen n entries) (shape.page_size + 4 * n) (drop n entries) ≡ again_place 4 [] shape.page_size entries

pub named-at : (shape : ImageShape) (n : ℕ) (entries : List ℕ) → first_place 4 (λ e. not (is_entry shape e)) shape.page_size entries ≡ None → n < length entries → get_or entries n 0 ≢ 0
    → Named shape (get_or entries n 0)
named-at shape n entries good lt ne = entry-named shape (get_or entries n 0) (none-passes 4 (λ e. not (is_entry shape e)) shape.page_size entries good n 0 lt) ne

next-place : (size n : ℕ) → size + 4 * n + 4 ≡ size + 4 * (n + 1)
next-place size n = omega arith

looked-rest : (shape : ImageShape) (n : ℕ) (entries : List ℕ) (used : List Bool) → n < length entries → Looked shape n entries used
    → (not (get_or entries n 0 == 0) && is_in (seen n entries) (get_or entries n 0)) ≡ false
    → again_place 4 (seen (n + 1) entries) (shape.page_size + 4 * (n + 1)) (drop (n + 1) entries) ≡ again_place 4 [] shape.page_size entries
looked-rest shape n entries used lt l unseen =
    subst (λ v. again_place 4 (seen (n + 1) entries) v (drop (n + 1) entries) ≡ again_place 4 [] shape.page_size entries) (next-place shape.page_size n)
    (again-passed 4 n (shape.page_size + 4 * n) entries (again_place 4 [] shape.page_size entries) lt unseen l.rest)

pub looked-hole : (shape : ImageShape) (n : ℕ) (entries : List ℕ) (used : List Bool) → n < length entries → get_or entries n 0 ≡ 0 → Looked shape n entries used → Looked shape (n + 1) entries used
looked-hole shape n entries used lt z l = record {
  many = l.many;
  marked = rw (seen-more n entries, z) (marked-hole (first_data shape) shape.pages (seen n entries) used (omega arith) l.marked);
  rest = looked-rest shape n entries used lt l (rw z refl);
}

-- whether the block of an entry is marked tells whether it was seen
marked-seen : (shape : ImageShape) (n e : ℕ) (entries : List ℕ) (used : List Bool) → Named shape e → Looked shape n entries used
    → slice_index_or used (e - first_data shape) false ≡ is_in (seen n entries) e
marked-seen shape n e entries used d l =
    let q : first_data shape + (e - first_data shape) ≡ e = omega (arith, d.low) in
    l.marked (e - first_data shape) (omega (arith, d.low, d.high)) ∙ ap (λ v. is_in (seen n entries) v) q

pub looked-entry : (shape : ImageShape) (n : ℕ) (entries : List ℕ) (used : List Bool) → n < length entries → get_or entries n 0 ≢ 0 → Named shape (get_or entries n 0) → Looked shape n entries used
    → slice_index_or used (get_or entries n 0 - first_data shape) false ≡ false → Looked shape (n + 1) entries (set used (get_or entries n 0 - first_data shape) true)
looked-entry shape n entries used lt ne d l free = record {
  many = length-set used (get_or entries n 0 - first_data shape) true ∙ l.many;
  marked = rw (seen-more n entries) (marked-entry (first_data shape) shape.pages (get_or entries n 0) (seen n entries) used d.low d.high l.many l.marked);
  rest = looked-rest shape n entries used lt l (rw (ne_eqb (get_or entries n 0) 0 ne) (sym (marked-seen shape n (get_or entries n 0) entries used d l) ∙ free));
}

pub looked-again : (shape : ImageShape) (n : ℕ) (entries : List ℕ) (used : List Bool) → n < length entries → get_or entries n 0 ≢ 0 → Named shape (get_or entries n 0) → Looked shape n entries used
    → slice_index_or used (get_or entries n 0 - first_data shape) false ≡ true → Some (shape.page_size + 4 * n) ≡ again_place 4 [] shape.page_size entries
looked-again shape n entries used lt ne d l taken =
    again-found 4 n (shape.page_size + 4 * n) entries (again_place 4 [] shape.page_size entries) lt
    (rw (ne_eqb (get_or entries n 0) 0 ne) (sym (marked-seen shape n (get_or entries n 0) entries used d l) ∙ taken)) l.rest
