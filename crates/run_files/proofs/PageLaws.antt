-- The pages of an image, and the file that they are.
use Rattle.std.proofs.Common.{◌≡◌, inl, inr, ℕ, zero, suc, ◌+◌, ◌*◌, ◌<◌, List, [], ◌∷◌, ◌++◌, length, get_or, take, drop, not, false, Some, None, Result, Ok, Err, refl, sym, ap, subst, ◌∙◌, arith, length-append}
use Rattle.std.specs.Prelude.{slice_get}
use Rattle.std.specs.List.{concat}
use Rattle.std.proofs.lemmas.Bool.{cases_eq, eq-eqb, ne_eqb}
use Rattle.std.proofs.lemmas.List.{drop-drop, drop_at, take_at, length-map, length-replicate}
use Rattle.hist_plain.specs.History.{page_in}
use Rattle.disk_format.specs.declared.shape.ImageShape.{ImageShape}
use Rattle.disk_format.specs.declared.image.Image.{Image}
use Rattle.disk_format.specs.declared.why.BadImage.{BadImage}
use Rattle.disk_format.specs.Shape.{blocks_of}
use Rattle.disk_format.specs.Table.{first_place}
use Rattle.disk_format.specs.VersionOne.{is_entry, image_in}
use Rattle.page_ground.specs.Seen.{Imaged}
use Rattle.disk_format.specs.Image.{front_of, image, imaged, page_of, pages_of}
use Rattle.disk_format.proofs.EntryLaws.{length-entries_in}
use Rattle.disk_format.proofs.MapLaws.{Sizes, map-good}
use Rattle.disk_format.proofs.RowLaws.{image-parts}
use Rattle.disk_format.proofs.SeenLaws.{entry-named}
use Rattle.disk_format.proofs.TableLaws.{pick-none}
use Rattle.tower_shows.specs.Began.{ArePagesOf}
use Rattle.file_stores.proofs.Lists.{some-is}

size-at : (size : ℕ) (bs : List (List ℕ)) (k : ℕ) → Sizes size bs → k < length bs → length (get_or bs k []) ≡ size
size-at size [] k s lt = absurd (omega (arith, lt))
size-at size (b ∷ bs) zero s lt = s.0
size-at size (b ∷ bs) (suc k) s lt = size-at size bs k s.1 (omega (arith, lt))

-- a page that an entry names is whole
page-long : (shape : ImageShape) (blocks : List (List ℕ)) (e : ℕ) → Sizes shape.page_size blocks → length blocks ≡ blocks_of shape → not (is_entry shape e) ≡ false → length (page_of shape.page_size blocks e) ≡ shape.page_size
page-long shape blocks e s many good =
    elim (cases_eq e 0) [
      | inl z ↦ rw (eq-eqb e 0 z) (length-replicate shape.page_size 0)
      | inr ne ↦ rw (ne_eqb e 0 ne) (let high = (entry-named shape e good ne).high in size-at shape.page_size blocks e s (omega (arith, high, many)))
    ]

pages-long : (shape : ImageShape) (blocks : List (List ℕ)) (place : ℕ) (entries : List ℕ) → Sizes shape.page_size blocks → length blocks ≡ blocks_of shape → first_place 4 (λ e. not (is_entry shape e)) place entries ≡ None
    → Sizes shape.page_size (pages_of shape.page_size blocks entries)
pages-long shape blocks place [] s many good = tt
pages-long shape blocks place (e ∷ entries) s many good =
    let here = pick-none (not (is_entry shape e)) place (first_place 4 (λ e. not (is_entry shape e)) (place + 4) entries) good in
    (page-long shape blocks e s many here.0, pages-long shape blocks (place + 4) entries s many here.1)

-- so many pages as the shape has, each of its size
pub record ArePaged (shape : ImageShape) (pages : List (List ℕ)) : Type 0 where
  pub many : length pages ≡ shape.pages
  pub sizes : Sizes shape.page_size pages

-- an image has as many pages as its shape
pub image-many : (shape : ImageShape) (blocks : List (List ℕ)) (found : Imaged) → image shape blocks ≡ Some found → length found.pages ≡ shape.pages
image-many shape blocks found is = by (image_in shape (front_of shape blocks)) refl is
  where
    by : (r : Result Image BadImage) → image_in shape (front_of shape blocks) ≡ r → imaged shape blocks r ≡ Some found → length found.pages ≡ shape.pages
    by (Err bad) e told = absurd cc
    by (Ok i) e told =
        let parts = image-parts shape (take shape.page_size (front_of shape blocks)) (drop shape.page_size (front_of shape blocks)) i e in
        let here : Imaged = record { generation = i.generation; pages = pages_of shape.page_size blocks i.entries } in
        ap (λ (x : Imaged). length x.pages) (sym (some-is here found told))
        ∙ (length-map i.entries (page_of shape.page_size blocks) ∙ (ap length (sym parts.entries) ∙ length-entries_in shape.pages (drop shape.page_size (front_of shape blocks))))

-- the pages of an image
pub image-paged : (shape : ImageShape) (blocks : List (List ℕ)) (found : Imaged) → Sizes shape.page_size blocks → length blocks ≡ blocks_of shape → image shape blocks ≡ Some found → ArePaged shape found.pages
image-paged shape blocks found s many is = by (image_in shape (front_of shape blocks)) refl is
  where
    by : (r : Result Image BadImage) → image_in shape (front_of shape blocks) ≡ r → imaged shape blocks r ≡ Some found → ArePaged shape found.pages
    by (Err bad) e told = absurd cc
    by (Ok i) e told =
        let parts = image-parts shape (take shape.page_size (front_of shape blocks)) (drop shape.page_size (front_of shape blocks)) i e in
        let good = map-good shape (drop shape.page_size (front_of shape blocks)) i.entries parts.map in
        let here : Imaged = record { generation = i.generation; pages = pages_of shape.page_size blocks i.entries } in
        subst (λ (x : Imaged). ArePaged shape x.pages) (some-is here found told)
        (record {
          many = ap (λ (x : Imaged). length x.pages) (some-is here found told) ∙ image-many shape blocks found is;
          sizes = pages-long shape blocks shape.page_size i.entries s many good.0.entry;
        })

-- the bytes of pages of one size
pub length-joined : (size : ℕ) (ps : List (List ℕ)) → Sizes size ps → length (concat ps) ≡ length ps * size
length-joined size [] s = omega arith
length-joined size (p ∷ ps) s =
    let rest = length-joined size ps s.1 in
    let e : suc (length ps) * size ≡ size + length ps * size = omega arith in
    length-append p (concat ps) ∙ (ap (λ n. n + length (concat ps)) s.0 ∙ (ap (λ n. size + n) rest ∙ sym e))

-- the page behind the first
page_in-drop : (size page : ℕ) (bytes : List ℕ) → page_in size (drop size bytes) page ≡ page_in size bytes (suc page)
page_in-drop size page bytes =
    let at : size + (page * size + 0) ≡ suc page * size + 0 = omega arith in
    ap (take size) (drop-drop (page * size + 0) size bytes ∙ ap (λ n. drop n bytes) at)

page_in-joined : (size : ℕ) (ps : List (List ℕ)) (page : ℕ) → Sizes size ps → page < length ps → slice_get ps page ≡ Some (page_in size (concat ps) page)
page_in-joined size [] page s lt = absurd (omega (arith, lt))
page_in-joined size (p ∷ ps) zero s lt =
    let at : 0 ≡ 0 * size + 0 = omega arith in
    ap (λ (bs : List ℕ). Some bs) (sym (take_at p (concat ps) size s.0) ∙ ap (λ n. take size (drop n (p ++ concat ps))) at)
page_in-joined size (p ∷ ps) (suc page) s lt =
    page_in-joined size ps page s.1 (omega (arith, lt))
    ∙ ap (λ (bs : List ℕ). Some bs) (ap (λ (bs : List ℕ). page_in size bs page) (sym (drop_at p (concat ps) size s.0)) ∙ page_in-drop size page (p ++ concat ps))

-- they are the pages of the file that they make together
pub joined-are : (shape : ImageShape) (ps : List (List ℕ)) → ArePaged shape ps → ArePagesOf shape.page_size shape.pages (concat ps) ps
joined-are shape ps are = record {
  many = are.many;
  each = λ page lt. let many = are.many in page_in-joined shape.page_size ps page are.sizes (omega (arith, lt, many));
}

pub length-of : (shape : ImageShape) (ps : List (List ℕ)) → ArePaged shape ps → length (concat ps) ≡ shape.pages * shape.page_size
length-of shape ps are = length-joined shape.page_size ps are.sizes ∙ ap (λ n. n * shape.page_size) are.many
