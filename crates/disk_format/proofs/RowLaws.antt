-- The rows of the table, of which the first that is met counts.
use Rattle.std.proofs.Common.{◌≡◌, ℕ, Bool, true, false, ◌==◌, List, [], ◌∷◌, ◌++◌, Option, Some, None, Ok, Err, refl, sym, ap, ◌∙◌}
use Rattle.disk_format.specs.declared.shape.ImageShape.{ImageShape}
use Rattle.disk_format.specs.declared.image.Image.{Image}
use Rattle.disk_format.specs.declared.image.Header.{Header}
use Rattle.disk_format.specs.declared.why.BadImage.{BadImage}
use Rattle.disk_format.specs.declared.why.ImageWhy.{ImageWhy}
use Rattle.disk_format.specs.Table.{Row, wants, found, first_met, unless}
use Rattle.disk_format.specs.VersionOne.{header_in, map_in, image_at, header_rows, map_rows, entries_in, number_at, long_number_at, is_generation}
use Rattle.disk_format.specs.declared.why.ImageWhy.TheVariants.{Magic, Version, PageSize, Pages, Generation, Pad, Memory}

pub met-after : (a b : List Row) → first_met a ≡ None → first_met (a ++ b) ≡ first_met b
met-after [] b h = refl
met-after (Some x ∷ a) b h = cc
met-after (None ∷ a) b h = met-after a b h

pub met-before : (a b : List Row) (bad : BadImage) → first_met a ≡ Some bad → first_met (a ++ b) ≡ Some bad
met-before [] b bad h = cc
met-before (Some x ∷ a) b bad h = h
met-before (None ∷ a) b bad h = met-before a b bad h

pub met-head : (o : Row) (rows : List Row) → first_met (o ∷ rows) ≡ None → (o ≡ None) × (first_met rows ≡ None)
met-head None rows h = (refl, h)
met-head (Some x) rows h = cc

pub none-found : (why : ImageWhy) (o : Option ℕ) → found why o ≡ None → o ≡ None
none-found why None h = refl
none-found why (Some k) h = cc

pub unless-ok : {X : Type 0} (o : Row) (x y : X) → unless o x ≡ Ok y → (o ≡ None) × (x ≡ y)
unless-ok None x y h = (refl, cc)
unless-ok (Some bad) x y h = cc

pub unless-err : {X : Type 0} (o : Row) (x : X) (bad : BadImage) → unless o x ≡ Err bad → o ≡ Some bad
unless-err None x bad h = cc
unless-err (Some b) x bad h = cc

-- no row of a header is met for want of memory

abbrev IsOther : Row → Type 0
IsOther None = Unit {0}
IsOther (Some bad) = bad.why ≡ Memory → ⊥

abbrev AllOther : List Row → Type 0
AllOther [] = Unit {0}
AllOther (row ∷ rows) = IsOther row × AllOther rows

same-bad : (a b : BadImage) → Some a ≡ Some b → a ≡ b
same-bad a b h = cc

met-other : (rows : List Row) (bad : BadImage) → AllOther rows → first_met rows ≡ Some bad → bad.why ≡ Memory → ⊥
met-other [] bad h e m = cc
met-other (Some x ∷ rows) bad h e m = h.0 (ap (λ (b : BadImage). b.why) (same-bad x bad e) ∙ m)
met-other (None ∷ rows) bad h e m = met-other rows bad h.1 e m

wants-other : (t : Bool) (why : ImageWhy) (place : ℕ) → (why ≡ Memory → ⊥) → IsOther (wants t why place)
wants-other true why place h = tt
wants-other false why place h = h

found-other : (why : ImageWhy) (place : Option ℕ) → (why ≡ Memory → ⊥) → IsOther (found why place)
found-other why None h = tt
found-other why (Some place) h = h

pub header-other : (shape : ImageShape) (block : List ℕ) (bad : BadImage) → header_in shape block ≡ Err bad → bad.why ≡ Memory → ⊥
header-other shape block bad e =
    met-other (header_rows shape block) bad (
      wants-other _ Magic 0 (λ m. cc),
      (wants-other _ Version 4 (λ m. cc), (wants-other _ PageSize 8 (λ m. cc), (wants-other _ Pages 12 (λ m. cc), (wants-other _ Generation 16 (λ m. cc), (found-other Pad _ (λ m. cc), tt))))),
    ) (unless-err (first_met (header_rows shape block)) _ bad e)

-- a header that is none makes no image
pub image-no_header : (shape : ImageShape) (block map : List ℕ) (bad : BadImage) → header_in shape block ≡ Err bad → image_at shape block map ≡ Err bad
image-no_header shape block map bad h =
    rw (met-before (header_rows shape block) (map_rows shape map (entries_in shape.pages map)) bad (unless-err (first_met (header_rows shape block)) _ bad h)) refl

-- a good header: the map decides
pub image-no_map : (shape : ImageShape) (block map : List ℕ) (h : Header) (bad : BadImage) → header_in shape block ≡ Ok h → map_in shape map ≡ Err bad → image_at shape block map ≡ Err bad
image-no_map shape block map h bad i j =
    let o = unless-ok (first_met (header_rows shape block)) _ h i in
    rw (met-after (header_rows shape block) (map_rows shape map (entries_in shape.pages map)) o.0, unless-err (first_met (map_rows shape map (entries_in shape.pages map))) _ bad j) refl

pub image-made : (shape : ImageShape) (block map : List ℕ) (h : Header) (entries : List ℕ) → header_in shape block ≡ Ok h → map_in shape map ≡ Ok entries
    → image_at shape block map ≡ Ok (record { generation = h.generation; entries = entries })
image-made shape block map h entries i j =
    let o = unless-ok (first_met (header_rows shape block)) _ h i in
    let p = unless-ok (first_met (map_rows shape map (entries_in shape.pages map))) _ entries j in
    rw (met-after (header_rows shape block) (map_rows shape map (entries_in shape.pages map)) o.0, p.0, ← o.1, p.1) refl

-- the parts of an image
pub record Parts (shape : ImageShape) (block bytes : List ℕ) (i : Image) : Type 0 where
  pub header : header_in shape block ≡ Ok (record { generation = i.generation })
  pub map : map_in shape bytes ≡ Ok i.entries
  pub entries : entries_in shape.pages bytes ≡ i.entries

pub image-parts : (shape : ImageShape) (block bytes : List ℕ) (i : Image) → image_at shape block bytes ≡ Ok i → Parts shape block bytes i
image-parts shape block bytes i h =
    let o = unless-ok (first_met (header_rows shape block ++ map_rows shape bytes (entries_in shape.pages bytes))) _ i h in
    let a = met-split (header_rows shape block) (map_rows shape bytes (entries_in shape.pages bytes)) o.0 in
    record {
      header = rw (a.0, ← o.1) refl;
      map = rw (a.1, ← o.1) refl;
      entries = ap (λ (v : Image). v.entries) o.1;
    }
  where
    met-split : (a b : List Row) → first_met (a ++ b) ≡ None → (first_met a ≡ None) × (first_met b ≡ None)
    met-split [] b h = (refl, h)
    met-split (Some x ∷ a) b h = cc
    met-split (None ∷ a) b h = met-split a b h

-- the generation of a header is one
pub header-numbered : (shape : ImageShape) (block : List ℕ) (h : Header) → header_in shape block ≡ Ok h → is_generation h.generation ≡ true
header-numbered shape block h i =
    let o = unless-ok (first_met (header_rows shape block)) (record { generation = long_number_at 16 block }) h i in
    let a = met-head (wants (number_at 0 block == 0x53505247) Magic 0) _ o.0 in
    let b = met-head (wants (number_at 4 block == 1) Version 4) _ a.1 in
    let c = met-head (wants (number_at 8 block == shape.page_size) PageSize 8) _ b.1 in
    let d = met-head (wants (number_at 12 block == shape.pages) Pages 12) _ c.1 in
    let e = met-head (wants (is_generation (long_number_at 16 block)) Generation 16) _ d.1 in
    rw (ap (λ (h : Header). is_generation h.generation) (sym o.1)) (wanted (is_generation (long_number_at 16 block)) e.0)
  where
    wanted : (t : Bool) → wants t Generation 16 ≡ None → t ≡ true
    wanted true h = refl
    wanted false h = cc
