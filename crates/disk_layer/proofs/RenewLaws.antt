-- A fresh image that is written over other blocks, once their header is none.
use Rattle.std.proofs.Common.{◌≡◌, ◌⊎◌, ⊎_elim, inl, inr, ℕ, zero, suc, ◌-◌, ◌<◌, ◌≤◌, List, [], ◌∷◌, length, get_or, set, drop, replicate, Option, Some, None, Err, refl, sym, ap, ◌∙◌, subst, arith}
use Rattle.std.specs.Prelude.{is_some}
use Rattle.std.proofs.lemmas.Bool.{ne_eqb, eq-eqb}
use Rattle.std.proofs.lemmas.List.{length-set}
use Rattle.std.proofs.Math.Nat.{eq-or-lt_of_le}
use Rattle.spr_io.specs.Content.{Content, HasShape, IsShaped, written}
use Rattle.disk_format.specs.declared.shape.ImageShape.{ImageShape}
use Rattle.disk_format.specs.declared.why.BadImage.{BadImage}
use Rattle.disk_format.specs.declared.why.ImageWhy.TheVariants.{Magic}
use Rattle.disk_format.specs.Shape.{map_blocks, first_data, blocks_of}
use Rattle.disk_format.specs.VersionOne.{number_at, header_in, image_in}
use Rattle.disk_format.specs.Image.{image, imaged, front_of}
use Rattle.disk_format.proofs.RowLaws.{image-no_header}
use Rattle.disk_format.proofs.MapLaws.{Sizes, sizes-all}
use Rattle.disk_format.proofs.ShapeLaws.{size_low}
use Rattle.disk_format.proofs.ImageLaws.{front-parts, head-data, head-header}
use Rattle.disk_layer.specs.Front.{FrontSeen, IsFresh}
use Rattle.disk_layer.specs.Disk.{laid, formatted}
use Rattle.disk_layer.specs.Calls.{IsNone, IsNoneOrFresh, fresh_image}
use Rattle.disk_layer.proofs.BlockLaws.{length-laid}
use Rattle.disk_layer.proofs.DiskLaws.{fresh-image}

zeros-head : (m : ℕ) → 4 ≤ m → number_at 0 (replicate m 0) ≡ 0
unfolding number_at
zeros-head m room =
    let k = m - 4 in
    let e : m ≡ suc (suc (suc (suc k))) = omega arith in
    rw e refl

abbrev no_magic : BadImage
no_magic = record { place = 0; why = Magic }

-- zeros are no header
header-zeros : (shape : ImageShape) → 64 ≤ shape.page_size → header_in shape (replicate shape.page_size 0) ≡ Err no_magic
header-zeros shape low = rw (zeros-head shape.page_size (omega arith)) refl

pub no-image : (shape : ImageShape) (blocks : List (List ℕ)) → 64 ≤ shape.page_size → Sizes shape.page_size blocks → 1 ≤ length blocks → get_or blocks 0 [] ≡ replicate shape.page_size 0 → image shape blocks ≡ None
no-image shape blocks low sizes room head =
    let f = front-parts shape blocks sizes room in
    let i : image_in shape (front_of shape blocks) ≡ Err no_magic =
    rw (f.block, head) (image-no_header shape (replicate shape.page_size 0) (drop shape.page_size (front_of shape blocks)) no_magic (header-zeros shape low)) in
    ap (λ r. imaged shape blocks r) i

-- the blocks of the map leave the header
pub laid-first : (shape : ImageShape) (n : ℕ) (blocks : List (List ℕ)) → n ≤ map_blocks shape → get_or (laid shape n blocks) 0 [] ≡ get_or blocks 0 []
laid-first shape zero blocks le = refl
laid-first shape (suc n) blocks le =
    rw (ne_eqb n (map_blocks shape) (λ q. omega arith)) (head-data (laid shape n blocks) (suc n) (replicate shape.page_size 0) (omega arith) ∙ laid-first shape n blocks (omega arith))

set-swap : (blocks : List (List ℕ)) (n : ℕ) (x y : List ℕ) → set (set blocks 0 x) (suc n) y ≡ set (set blocks (suc n) y) 0 x
set-swap [] n x y = refl
set-swap (b ∷ bs) n x y = refl

set-twice : (blocks : List (List ℕ)) (x y : List ℕ) → set (set blocks 0 x) 0 y ≡ set blocks 0 y
set-twice [] x y = refl
set-twice (b ∷ bs) x y = refl

-- what the header was before is no matter
laid-over : (shape : ImageShape) (n : ℕ) (blocks : List (List ℕ)) (x : List ℕ) → n ≤ map_blocks shape → laid shape n (set blocks 0 x) ≡ set (laid shape n blocks) 0 x
laid-over shape zero blocks x le = refl
laid-over shape (suc n) blocks x le =
    rw (ne_eqb n (map_blocks shape) (λ q. omega arith))
    (ap (λ l. set l (suc n) (replicate shape.page_size 0)) (laid-over shape n blocks x (omega arith)) ∙ set-swap (laid shape n blocks) n x (replicate shape.page_size 0))

laid-all-over : (shape : ImageShape) (blocks : List (List ℕ)) (x : List ℕ) → laid shape (first_data shape) (set blocks 0 x) ≡ laid shape (first_data shape) blocks
laid-all-over shape blocks x =
    let e : first_data shape ≡ suc (map_blocks shape) = omega arith in
    rw (e, eq-eqb (map_blocks shape) (map_blocks shape) refl, laid-over shape (map_blocks shape) blocks x (omega arith)) (set-twice (laid shape (map_blocks shape) blocks) x _)

pub formatted-over : (shape : ImageShape) (x : List ℕ) (content : Option Content) → formatted shape (first_data shape) (written 0 x content) ≡ formatted shape (first_data shape) content
formatted-over shape x None = refl
formatted-over shape x (Some c) = ap (λ l. Some (record c { blocks = l })) (laid-all-over shape c.blocks x)

part-image : (f : FrontSeen) (n : ℕ) (c : Content) → IsFresh f → n ≤ first_data f.shape → IsShaped f.shape.page_size (blocks_of f.shape) (formatted f.shape n (written 0 (replicate f.shape.page_size 0) (Some c)))
    → IsNoneOrFresh f.shape (formatted f.shape n (written 0 (replicate f.shape.page_size 0) (Some c)))
part-image f n c fresh le h = ⊎_elim whole begun (eq-or-lt_of_le le)
  where
    z : List ℕ
    z = replicate f.shape.page_size 0

    over : List (List ℕ)
    over = set c.blocks 0 (replicate f.shape.page_size 0)

    whole : n ≡ first_data f.shape → IsNoneOrFresh f.shape (formatted f.shape n (written 0 z (Some c)))
    whole e = inr (subst (λ k. image f.shape (laid f.shape k over) ≡ Some (fresh_image f.shape)) (sym e)
        (fresh-image f (record c { blocks = over }) fresh (subst (λ k. HasShape f.shape.page_size (blocks_of f.shape) (record c { blocks = laid f.shape k over })) e h)))

    begun : n < first_data f.shape → IsNoneOrFresh f.shape (formatted f.shape n (written 0 z (Some c)))
    begun lt =
        let few : n ≤ map_blocks f.shape = omega (arith, lt) in
        let many = length-laid f.shape n over few in
        let room = h.blocks in
        let some : 1 ≤ length (laid f.shape n over) = omega (arith, room) in
        let some2 : 1 ≤ length c.blocks = omega (arith, some, many, length-set c.blocks 0 z) in
        inl (no-image f.shape (laid f.shape n over) (size_low f.shape fresh.map.fit) (sizes-all f.shape.page_size (laid f.shape n over) h.sizes) some
        (laid-first f.shape n over few ∙ head-header c.blocks z some2))

-- what was written of a fresh image, over blocks of which the header was made none first
pub none-or-fresh : (f : FrontSeen) (before after : Option Content) → IsFresh f → IsShaped f.shape.page_size (blocks_of f.shape) after
    → (after ≡ before) ⊎ ((n : ℕ) × (n ≤ first_data f.shape) × (after ≡ formatted f.shape n (written 0 (replicate f.shape.page_size 0) before))) → IsNone f.shape before → IsNoneOrFresh f.shape after
none-or-fresh f None after fresh h (inl e) none = rw e tt
none-or-fresh f (Some c) after fresh h (inl e) none = rw e (inl none)
none-or-fresh f None after fresh h (inr (n, le, e)) none = rw e tt
none-or-fresh f (Some c) after fresh h (inr (n, le, e)) none =
    subst (IsNoneOrFresh f.shape) (sym e) (part-image f n c fresh le (subst (IsShaped f.shape.page_size (blocks_of f.shape)) e h))

-- and it is told as before
pub over-told : (shape : ImageShape) (before after : Option Content) → (after ≡ before) ⊎ ((n : ℕ) × (n ≤ first_data shape) × (after ≡ formatted shape n (written 0 (replicate shape.page_size 0) before))) → is_some after ≡ is_some before
over-told shape before after (inl e) = ap is_some e
over-told shape None after (inr (n, le, e)) = ap is_some e
over-told shape (Some c) after (inr (n, le, e)) = ap is_some e
