-- An image, from its header and its map, and under writes of blocks.
use Rattle.std.proofs.Common.{◌≡◌, ℕ, suc, ◌+◌, ◌-◌, ◌*◌, ◌<◌, ◌≤◌, List, [], ◌∷◌, length, get_or, take, drop, set, Some, Ok, sym, ◌∙◌, ap, arith}
use Rattle.std.specs.List.{concat}
use Rattle.std.proofs.lemmas.List.{take_at, drop_at, get_or-set_same, get_or-set_other, take-set-le, drop-set-add, drop-set-lt, length-take, length-drop}
use Rattle.std.proofs.Math.Seq.{take-set-lt}
use Rattle.disk_format.specs.declared.shape.ImageShape.{ImageShape}
use Rattle.disk_format.specs.Shape.{map_blocks, first_data}
use Rattle.disk_format.specs.VersionOne.{header_in, map_in, image_in, with_entry}
use Rattle.disk_format.specs.Image.{image, imaged, pages_of, front_of}
use Rattle.disk_format.proofs.RowLaws.{image-made}
use Rattle.disk_format.proofs.MapLaws.{Sizes, sizes-take, sizes-drop, concat-set, take-written, drop-written}

-- the bytes of block 0, and of the map's blocks
pub record Fronts (shape : ImageShape) (blocks : List (List ℕ)) : Type 0 where
  pub block : take shape.page_size (front_of shape blocks) ≡ get_or blocks 0 []
  pub map : drop shape.page_size (front_of shape blocks) ≡ concat (take (map_blocks shape) (drop 1 blocks))

pub front-parts : (shape : ImageShape) (blocks : List (List ℕ)) → Sizes shape.page_size blocks → 1 ≤ length blocks → Fronts shape blocks
front-parts shape [] s lt = absurd (omega arith)
front-parts shape (b ∷ bs) s lt =
    let e : first_data shape ≡ suc (map_blocks shape) = omega arith in
    record {
      block = rw e (take_at b (concat (take (map_blocks shape) bs)) shape.page_size s.0);
      map = rw e (drop_at b (concat (take (map_blocks shape) bs)) shape.page_size s.0);
    }

-- the image of a good header and a good map
pub image-tied : (shape : ImageShape) (blocks : List (List ℕ)) (g : ℕ) (bytes entries : List ℕ) → Sizes shape.page_size blocks → 1 ≤ length blocks
    → header_in shape (get_or blocks 0 []) ≡ Ok (record { generation = g }) → concat (take (map_blocks shape) (drop 1 blocks)) ≡ bytes → map_in shape bytes ≡ Ok entries
    → image shape blocks ≡ Some (record { generation = g; pages = pages_of shape.page_size blocks entries })
image-tied shape blocks g bytes entries s lt header joined map =
    let f = front-parts shape blocks s lt in
    let i : image_in shape (front_of shape blocks) ≡ Ok (record { generation = g; entries = entries }) =
    rw (f.block, f.map, joined) (image-made shape (get_or blocks 0 []) bytes (record { generation = g }) entries header map) in
    ap (λ r. imaged shape blocks r) i

-- a data block is none of the front
pub head-data : (blocks : List (List ℕ)) (b : ℕ) (x : List ℕ) → 1 ≤ b → get_or (set blocks b x) 0 [] ≡ get_or blocks 0 []
head-data blocks b x le = get_or-set_other blocks b 0 x [] (λ q. omega arith)

pub map-data : (m : ℕ) (blocks : List (List ℕ)) (b : ℕ) (x : List ℕ) → 1 + m ≤ b → take m (drop 1 (set blocks b x)) ≡ take m (drop 1 blocks)
map-data m blocks b x le =
    let e : 1 + (b - 1) ≡ b = omega arith in
    ap (λ k. take m (drop 1 (set blocks k x))) (sym e) ∙ ap (λ l. take m l) (drop-set-add 1 blocks (b - 1) x) ∙ take-set-le m (drop 1 blocks) (b - 1) x (omega arith)

-- a block of the map
pub map-part : (m : ℕ) (blocks : List (List ℕ)) (k : ℕ) (x : List ℕ) → k < m → take m (drop 1 (set blocks (1 + k) x)) ≡ set (take m (drop 1 blocks)) k x
map-part m blocks k x lt = ap (λ l. take m l) (drop-set-add 1 blocks k x) ∙ take-set-lt m (drop 1 blocks) k x lt

-- the header's block
pub head-header : (blocks : List (List ℕ)) (x : List ℕ) → 1 ≤ length blocks → get_or (set blocks 0 x) 0 [] ≡ x
head-header blocks x le = get_or-set_same blocks 0 x [] (omega arith)

pub map-header : (blocks : List (List ℕ)) (x : List ℕ) → drop 1 (set blocks 0 x) ≡ drop 1 blocks
map-header blocks x = drop-set-lt 1 blocks 0 x (omega arith)

-- the map's blocks, once the block with a written entry was written
pub concat-written : (size m : ℕ) (blocks : List (List ℕ)) (bytes : List ℕ) (p e k : ℕ) → Sizes size blocks → 1 + m ≤ length blocks → k < m → concat (take m (drop 1 blocks)) ≡ bytes
    → k * size ≤ 4 * p → 4 * p + 4 ≤ size + k * size → size + k * size ≤ length bytes
    → concat (take m (drop 1 (set blocks (1 + k) (take size (drop (k * size) (with_entry bytes p e)))))) ≡ with_entry bytes p e
concat-written size m blocks bytes p e k s many lt is low high whole =
    let bs = take m (drop 1 blocks) in
    let l : length bs ≡ m = simp (length-take, length-drop) (omega arith) in
    let q = map-part m blocks k (take size (drop (k * size) (with_entry bytes p e))) lt in
    rw q
    (concat-set size bs k (with_entry bytes p e) (sizes-take size m (drop 1 blocks) (sizes-drop size 1 blocks s)) (omega arith)
    (take-written bytes p e (k * size) low (omega arith) ∙ ap (λ v. take (k * size) v) (sym is))
    (drop-written bytes p e (size + k * size) high whole ∙ ap (λ v. drop (size + k * size) v) (sym is)))
