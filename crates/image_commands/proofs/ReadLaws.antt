-- The pages of a disk, read all at once.
use Rattle.std.proofs.Common.{◌≡◌, ℕ, ◌+◌, ◌*◌, ◌<◌, ◌≤◌, List, length, take, drop, get_or, Option, Some, None, IfSome, ap, ◌∙◌, arith}
use Rattle.std.specs.Prelude.{All}
use Rattle.std.specs.Option.{option_map}
use Rattle.std.proofs.lemmas.List.{length-drop, length-take-le}
use Rattle.spr_io.specs.Content.{Content}
use Rattle.disk_format.specs.declared.shape.ImageShape.{ImageShape}
use Rattle.page_ground.specs.Seen.{Imaged}
use Rattle.disk_format.specs.Image.{image, pages_of}
use Rattle.disk_layer.specs.Disk.{Disk, HasImage, pages_on}
use Rattle.page_ground.specs.Pages.{cut}
use Rattle.disk_layer.proofs.PageLaws.{length-cut, page-cut}
use Rattle.std.proofs.lemmas.Nat.{mul-le}
use Rattle.std.proofs.lemmas.Option.{get_or_from_slice_get}
use Rattle.image_commands.specs.Pages.{ArePagesOf}

-- each page has its size
pub cut-sizes : (size n : ℕ) (bytes : List ℕ) → length bytes ≡ n * size → All (λ p. length p ≡ size) (cut size n bytes)
cut-sizes size n bytes long = λ k d lt.
    let many = length-cut size n bytes in
    let within : k < n = omega (arith, many, lt) in
    let page : List ℕ = take size (drop (k * size) bytes) in
    let here : get_or (cut size n bytes) k d ≡ page = get_or_from_slice_get (cut size n bytes) k page d (page-cut size n k bytes within) in
    let rows : (k + 1) * size ≤ n * size = mul-le (k + 1) size n size (omega (arith, within)) (omega arith) in
    ap length here ∙ length-take-le size (drop (k * size) bytes) (omega (arith, length-drop (k * size) bytes, long, rows, grow k size))
  where
    grow : (m p : ℕ) → (m + 1) * p ≡ m * p + p
    grow m p = grind arith

-- what the blocks stand for has the pages of the disk
told-by : (shape : ImageShape) (generation : ℕ) (entries : List ℕ) (content : Option Content) (pages : List (List ℕ)) → IfSome content (λ c. image shape c.blocks ≡ Some (record { generation = generation; pages = pages_of shape.page_size c.blocks entries }))
    → IfSome (option_map {T = Content} (λ c. pages_of shape.page_size c.blocks entries) content) (λ ps. ps ≡ pages) → IfSome content (λ c. option_map {T = Imaged} (λ i. i.pages) (image shape c.blocks) ≡ Some pages)
told-by shape generation entries None pages is read = tt
told-by shape generation entries (Some c) pages is read = ap (λ (o : Option Imaged). option_map {T = Imaged} (λ i. i.pages) o) is ∙ ap (λ (ps : List (List ℕ)). Some ps) read

-- the bytes of all pages of a disk are its pages
pub pages-read : (d : Disk) (bytes : List ℕ) → HasImage d → length bytes ≡ d.shape.pages * d.shape.page_size → IfSome (pages_on d) (λ pages. pages ≡ cut d.shape.page_size d.shape.pages bytes)
    → ArePagesOf d.shape d.content (cut d.shape.page_size d.shape.pages bytes)
pages-read d bytes image long read = record {
  number = length-cut d.shape.page_size d.shape.pages bytes;
  sizes = cut-sizes d.shape.page_size d.shape.pages bytes long;
  told = told-by d.shape d.generation d.entries d.content (cut d.shape.page_size d.shape.pages bytes) image read;
}
