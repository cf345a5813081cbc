-- The pages of a store's image, and how they are printed.
use Rattle.std.specs.Prelude.{◌≡◌, ℕ, suc, List, [], ◌∷◌, ◌++◌, codes, length, All, Option, Some, IfSome, if◌then◌else◌}
use Rattle.std.specs.Option.{option_map}
use Rattle.std.specs.Fmt.{decimal}
use Rattle.hex.specs.Hex.{encode_lower}
use Rattle.text_words.specs.Lines.{line_of}
use Rattle.spr_io.specs.Content.{Content}
use Rattle.disk_format.specs.declared.shape.ImageShape.{ImageShape}
use Rattle.page_ground.specs.Seen.{Imaged}
use Rattle.disk_format.specs.Image.{image}
use Rattle.page_ground.specs.Pages.{are_zeros}

-- these are, if that is told, the pages that the blocks stand for; there is one for each page of the shape
pub record ArePagesOf (shape : ImageShape) (content : Option Content) (pages : List (List ℕ)) : Type 0 where
  pub number : length pages ≡ shape.pages
  pub sizes : All (λ p. length p ≡ shape.page_size) pages
  pub told : IfSome content (λ c. option_map {T = Imaged} (λ i. i.pages) (image shape c.blocks) ≡ Some pages)

-- a page of zeros has a word of its own, and any other is its bytes
abbrev pub page_word : List ℕ → List ℕ
page_word bytes = if are_zeros bytes then codes "zeros" else encode_lower bytes

-- the line of a page and its number
abbrev pub page_line : ℕ → List ℕ → List ℕ
page_line number bytes = line_of (codes "page" ∷ decimal number ∷ page_word bytes ∷ [])

-- the lines of pages from this number on
abbrev pub page_lines : ℕ → List (List ℕ) → List ℕ
page_lines number [] = []
page_lines number (page ∷ pages) = page_line number page ++ page_lines (suc number) pages
