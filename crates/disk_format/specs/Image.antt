-- What the blocks of an image stand for.
use Rattle.std.specs.Prelude.{ℕ, List, map, get_or, take, replicate, [], Option, Some, None, Result, Ok, Err, if◌then◌else◌, ◌==◌}
use Rattle.std.specs.List.{concat}
use Rattle.disk_format.specs.declared.shape.ImageShape.{ImageShape}
use Rattle.disk_format.specs.declared.image.Image.{Image}
use Rattle.disk_format.specs.declared.why.BadImage.{BadImage}
use Rattle.disk_format.specs.Shape.{first_data}
use Rattle.disk_format.specs.VersionOne.{image_in}
use Rattle.page_ground.specs.Seen.{Imaged}

-- the page that an entry names: a hole is zeros
abbrev pub page_of : ℕ → List (List ℕ) → ℕ → List ℕ
page_of size blocks e = if e == 0 then replicate size 0 else get_or blocks e []

abbrev pub pages_of : ℕ → List (List ℕ) → List ℕ → List (List ℕ)
pages_of size blocks entries = map (page_of size blocks) entries

-- the bytes of the header and the map
abbrev pub front_of : ImageShape → List (List ℕ) → List ℕ
front_of shape blocks = concat (take (first_data shape) blocks)

abbrev pub imaged : ImageShape → List (List ℕ) → Result Image BadImage → Option Imaged
imaged shape blocks (Ok i) = Some (record { generation = i.generation; pages = pages_of shape.page_size blocks i.entries })
imaged shape blocks (Err bad) = None

-- the generation and the pages that the header, the map and the data blocks stand for; or nothing
abbrev pub image : ImageShape → List (List ℕ) → Option Imaged
image shape blocks = imaged shape blocks (image_in shape (front_of shape blocks))
