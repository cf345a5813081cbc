-- The shape of an image.
use Rattle.std.specs.Prelude.{◌≡◌, ℕ, ◌+◌, ◌*◌, ◌^◌, ◌≤◌}
use Rattle.std.specs.Int.{div_ceil}
use Rattle.disk_format.specs.declared.shape.ImageShape.{ImageShape}

-- a power of two from 64 to 4,096
abbrev pub IsPageSize : ℕ → Type 0
IsPageSize size = (k : ℕ) × (6 ≤ k) × (k ≤ 12) × (size ≡ 2 ^ k)

-- a page size, and 1 to 1,024 pages
pub record IsShape (shape : ImageShape) : Type 0 where
  pub size : IsPageSize shape.page_size
  pub some : 1 ≤ shape.pages
  pub few : shape.pages ≤ 1024

-- the least number of blocks with four bytes for each page
unfoldable pub map_blocks : ImageShape → ℕ
map_blocks shape = div_ceil (4 * shape.pages) shape.page_size

-- the first data block, after the header and the map
abbrev pub first_data : ImageShape → ℕ
first_data shape = 1 + map_blocks shape

-- the header, the map, and a data block for each page
abbrev pub blocks_of : ImageShape → ℕ
blocks_of shape = first_data shape + shape.pages

-- the bytes of the header and the map
abbrev pub front_length : ImageShape → ℕ
front_length shape = first_data shape * shape.page_size
