-- Version 1 of the format: a header in block 0, and a map with an entry for each page in the blocks after it.
-- All numbers have the highest byte first.
use Rattle.std.specs.Prelude.{ℕ, zero, suc, ◌+◌, ◌-◌, ◌*◌, ◌^◌, ◌&&◌, ◌||◌, not, nat_le, nat_lt, List, [], ◌∷◌, ◌++◌, take, drop, replicate, Bool, Result, ◌==◌}
use Rattle.byteorder.specs.Endian.{big_number, big_bytes}
use Rattle.disk_format.specs.declared.shape.ImageShape.{ImageShape}
use Rattle.disk_format.specs.declared.image.Image.{Image}
use Rattle.disk_format.specs.declared.image.Header.{Header}
use Rattle.disk_format.specs.declared.why.BadImage.{BadImage}
use Rattle.disk_format.specs.declared.why.ImageWhy.TheVariants.{Magic, Version, PageSize, Pages, Generation, Pad, Entry, Twice, Tail}
use Rattle.disk_format.specs.Shape.{first_data}
use Rattle.disk_format.specs.Table.{Row, wants, found, first_met, unless, first_place, again_place}

-- the number of the four bytes at a place, and of the eight
unfoldable pub number_at : ℕ → List ℕ → ℕ
number_at place bytes = big_number 4 (drop place bytes)

unfoldable pub long_number_at : ℕ → List ℕ → ℕ
long_number_at place bytes = big_number 8 (drop place bytes)

-- the header's block: `SPRG`, the version, the page size, the number of pages, the generation, and zeros
abbrev pub header : ImageShape → ℕ → List ℕ
header shape generation =
    big_bytes 4 0x53505247
    ++ (big_bytes 4 1 ++ (big_bytes 4 shape.page_size ++ (big_bytes 4 shape.pages ++ (big_bytes 8 generation ++ replicate (shape.page_size - 24) 0))))

-- from 1 to 9,223,372,036,854,775,807
abbrev pub is_generation : ℕ → Bool
is_generation n = nat_lt 0 n && nat_lt n (2 ^ 63)

abbrev pub header_rows : ImageShape → List ℕ → List Row
header_rows shape block =
    wants (number_at 0 block == 0x53505247) Magic 0
    ∷ wants (number_at 4 block == 1) Version 4
    ∷ wants (number_at 8 block == shape.page_size) PageSize 8
    ∷ wants (number_at 12 block == shape.pages) Pages 12
    ∷ wants (is_generation (long_number_at 16 block)) Generation 16
    ∷ found Pad (first_place 1 (λ b. not (b == 0)) 24 (drop 24 block))
    ∷ []

-- the header that a block stands for, or where and why it is no header
abbrev pub header_in : ImageShape → List ℕ → Result Header BadImage
header_in shape block = unless (first_met (header_rows shape block)) (record { generation = long_number_at 16 block })

-- the entry of a page in the bytes of the map
abbrev pub entry_of : List ℕ → ℕ → ℕ
entry_of map page = number_at (4 * page) map

-- the entries of the first n pages
abbrev pub entries_in : ℕ → List ℕ → List ℕ
entries_in zero map = []
entries_in (suc n) map = number_at 0 map ∷ entries_in n (drop 4 map)

-- the bytes of the map with another entry for a page
abbrev pub with_entry : List ℕ → ℕ → ℕ → List ℕ
with_entry map page entry = take (4 * page) map ++ (big_bytes 4 entry ++ drop (4 * page + 4) map)

-- 0 for a hole, else the number of a data block
abbrev pub is_entry : ImageShape → ℕ → Bool
is_entry shape e = e == 0 || (nat_le (first_data shape) e && nat_lt e (first_data shape + shape.pages))

abbrev pub map_rows : ImageShape → List ℕ → List ℕ → List Row
map_rows shape map entries =
    found Entry (first_place 4 (λ e. not (is_entry shape e)) shape.page_size entries)
    ∷ found Twice (again_place 4 [] shape.page_size entries)
    ∷ found Tail (first_place 1 (λ b. not (b == 0)) (shape.page_size + 4 * shape.pages) (drop (4 * shape.pages) map))
    ∷ []

-- the entries that the bytes of the map stand for, or where and why they are no map
abbrev pub map_in : ImageShape → List ℕ → Result (List ℕ) BadImage
map_in shape map = unless (first_met (map_rows shape map (entries_in shape.pages map))) (entries_in shape.pages map)

-- the rows of the header, and then those of the map
abbrev pub rows : ImageShape → List ℕ → List ℕ → List Row
rows shape block map = header_rows shape block ++ map_rows shape map (entries_in shape.pages map)

-- what a header's block and the bytes of the map stand for, or where and why they are no image
abbrev pub image_at : ImageShape → List ℕ → List ℕ → Result Image BadImage
image_at shape block map =
    unless (first_met (rows shape block map)) (record { generation = long_number_at 16 block; entries = entries_in shape.pages map })

-- the same in one piece
abbrev pub image_in : ImageShape → List ℕ → Result Image BadImage
image_in shape front = image_at shape (take shape.page_size front) (drop shape.page_size front)
