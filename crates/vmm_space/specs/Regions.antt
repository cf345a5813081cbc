-- A region, its addresses, and what an address of it leads to.
use Rattle.std.specs.Prelude.{◌≡◌, ◌≢◌, ◌≤◌, ◌<◌, ℕ, ◌+◌, ◌-◌, ◌*◌, ◌/◌, ◌%◌, List, slice_index, Bool, true, ◌==◌, ◌&&◌, not, nat_lt, nat_le, if◌then◌else◌, Result, Ok, Err}
use Rattle.std.specs.Str.{bytes_eq}
use Rattle.tower_core.specs.declared.right.Right.{Right}
use Rattle.tower_core.specs.declared.right.Right.TheVariants.{Read, Write}
use Rattle.vmm_space.specs.declared.TheConstants.{MAX_ADDRESS}
use Rattle.vmm_space.specs.declared.regions.Region.{Region}
use Rattle.vmm_space.specs.declared.regions.Place.{Place}
use Rattle.vmm_space.specs.declared.why.TranslateErr.{TranslateErr}
use Rattle.vmm_space.specs.declared.why.TranslateErr.TheVariants.{CrossesPage, NotWritable}

abbrev pub is_named : List ℕ → Region → Bool
is_named name region = bytes_eq region.name name

-- the first address behind so many pages of this size from an address on
abbrev pub behind : ℕ → ℕ → ℕ → ℕ
behind size address pages = address + pages * size

-- a byte of the region has the address
abbrev pub has_address : ℕ → ℕ → Region → Bool
has_address size address region = nat_le region.address address && nat_lt address (behind size region.address region.pages)

-- of so many pages from an address on and the region, the one that begins first goes beyond the other's first byte
abbrev pub meets : ℕ → ℕ → ℕ → Region → Bool
meets size address pages region = if nat_le region.address address
    then nat_lt address (behind size region.address region.pages)
    else nat_lt region.address (behind size address pages)

-- how far an address is behind the region's first
abbrev pub distance : ℕ → Region → ℕ
distance address region = address - region.address

abbrev pub right_of : Bool → Right
right_of write = if write then Write else Read

-- the page of an address and the place in it
abbrev pub place_in : ℕ → ℕ → Region → Place
place_in size address region =
    record { file = region.file; leaf = region.leaf; life = region.life; page = distance address region / size; off = distance address region % size; right = right_of region.write }

-- so many bytes from an address on are of one page
abbrev pub is_in_page : ℕ → ℕ → ℕ → Region → Bool
is_in_page size address len region = not (len == 0) && nat_le (distance address region % size + len) size

-- what so many bytes from an address of the region on lead to, or why not
abbrev pub access_in : ℕ → ℕ → ℕ → Bool → Region → Result Place TranslateErr
access_in size address len write region =
    if not (is_in_page size address len region) then Err CrossesPage
    else (if write && not region.write then Err NotWritable
    else Ok (place_in size address region))

-- so many bytes at a place are some, and within one page of the region's
pub record IsWithin (size len : ℕ) (region : Region) (place : Place) : Type 0 where
  pub file : place.file ≡ region.file
  pub leaf : place.leaf ≡ region.leaf
  pub life : place.life ≡ region.life
  pub page : place.page < region.pages
  pub some : 1 ≤ len
  pub within : place.off + len ≤ size

-- the region begins at a page of the space, and has the first pages of a file; each file has so many
pub record IsRegion (size : ℕ) (files : List ℕ) (region : Region) : Type 0 where
  pub aligned : region.address % size ≡ 0
  pub low : region.address ≤ MAX_ADDRESS
  pub some_page : 1 ≤ region.pages
  pub few_pages : region.pages ≤ slice_index files region.file

-- two regions have different names, and no address is of both
pub record AreApart (size : ℕ) (a b : Region) : Type 0 where
  pub names : a.name ≢ b.name
  pub bytes : (address : ℕ) → has_address size address a ≡ true → has_address size address b ≢ true
