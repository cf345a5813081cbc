-- The address space of a client, and what its calls answer.
use Rattle.std.specs.Prelude.{◌≡◌, ◌≤◌, ◌<◌, ℕ, ◌+◌, ◌%◌, List, [], ◌∷◌, ◌++◌, slice_index, All, AllPairs, map, Bool, ◌==◌, ◌||◌, not, nat_lt, if◌then◌else◌, find, Option, Some, None, Result, Err}
use Rattle.std.specs.List.{list_any, Contains}
use Rattle.std.specs.Option.{option_map_or}
use Rattle.hist_plain.specs.Plain.{IsPageSize}
use Rattle.stack_accept.specs.Mount.{Mount}
use Rattle.vmm_space.specs.declared.regions.Region.{Region}
use Rattle.vmm_space.specs.declared.regions.Place.{Place}
use Rattle.vmm_space.specs.declared.why.SpaceErr.{SpaceErr}
use Rattle.vmm_space.specs.declared.why.SpaceErr.TheVariants.{RegionExists, Unaligned, TooLong, Overlap, Memory}
use Rattle.vmm_space.specs.declared.why.TranslateErr.{TranslateErr}
use Rattle.vmm_space.specs.declared.why.TranslateErr.TheVariants.{Unmapped}
use Rattle.vmm_space.specs.Regions.{is_named, has_address, meets, access_in, IsRegion, AreApart}

-- a space: the size of a page, how many pages each file has, and the regions in the order in which they were mapped
pub record SpaceShape : Type 0 where
  pub page_size : ℕ
  pub files : List ℕ
  pub regions : List Region

-- the regions are of whole pages, and apart from one another
pub record AreSound (page_size : ℕ) (files : List ℕ) (regions : List Region) : Type 0 where
  pub page_size_is : IsPageSize page_size
  pub whole : All (IsRegion page_size files) regions
  pub apart : AllPairs (AreApart page_size) regions

-- what holds of every space
abbrev pub IsSpace : SpaceShape → Type 0
IsSpace space = AreSound space.page_size space.files space.regions

-- no region, over the files of a mounted stack
abbrev pub blank_of : Mount → SpaceShape
blank_of mount = record { page_size = mount.page_size; files = map (λ file. file.pages) mount.files; regions = [] }

-- the space, and this region behind the others
abbrev pub with_region : SpaceShape → Region → SpaceShape
with_region space region = record space { regions = space.regions ++ region ∷ [] }

-- the regions without the first of this name
abbrev pub without_named : List ℕ → List Region → List Region
without_named name [] = []
without_named name (region ∷ regions) = if is_named name region then regions else region ∷ without_named name regions

-- the space without the region of this name
abbrev pub without_region : List ℕ → SpaceShape → SpaceShape
without_region name space = record space { regions = without_named name space.regions }

-- a region of the space has this name
abbrev pub has_region : List ℕ → SpaceShape → Bool
has_region name space = list_any (is_named name) space.regions

-- the first reason why so many pages of a file cannot be mapped under a name from an address on
abbrev pub refusal : SpaceShape → List ℕ → ℕ → ℕ → ℕ → Option SpaceErr
refusal space name file address pages =
    if has_region name space then Some RegionExists
    else (if not (address % space.page_size == 0) then Some Unaligned
    else (if (pages == 0) || nat_lt (slice_index space.files file) pages then Some TooLong
    else (if list_any (meets space.page_size address pages) space.regions then Some Overlap
    else None)))

-- the refusal is that reason; or memory ran out, if there is none
abbrev pub RefusesMap : Option SpaceErr → SpaceErr → Type 0
RefusesMap reason Memory = reason ≡ None
RefusesMap reason why = reason ≡ Some why

-- what so many bytes from an address on lead to, by the region that has the address, or why not
abbrev pub translation : SpaceShape → ℕ → ℕ → Bool → Result Place TranslateErr
translation space address len write =
    option_map_or (access_in space.page_size address len write) (find (has_address space.page_size address) space.regions) (Err (Unmapped address))

-- a place that so many bytes lead to: they are some, and within one page of a file, as a region of the space maps it
pub record LeadsInto (space : SpaceShape) (len : ℕ) (place : Place) : Type 0 where
  pub region : Region
  pub mapped : Contains space.regions region
  pub file : place.file ≡ region.file
  pub leaf : place.leaf ≡ region.leaf
  pub life : place.life ≡ region.life
  pub page : place.page < slice_index space.files place.file
  pub some : 1 ≤ len
  pub within : place.off + len ≤ space.page_size
