-- What it means that the bytes of a region are met.
use Rattle.std.specs.Prelude.{◌≡◌, ℕ, ◌<◌, ◌≤◌, ◌↔◌, true}
use Rattle.vmm_space.specs.declared.regions.Region.{Region}
use Rattle.vmm_space.specs.Regions.{behind, has_address, meets}

-- an address of the region, and of so many pages from an address on
pub record IsCommon (size address pages : ℕ) (region : Region) (common : ℕ) : Type 0 where
  pub from : address ≤ common
  pub to : common < behind size address pages
  pub of : has_address size common region ≡ true

-- so many pages meet a region exactly if an address is of both
abbrev pub MeetAtAnAddress : Type 0
MeetAtAnAddress = (size address pages : ℕ) (region : Region) → 1 ≤ size → 1 ≤ pages → 1 ≤ region.pages → (meets size address pages region ≡ true) ↔ ((common : ℕ) × IsCommon size address pages region common)
