-- Regions that meet have an address in common.
use Rattle.std.proofs.Common.{◌≡◌, ℕ, ◌*◌, ◌<◌, ◌≤◌, Bool, true, false, cond, refl, arith}
use Rattle.std.specs.Prelude.{nat_lt, nat_le}
use Rattle.std.proofs.Math.Nat.{mul-le-mul_left}
use Rattle.std.proofs.lemmas.Bool.Decides.{nat_tests}
use Rattle.vmm_space.specs.declared.regions.Region.{Region}
use Rattle.vmm_space.specs.Regions.{behind, has_address, meets}
use Rattle.vmm_space.specs.Laws.{IsCommon, MeetAtAnAddress}

-- some pages have some bytes
some_bytes : (size pages : ℕ) → 1 ≤ size → 1 ≤ pages → 1 ≤ pages * size
some_bytes size pages a b = omega (arith, mul-le-mul_left pages a)

within : (size address : ℕ) (region : Region) → region.address ≤ address → address < behind size region.address region.pages → has_address size address region ≡ true
within size address region from to = grind (arith, nat_tests)

common_by : (size address pages : ℕ) (region : Region) → 1 ≤ pages * size → 1 ≤ region.pages * size → (b : Bool) → nat_le region.address address ≡ b
    → cond b (nat_lt address (behind size region.address region.pages)) (nat_lt region.address (behind size address pages)) ≡ true → (common : ℕ) × IsCommon size address pages region common
common_by size address pages region some others true first met =
    let from : region.address ≤ address = grind (arith, nat_tests) in
    let to : address < behind size region.address region.pages = grind (arith, nat_tests) in
    (address, record { from = omega arith; to = omega arith; of = within size address region from to })
common_by size address pages region some others false first met =
    let from : address ≤ region.address = grind (arith, nat_tests) in
    let to : region.address < behind size address pages = grind (arith, nat_tests) in
    let own : region.address ≤ region.address = omega arith in
    let inside : region.address < behind size region.address region.pages = omega arith in
    (region.address, record { from = from; to = to; of = within size region.address region own inside })

met_by : (size address pages : ℕ) (region : Region) (common : ℕ) → address ≤ common → common < behind size address pages → has_address size common region ≡ true → meets size address pages region ≡ true
met_by size address pages region common from to of = grind (arith, nat_tests)

pub meet_at_an_address : MeetAtAnAddress
meet_at_an_address size address pages region some_size some_page some_other = (
  common_by size address pages region (some_bytes size pages some_size some_page) (some_bytes size region.pages some_size some_other) (nat_le region.address address) refl,
  λ both. met_by size address pages region both.0 both.1.from both.1.to both.1.of,
)
