-- The page that the trail lets go out of a leaf is the first of the leaf's list.
use Rattle.std.specs.Prelude.{Contains}
use Rattle.std.proofs.Common.{◌≡◌, ◌≢◌, ℕ, zero, suc, ◌<◌, ◌≤◌, ap, subst, refl, arith, List, [], ◌∷◌, Some, length, get_or}
use Rattle.tower_core.specs.declared.right.Right.{Right}
use Rattle.tower_core.specs.Trail.{IsLeastRecentlyUsed, State}
use Rattle.vmm_cache.specs.Used.{AreUses}
use Rattle.vmm_cache.specs.Uses.{oldest}

pub victim_is : (s : State) (pages node page : ℕ) (uses : List ℕ) → AreUses s node uses → (s.column page).right node ≢ Right.Nothing → IsLeastRecentlyUsed pages s node page → ((p : ℕ) → (s.column p).right node ≢ Right.Nothing → p < pages) → oldest uses ≡ Some page
victim_is s pages node page [] are held first inside = absurd (let c = (are.held page).1 held in omega (arith, c.1))
victim_is s pages node page (u ∷ uses) are held first inside = by c.0 c.1 c.2
  where
    c : Contains (u ∷ uses) page
    c = (are.held page).1 held

    by : (place : ℕ) → place < length (u ∷ uses) → get_or (u ∷ uses) place page ≡ page → oldest (u ∷ uses) ≡ Some page
    by zero within is = ap Some is
    by (suc place) within is =
        let earlier : s.used u node < s.used (get_or (u ∷ uses) (suc place) page) node = are.ordered 0 (suc place) page (omega arith) within in
        let before : s.used u node < s.used page node = subst (λ (p : ℕ). s.used u node < s.used p node) is earlier in
        let some = (are.held u).0 (0, omega arith, refl) in
        let not_before : s.used page node ≤ s.used u node = first u (inside u some) some in
        absurd (omega (arith, before, not_before))
