-- Laws of the doors of open replicon objects.
use Rattle.std.proofs.Common.{◌≡◌, ◌≢◌, ℕ, zero, suc, ◌<◌, ◌≤◌, List, [], ◌∷◌, length, map, drop, Option, Some, None, refl, sym, ap, subst, ◌∙◌, arith}
use Rattle.std.specs.Prelude.{IsSome, slice_set}
use Rattle.std.specs.List.{AllByRecursion}
use Rattle.std.specs.Option.{option_map}
use Rattle.marshal_buf.specs.declared.door.Door.{Door}
use Rattle.domain_doors.specs.Doors.{Doors, door_at, Updates}
use Rattle.sub_core.specs.declared.values.Route.{Route}
use Rattle.sub_replicon.specs.Replicas.{AreApart, IsApart, IsReplicon, Replicas, first_life, new_lives}
use Rattle.sub_replicon.specs.Domains.{AreHeld, Holds, doors_in}
use Rattle.sub_replicon.specs.Routes.{first_route, route_by}
use Rattle.sub_replicon.specs.Calls.{DropsFirst as Drops}
use Rattle.client_replicas.specs.declared.door.OpenDoor.{OpenDoor}
use Rattle.client_replicas.specs.OpenDoors.{DropsFirst, fresh, looked_up, open_doors, with_life}

-- doors that were just received
pub begun-fresh : (domain : Doors) (ids : List ℕ) (doors : List Door) → Holds domain ids doors → open_doors (doors_in domain ids) (new_lives ids) ≡ map fresh doors
begun-fresh domain [] [] holds = refl
begun-fresh domain [] (door ∷ doors) holds = absurd cc
begun-fresh domain (id ∷ ids) [] holds = absurd cc
begun-fresh domain (id ∷ ids) (door ∷ doors) holds =
    let first : door_at domain id ≡ Some door = cc in
    let rest : Holds domain ids doors = cc in
    ap (λ (d : Option Door). looked_up d 0 ∷ open_doors (doors_in domain ids) (new_lives ids)) first
    ∙ ap (λ (ds : List OpenDoor). fresh door ∷ ds) (begun-fresh domain ids doors rest)

-- the first door, by its route
looked_at : (o : Option Door) (route : Route) (life : ℕ) → option_map route_by o ≡ Some route → looked_up o life ≡ record { view = route.node; file = route.file; life = life }
looked_at None route life is = absurd cc
looked_at (Some door) route life is =
    let same : route_by door ≡ route = cc in
    ap (λ (r : Route). let d : OpenDoor = record { view = r.node; file = r.file; life = life } in d) same

pub first-door : (domain : Doors) (ids lives : List ℕ) (route : Route) → first_route domain ids ≡ Some route → length lives ≡ length ids
    → (more : List OpenDoor) × (open_doors (doors_in domain ids) lives ≡ record { view = route.node; file = route.file; life = first_life lives } ∷ more)
first-door domain [] lives route is len = absurd cc
first-door domain (id ∷ ids) [] route is len = absurd (omega (arith, len))
first-door domain (id ∷ ids) (life ∷ lives) route is len =
    (open_doors (doors_in domain ids) lives, ap (λ (d : OpenDoor). d ∷ open_doors (doors_in domain ids) lives) (looked_at (door_at domain id) route life is))

-- a door with another life
with_other : (o : Option Door) (old new : ℕ) → looked_up o new ≡ record (looked_up o old) { life = new }
with_other None old new = refl
with_other (Some door) old new = refl

pub kept-life : (domain : Doors) (ids lives : List ℕ) (k life : ℕ) → open_doors (doors_in domain ids) (slice_set lives k life) ≡ with_life k life (open_doors (doors_in domain ids) lives)
kept-life domain [] lives k life = refl
kept-life domain (id ∷ ids) [] k life = refl
kept-life domain (id ∷ ids) (old ∷ lives) zero life = ap (λ (d : OpenDoor). d ∷ open_doors (doors_in domain ids) lives) (with_other (door_at domain id) old life)
kept-life domain (id ∷ ids) (old ∷ lives) (suc k) life = ap (λ (ds : List OpenDoor). looked_up (door_at domain id) old ∷ ds) (kept-life domain ids lives k life)

-- of a door that there is not
pub no-door : (k life : ℕ) (doors : List OpenDoor) → length doors ≤ k → doors ≡ with_life k life doors
no-door k life [] few = refl
no-door zero life (door ∷ doors) few = absurd (omega (arith, few))
no-door (suc k) life (door ∷ doors) few = ap (λ (ds : List OpenDoor). door ∷ ds) (no-door k life doors (omega (arith, few)))

pub few-doors : (domain : Doors) (ids lives : List ℕ) → length (open_doors (doors_in domain ids) lives) ≤ length ids
few-doors domain [] lives = omega arith
few-doors domain (id ∷ ids) [] = omega arith
few-doors domain (id ∷ ids) (life ∷ lives) = let rest = few-doors domain ids lives in omega (arith, rest)

pub all-doors : (domain : Doors) (ids lives : List ℕ) → length lives ≡ length ids → length (open_doors (doors_in domain ids) lives) ≡ length ids
all-doors domain [] lives len = refl
all-doors domain (id ∷ ids) [] len = absurd (omega (arith, len))
all-doors domain (id ∷ ids) (life ∷ lives) len = let rest = all-doors domain ids lives (omega (arith, len)) in omega (arith, rest)

-- doors that stay where another one leaves
stay_in : (old new : Doors) (id : ℕ) (what : Option Door) (ids : List ℕ) → Updates old new id what → IsApart id ids → doors_in new ids ≡ doors_in old ids
stay_in old new id what [] updates apart = refl
stay_in old new id what (other ∷ ids) updates apart =
    ap (λ (d : Option Door). d ∷ doors_in new ids) (updates.others other apart.0) ∙ ap (λ (ds : List (Option Door)). door_at old other ∷ ds) (stay_in old new id what ids updates apart.1)

stay_held : (old new : Doors) (id : ℕ) (what : Option Door) (ids : List ℕ) → Updates old new id what → IsApart id ids → AreHeld old ids → AreHeld new ids
stay_held old new id what [] updates apart held = tt
stay_held old new id what (other ∷ ids) updates apart held = (subst IsSome (sym (updates.others other apart.0)) held.0, stay_held old new id what ids updates apart.1 held.1)

drops_by : (id : ℕ) (ids lives : List ℕ) (old new : Doors) → length lives ≡ suc (length ids) → 0 < length ids → IsApart id ids → Updates old new id None
    → DropsFirst (open_doors (doors_in old (id ∷ ids)) lives) (open_doors (doors_in new ids) (drop 1 lives))
drops_by id [] lives old new len some apart updates = absurd (omega (arith, some))
drops_by id (next ∷ ids) [] old new len some apart updates = absurd (omega (arith, len))
drops_by id (next ∷ ids) (life ∷ []) old new len some apart updates = absurd (omega (arith, len))
drops_by id (next ∷ ids) (life ∷ more ∷ lives) old new len some apart updates = (
  looked_up (door_at old id) life,
  looked_up (door_at old next) more,
  open_doors (doors_in old ids) lives,
  refl,
  ap (λ (ds : List (Option Door)). open_doors ds (more ∷ lives)) (stay_in old new id None (next ∷ ids) updates apart),
)

-- the first door was dropped
pub dropped-first : (before after : Replicas) (old new : Doors) → IsReplicon before → Drops before after old new → DropsFirst (open_doors (doors_in old before.doors) before.lives) (open_doors (doors_in new after.doors) after.lives)
dropped-first before after old new is drops =
    let apart : AreApart (drops.id ∷ after.doors) = subst AreApart drops.doors is.apart in
    let count : length before.doors ≡ suc (length after.doors) = ap length drops.doors in
    let lives = is.lives in
    let left = drops.left in
    subst (λ (ls : List ℕ). DropsFirst (open_doors (doors_in old before.doors) before.lives) (open_doors (doors_in new after.doors) ls)) (sym drops.lives)
    (subst (λ (ds : List ℕ). DropsFirst (open_doors (doors_in old ds) before.lives) (open_doors (doors_in new after.doors) (drop 1 before.lives))) (sym drops.doors)
    (drops_by drops.id after.doors before.lives old new (omega (arith, lives, count)) (omega (arith, left, count)) apart.0 drops.leaves))

pub dropped-held : (before after : Replicas) (old new : Doors) → IsReplicon before → AreHeld old before.doors → Drops before after old new → AreHeld new after.doors
dropped-held before after old new is held drops =
    let apart : AreApart (drops.id ∷ after.doors) = subst AreApart drops.doors is.apart in
    let here : AreHeld old (drops.id ∷ after.doors) = subst (AreHeld old) drops.doors held in
    stay_held old new drops.id None after.doors drops.leaves apart.0 here.1

-- the same doors in another domain
pub same-open : (old new : Doors) (ids other lives : List ℕ) (doors : List Door) → Holds old ids doors → Holds new other doors → open_doors (doors_in new other) lives ≡ open_doors (doors_in old ids) lives
same-open old new ids other lives doors held enter = ap (λ (ds : List (Option Door)). open_doors ds lives) (enter ∙ sym held)
