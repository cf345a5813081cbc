-- Several doors of a domain.
use Rattle.std.specs.Prelude.{◌≡◌, ℕ, List, ◌∷◌, ◌++◌, map, Option, Some, None, IsSome}
use Rattle.std.specs.List.{AllByRecursion}
use Rattle.marshal_buf.specs.declared.door.Door.{Door}
use Rattle.domain_doors.specs.Doors.{Doors, door_at}
use Rattle.domain_doors.specs.declared.why.NoDoor.{NoDoor}
use Rattle.sub_replicon.specs.Replicas.{IsApart}

-- the door that the domain holds under each of the identifiers, or none
abbrev pub doors_in : Doors → List ℕ → List (Option Door)
doors_in domain ids = map (λ id. door_at domain id) ids

-- the domain holds exactly these doors under the identifiers, one by one
abbrev pub Holds : Doors → List ℕ → List Door → Type 0
Holds domain ids doors = doors_in domain ids ≡ map Some doors

-- the domain holds a door under each of the identifiers
abbrev pub AreHeld : Doors → List ℕ → Type 0
AreHeld domain ids = AllByRecursion (λ id. IsSome (door_at domain id)) ids

-- the domain holds a door under none of the identifiers
abbrev pub AreVacant : Doors → List ℕ → Type 0
AreVacant domain ids = AllByRecursion (λ id. door_at domain id ≡ None) ids

-- every other identifier has what it had
abbrev pub OthersStay : List ℕ → Doors → Doors → Type 0
OthersStay ids old new = (other : ℕ) → IsApart other ids → door_at new other ≡ door_at old other

-- the doors came into the domain, each under an identifier that was in no use
pub record Enter (ids : List ℕ) (doors : List Door) (old new : Doors) : Type 0 where
  pub vacant : AreVacant old ids
  pub held : Holds new ids doors
  pub others : OthersStay ids old new

-- the doors of the identifiers have left the domain
pub record Leave (ids : List ℕ) (old new : Doors) : Type 0 where
  pub gone : AreVacant new ids
  pub others : OthersStay ids old new

-- each identifier has what it had, and the same one is given next
pub record HoldsTheSame (old new : Doors) : Type 0 where
  pub doors : (id : ℕ) → door_at new id ≡ door_at old id
  pub next : new.next ≡ old.next

-- the refusal names the first of the identifiers under which the domain holds no door
pub record FirstLacking (domain : Doors) (ids : List ℕ) (e : NoDoor) : Type 0 where
  pub before : List ℕ
  pub after : List ℕ
  pub parts : ids ≡ before ++ e.id ∷ after
  pub held : AreHeld domain before
  pub absent : door_at domain e.id ≡ None

-- the doors before the first one that the domain lacks have left it, and no other
pub record StopsAt (ids : List ℕ) (old new : Doors) (e : NoDoor) : Type 0 where
  pub first : FirstLacking old ids e
  pub leave : Leave first.before old new
