-- What a contract sees of a domain.
use Rattle.std.specs.Prelude.{◌≡◌, ◌≢◌, ℕ, List, Option, None, IsSome, slice_index_or}
use Rattle.marshal_buf.specs.declared.door.Door.{Door}
use Rattle.domain_doors.specs.declared.why.NoDoor.{NoDoor}
use Rattle.domain_doors.specs.declared.why.DoorErr.{DoorErr}
use Rattle.domain_doors.specs.declared.why.DoorErr.TheVariants as why

-- the door of each identifier from 0 on, or none, and the identifier that is given next
pub record Doors : Type 0 where
  pub slots : List (Option Door)
  pub next : ℕ

-- the door that the domain holds under the identifier
abbrev pub door_at : Doors → ℕ → Option Door
door_at domain id = slice_index_or domain.slots id None

-- the identifier has this door now, or none, and every other identifier has what it had
pub record Updates (old new : Doors) (id : ℕ) (what : Option Door) : Type 0 where
  pub changed : door_at new id ≡ what
  pub others : (other : ℕ) → other ≢ id → door_at new other ≡ door_at old other

-- the refusal names this identifier, under which the domain holds no door
pub record Lacks (domain : Doors) (id : ℕ) (e : NoDoor) : Type 0 where
  pub named : e.id ≡ id
  pub absent : door_at domain id ≡ None

-- the identifier was in no use, and has a door now that the other one had, and still has
pub record Copies (old new : Doors) (id new_id : ℕ) : Type 0 where
  pub vacant : door_at old new_id ≡ None
  pub held : IsSome (door_at old id)
  pub updates : Updates old new new_id (door_at old id)
  pub kept : door_at new id ≡ door_at old id

-- the domain holds no such door, or memory ran out for a door that it holds
abbrev pub RefusesCopy : Doors → ℕ → DoorErr → Type 0
RefusesCopy domain id (why.NoDoor named) = Lacks domain id (record { id = named })
RefusesCopy domain id why.Memory = IsSome (door_at domain id)
