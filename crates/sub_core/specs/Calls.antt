-- What the calls on an object that a domain holds do.
use Rattle.std.specs.Prelude.{◌≡◌, ℕ, ◌+◌, ◌∷◌, [], length, Option, Some, None, IsSome, true}
use Rattle.std.specs.Option.{option_map}
use Rattle.marshal_buf.specs.declared.door.Door.{Door}
use Rattle.marshal_buf.specs.Held.{Held, Puts}
use Rattle.domain_doors.specs.Doors.{Doors, door_at, Updates, Lacks, Copies}
use Rattle.stack_accept.specs.Mount.{Mount, is_view_in}
use Rattle.sub_core.specs.declared.shape.Form.{Form}
use Rattle.sub_core.specs.declared.values.Object.{Object}
use Rattle.sub_core.specs.declared.values.Route.{Route}
use Rattle.sub_core.specs.declared.why.ObjectErr.{ObjectErr}
use Rattle.sub_core.specs.declared.why.ObjectErr.TheVariants as whys
use Rattle.sub_core.specs.Forms.{object_bytes, object_len}

-- the door that the domain holds for the object
abbrev pub door_of : Doors → Object → Option Door
door_of domain object = door_at domain object.door

-- the domain lacks the object's door, or memory ran out for an object whose door it holds
abbrev pub RefusesHeld : Doors → Object → ObjectErr → Type 0
RefusesHeld domain object (whys.NoDoor id) = Lacks domain object.door (record { id = id })
RefusesHeld domain object (whys.BadObject at) = ⊥
RefusesHeld domain object whys.Memory = IsSome (door_of domain object)

-- the object's bytes and its door stand in the buffer, and the door has left the domain
pub record Marshals (form : Form) (object : Object) (old_domain new_domain : Doors) (old new : Held) : Type 0 where
  pub door : Door
  pub held : door_of old_domain object ≡ Some door
  pub puts : Puts (object_bytes object.sub form (length old.doors) object.tag object.name) (door ∷ []) old new
  pub len : length new.bytes ≡ length old.bytes + object_len form object.name
  pub leaves : Updates old_domain new_domain object.door None

-- the copy is the object but for its identifier, which was in no use and has the same door
pub record CopiesObject (object copy : Object) (old new : Doors) : Type 0 where
  pub same : copy ≡ record object { door = copy.door }
  pub door : Copies old new object.door copy.door

-- the domain held the object's door, which has left it
pub record GivesUp (object : Object) (old new : Doors) : Type 0 where
  pub held : IsSome (door_of old object)
  pub leaves : Updates old new object.door None

-- the object's door, if the domain holds it, leads to a view of the stack
abbrev pub LeadsToView : Mount → Doors → Object → Type 0
LeadsToView mount domain object = (door : Door) → door_of domain object ≡ Some door → is_view_in mount.nodes door.node ≡ true

-- where a subcontract's route leads from the machine by the object, if the domain holds its door
abbrev pub route_of : (Mount → ℕ → Door → ℕ → Route) → Mount → ℕ → Doors → Object → Option Route
route_of route mount machine domain object = option_map (λ door. route mount machine door object.tag) (door_of domain object)
