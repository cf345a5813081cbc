-- The file of a target is the one that its subcontract chooses.
use Rattle.std.proofs.Common.{◌≡◌, ℕ, refl}
use Rattle.std.specs.Prelude.{unwrap_or}
use Rattle.marshal_buf.specs.declared.door.Door.{Door}
use Rattle.domain_doors.specs.Doors.{Doors}
use Rattle.sub_core.specs.Fields.{Fields}
use Rattle.sub_core.specs.declared.values.Object.{Object}
use Rattle.sub_core.specs.Calls.{door_of}
use Rattle.client_objects.specs.declared.kind.ObjectKind.{ObjectKind}
use Rattle.client_objects.specs.declared.kind.ObjectKind.TheVariants.{Singleton, Cluster, Caching, Reconnectable}
use Rattle.client_objects.specs.Kinds.{file_of}
use Rattle.client_objects.specs.Stored.{target_of}
use Rattle.client_objects.specs.Found.{IsChosen}
use Rattle.client_objects.specs.Held.{no_door, target_at, target_in}

-- the file that is chosen is chosen by the door to it as well
twice : (kind : ObjectKind) (door : Door) (tag : ℕ) → file_of kind (record { node = door.node; file = file_of kind door tag }) tag ≡ file_of kind door tag
twice Singleton door tag = refl
twice Cluster door tag = refl
twice Caching door tag = refl
twice Reconnectable door tag = refl

-- of an object that was just received
pub chosen_of : (kind : ObjectKind) (fields : Fields) → IsChosen (target_of kind fields)
chosen_of kind fields = twice kind fields.door fields.tag

-- and of one that a domain holds
pub chosen_in : (domain : Doors) (kind : ObjectKind) (object : Object) → IsChosen (target_in domain kind object)
chosen_in domain kind object = twice kind (unwrap_or (door_of domain object) no_door) object.tag
