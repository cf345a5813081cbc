-- The doors of a client's replicon objects, and the calls by them.
use Rattle.std.specs.Prelude.{◌≡◌, [], ◌∷◌, ℕ, List, length, Some, unwrap_or}
use Rattle.marshal_buf.specs.declared.door.Door.{Door}
use Rattle.sub_replicon.specs.declared.TheConstants.{REPLICON}
use Rattle.client_objects.specs.declared.target.Found.{Found}
use Rattle.client_objects.specs.declared.target.Way.{Way}
use Rattle.client_replicas.specs.declared.door.OpenDoor.{OpenDoor}
use Rattle.client_replicas.specs.declared.replicas.OpenReplicon.{OpenReplicon}
use Rattle.client_replicas.specs.Objects.{doors_of}
use Rattle.script_meaning.specs.Plan.{by_door}

-- frames say the subcontract of a replicon object, and the tag 0
abbrev pub replica_way : Door → Way
replica_way door = record { sub = REPLICON; tag = 0; door = door; file = door.file }

-- where the calls by a door go
abbrev pub found_by : OpenDoor → Found
found_by door = record { target = by_door door; node = door.view }

-- it is the first door of the object of this name
abbrev pub IsFirst : List ℕ → OpenDoor → List OpenReplicon → Type 0
IsFirst name door objects = (more : List OpenDoor) × (doors_of name objects ≡ Some (door ∷ more))

-- how many doors the object of a name has
abbrev pub doors_left : List ℕ → List OpenReplicon → ℕ
doors_left name objects = length (unwrap_or (doors_of name objects) [])
