-- Where the calls of an object go from a machine.
use Rattle.std.specs.Prelude.{◌≡◌, ℕ}
use Rattle.marshal_buf.specs.declared.door.Door.{Door}
use Rattle.stack_accept.specs.Mount.{Mount}
use Rattle.sub_caching.specs.Routes.{caching_route}
use Rattle.client_objects.specs.declared.kind.ObjectKind.{ObjectKind}
use Rattle.client_objects.specs.declared.kind.ObjectKind.TheVariants.{Singleton, Cluster, Caching, Reconnectable}
use Rattle.client_objects.specs.declared.target.Target.{Target}
use Rattle.client_objects.specs.declared.target.Found.{Found}
use Rattle.client_objects.specs.Kinds.{file_of}

-- the door by which the calls of a target go: to its view and its file
abbrev pub door_to : Target → Door
door_to target = record { node = target.view; file = target.file }

-- the node to which the calls by a door go from the machine: of a caching object, to the manager's cache there, if there is one; of any
-- other, to the view
abbrev pub node_by : ObjectKind → Mount → ℕ → Door → ℕ → ℕ
node_by Singleton mount machine door tag = door.node
node_by Cluster mount machine door tag = door.node
node_by Caching mount machine door tag = (caching_route mount machine door tag).node
node_by Reconnectable mount machine door tag = door.node

abbrev pub node_of : Mount → ℕ → Target → ℕ
node_of mount machine target = node_by target.kind mount machine (door_to target) target.tag

abbrev pub found_on : Mount → ℕ → Target → Found
found_on mount machine target = record { target = target; node = node_of mount machine target }

-- the file is the one that the subcontract chooses, by that door and the tag
abbrev pub IsChosen : Target → Type 0
IsChosen target = file_of target.kind (door_to target) target.tag ≡ target.file
