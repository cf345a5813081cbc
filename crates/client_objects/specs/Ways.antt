-- By what the frames of calls on an object say it.
use Rattle.std.specs.Prelude.{◌≡◌, ◌≤◌, ℕ, Option, Some, None}
use Rattle.marshal_buf.specs.declared.door.Door.{Door}
use Rattle.client_objects.specs.declared.kind.ObjectKind.{ObjectKind}
use Rattle.client_objects.specs.declared.target.Target.{Target}
use Rattle.client_objects.specs.declared.target.Way.{Way}
use Rattle.client_objects.specs.Found.{door_to}
use Rattle.client_objects.specs.Kinds.{file_of, id_of, kind_of}

-- the file of a call by the identifier, the door and the tag: that of the tag for an object of a cluster, and that of the door for any other
abbrev pub file_by_kind : Option ObjectKind → Door → ℕ → ℕ
file_by_kind (Some kind) door tag = file_of kind door tag
file_by_kind None door tag = door.file

abbrev pub file_by : ℕ → Door → ℕ → ℕ
file_by id door tag = file_by_kind (kind_of id) door tag

-- the way of an object's calls
abbrev pub way_of : Target → Way
way_of target = record { sub = id_of target.kind; tag = target.tag; door = door_to target; file = target.file }

-- a frame can say it: its subcontract is one that a frame may have, and chooses this file
pub record IsWay (way : Way) : Type 0 where
  pub low : 1 ≤ way.sub
  pub high : way.sub ≤ 5
  pub chosen : file_by way.sub way.door way.tag ≡ way.file
