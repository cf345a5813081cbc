-- What the names keep for a replicon object, and which doors that object has.
use Rattle.std.specs.Prelude.{◌≡◌, ◌<◌, ℕ, Bool, true, ◌==◌, ◌&&◌, nat_lt, if◌then◌else◌, List, length, Option, Some, None, Result, Ok, Err}
use Rattle.std.specs.List.{list_all}
use Rattle.marshal_buf.specs.declared.door.Door.{Door}
use Rattle.marshal_buf.specs.declared.why.Short.{Short}
use Rattle.marshal_buf.specs.Reading.{Reading, number_at}
use Rattle.stack_accept.specs.Mount.{Mount, is_view_in}
use Rattle.sub_replicon.specs.declared.TheConstants.{REPLICON}
use Rattle.sub_replicon.specs.Doors.{replicas_behind}
use Rattle.sub_replicon.specs.Forms.{replicon_bytes, replicon_len}
use Rattle.name_context.specs.Names.{Kept, context, object}

-- a door to a view and a file of the stack
abbrev pub leads_onto : Mount → Door → Bool
leads_onto mount door = is_view_in mount.nodes door.node && nat_lt door.file (length mount.files)

pub record LeadsOnto (mount : Mount) (door : Door) : Type 0 where
  pub view : is_view_in mount.nodes door.node ≡ true
  pub file : door.file < length mount.files

-- bytes and doors of which nothing was read yet
abbrev pub unread : List ℕ → List Door → Reading
unread bytes doors = record { input = bytes; doors = doors; at = 0; next = 0 }

-- they end with the object of these doors
abbrev pub ends_with : List Door → List ℕ → List Door → Bool
ends_with doors bytes all = (length bytes == replicon_len (length doors)) && (length all == length doors)

abbrev pub doors_by : Mount → List ℕ → List Door → Result (List Door) ℕ → Option (List Door)
doors_by mount bytes all (Ok doors) = if ends_with doors bytes all && list_all (leads_onto mount) doors then Some doors else None
doors_by mount bytes all (Err at) = None

abbrev pub doors_of_id : Mount → List ℕ → List Door → Result ℕ Short → Option (List Door)
doors_of_id mount bytes all (Ok id) = if id == REPLICON then doors_by mount bytes all (replicas_behind (unread bytes all)) else None
doors_of_id mount bytes all (Err short) = None

-- THE DOORS OF A REPLICON OBJECT OF THE NAMES, in order, if what stands there is one, with nothing left over, whose doors lead to views and
-- files of the stack
abbrev pub received_doors : Mount → Option Kept → Option (List Door)
received_doors mount (Some (object bytes all)) = doors_of_id mount bytes all (number_at 2 (unread bytes all))
received_doors mount (Some context) = None
received_doors mount None = None

-- what the names keep for a replicon object of these doors
abbrev pub stored_replicon : List Door → Kept
stored_replicon doors = object (replicon_bytes 0 (length doors)) doors
