-- The seats of a mounted stack, and its shape.
use Rattle.std.specs.Prelude.{ℕ, List, [], drop, map, slice_get, Bool, true, false, if◌then◌else◌, Contains}
use Rattle.std.specs.List.{AllByRecursion}
use Rattle.std.specs.Option.{option_map_or}
use Rattle.text_words.specs.Words.{IsName}
use Rattle.script_gen.specs.declared.shape.Shape.{Shape}
use Rattle.script_gen.specs.declared.shape.ShapeFile.{ShapeFile}
use Rattle.script_gen.specs.declared.shape.ShapeSeat.{ShapeSeat}
use Rattle.stack_accept.specs.declared.entries.Kind.{Kind}
use Rattle.stack_accept.specs.declared.entries.Kind.TheVariants.{Vmm}
use Rattle.stack_accept.specs.declared.entries.FileEntry.{FileEntry}
use Rattle.stack_accept.specs.declared.entries.NodeEntry.{NodeEntry}
use Rattle.stack_accept.specs.Mount.{Mount}
use Rattle.stack_accept.specs.Check.{machine_name}

abbrev pub is_manager : Kind → Bool
is_manager Vmm = true
is_manager kind = false

-- the name of the node of a number
abbrev pub node_name : List NodeEntry → ℕ → List ℕ
node_name nodes number = option_map_or (λ node. node.name) (slice_get nodes number) []

-- a memory manager has the view that it stands on by the text
abbrev pub view_name : List NodeEntry → NodeEntry → List ℕ
view_name nodes node = if is_manager node.kind then node_name nodes node.below else node.name

-- a view with its machine; or a manager's view with the manager's machine, and the client maps
abbrev pub seat_of : Mount → NodeEntry → ShapeSeat
seat_of mount node = record { view = view_name mount.nodes node; machine = machine_name mount.machines node.machine; maps = is_manager node.kind }

-- each node but the ground has a seat
abbrev pub seats_of : Mount → List ShapeSeat
seats_of mount = map (λ node. seat_of mount node) (drop 1 mount.nodes)

abbrev pub file_of : FileEntry → ShapeFile
file_of file = record { name = file.name; pages = file.pages }

-- THE SHAPE of a mounted stack
abbrev pub shape_of : Mount → Shape
shape_of mount = record { page_size = mount.page_size; files = map file_of mount.files; seats = seats_of mount }

-- the names of a stack are names
pub record AreNames (mount : Mount) : Type 0 where
  pub files : AllByRecursion (λ file. IsName file.name) mount.files
  pub nodes : AllByRecursion (λ node. IsName node.name) mount.nodes
  pub machines : AllByRecursion IsName mount.machines

-- each seat is on a machine of the stack
abbrev pub AreOnMachines : Mount → List ShapeSeat → Type 0
AreOnMachines mount seats = AllByRecursion (λ seat. Contains mount.machines seat.machine) seats
