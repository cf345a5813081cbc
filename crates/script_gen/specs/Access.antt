-- What a client calls.
use Rattle.std.specs.Prelude.{ℕ, ◌+◌, ◌*◌, List, [], ◌∷◌, ◌++◌, codes, Bool, true, if◌then◌else◌}
use Rattle.std.specs.Fmt.{decimal}
use Rattle.std.specs.Int.{to_be_bytes, w32}
use Rattle.script_text.specs.declared.script.Call.{Call}
use Rattle.script_text.specs.declared.script.Call.TheVariants as calls
use Rattle.script_gen.specs.declared.shape.ShapeFile.{ShapeFile}
use Rattle.script_gen.specs.declared.shape.ShapeSeat.{ShapeSeat}
use Rattle.script_gen.specs.declared.aim.Aim.{Aim}

-- the names of clients, objects and regions: a letter, and the number of the client or of the file
abbrev pub client_name : ℕ → List ℕ
client_name client = codes "g" ++ decimal client

abbrev pub object_name : ℕ → List ℕ
object_name file = codes "o" ++ decimal file

abbrev pub region_name : ℕ → List ℕ
region_name file = codes "r" ++ decimal file

-- where a file is mapped: each has the room of the largest one
abbrev pub start_of : ℕ → ℕ
start_of file = file * 4194304

-- the address of a place in a file that is mapped
abbrev pub address_of : ℕ → Aim → ℕ
address_of page_size aim = start_of aim.file + aim.page * page_size + aim.off

-- the bytes of a number, the highest first
abbrev pub bytes_of : ℕ → List ℕ
bytes_of number = to_be_bytes w32 number

-- four bytes are read: a client that maps the file loads them
abbrev pub read_by : Bool → ℕ → Aim → Call
read_by maps page_size aim = if maps then calls.Load (address_of page_size aim) 4 else calls.Read (object_name aim.file) aim.page aim.off 4

-- four bytes are written: a client that maps the file stores them
abbrev pub write_by : Bool → ℕ → Aim → ℕ → Call
write_by maps page_size aim number = if maps then calls.Store (address_of page_size aim) (bytes_of number) else calls.Write (object_name aim.file) aim.page aim.off (bytes_of number)

-- the file is opened at the seat's view
abbrev pub open_by : ShapeSeat → ℕ → ShapeFile → Call
open_by seat number file = calls.Open (object_name number) (seat.view ∷ file.name ∷ [])

-- all its pages are mapped, to be written
abbrev pub map_by : ℕ → ShapeFile → Call
map_by number file = calls.Map (region_name number) (object_name number) (start_of number) file.pages true
