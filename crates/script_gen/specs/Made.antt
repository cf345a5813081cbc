-- The script of a shape, a seed and a number of calls.
use Rattle.std.specs.Prelude.{ℕ, zero, suc, ◌+◌, ◌%◌, List, [], ◌∷◌, ◌++◌, length, Bool, true, false, if◌then◌else◌}
use Rattle.script_text.specs.declared.script.Call.{Call}
use Rattle.script_text.specs.declared.script.CallLine.{CallLine}
use Rattle.script_text.specs.declared.script.ClientLine.{ClientLine}
use Rattle.script_text.specs.declared.script.Script.{Script}
use Rattle.script_gen.specs.declared.shape.Shape.{Shape}
use Rattle.script_gen.specs.declared.shape.ShapeFile.{ShapeFile}
use Rattle.script_gen.specs.declared.shape.ShapeSeat.{ShapeSeat}
use Rattle.script_gen.specs.declared.aim.Aim.{Aim}
use Rattle.script_gen.specs.Shape.{seat_of}
use Rattle.script_gen.specs.Draw.{draw, state_after}
use Rattle.script_gen.specs.Aim.{aim_at, writes}
use Rattle.script_gen.specs.Access.{client_name, open_by, map_by, read_by, write_by}

-- the first clients, each on the machine of its seat
abbrev pub clients_of : Shape → ℕ → List ClientLine
clients_of shape zero = []
clients_of shape (suc client) = clients_of shape client ++ record { name = client_name client; machine = (seat_of shape client).machine } ∷ []

-- the lines of a phase with one more, the first of them being the line `first` of the text
abbrev pub with_line : ℕ → List CallLine → ℕ → Call → List CallLine
with_line first lines client call = lines ++ record { line = first + length lines; client = client; call = call } ∷ []

-- with a file opened, and mapped if the seat maps
abbrev pub with_file : ℕ → ShapeSeat → ℕ → List CallLine → ℕ → ShapeFile → List CallLine
with_file first seat client lines number file =
    if seat.maps then with_line first (with_line first lines client (open_by seat number file)) client (map_by number file)
    else with_line first lines client (open_by seat number file)

-- with these files, which are numbered from `number` on
abbrev pub with_files : ℕ → ShapeSeat → ℕ → List CallLine → ℕ → List ShapeFile → List CallLine
with_files first seat client lines number [] = lines
with_files first seat client lines number (file ∷ files) = with_files first seat client (with_file first seat client lines number file) (suc number) files

-- THE FIRST PHASE of the first clients: each opens each file, and maps it if its seat maps
abbrev pub opened : Shape → ℕ → ℕ → List CallLine
opened shape first zero = []
opened shape first (suc client) = with_files first (seat_of shape client) client (opened shape first client) 0 shape.files

-- the client that makes the call of a number: each in its turn
abbrev pub client_of : ℕ → ℕ
client_of number = number % 8

-- the call of a number, by the state before it
abbrev pub call_by : ShapeSeat → ℕ → Bool → Aim → ℕ → Call
call_by seat page_size true aim state = write_by seat.maps page_size aim (draw state 4)
call_by seat page_size false aim state = read_by seat.maps page_size aim

unfoldable pub writes_at : Shape → ℕ → ℕ → Bool
writes_at shape number state = writes shape (client_of number) number (aim_at shape (client_of number) state)

unfoldable pub call_at : Shape → ℕ → ℕ → Call
call_at shape number state = call_by (seat_of shape (client_of number)) shape.page_size (writes_at shape number state) (aim_at shape (client_of number) state) state

-- the state behind the call of a number: a write takes a fourth draw
unfoldable pub state_behind : Shape → ℕ → ℕ → ℕ
state_behind shape number state = if writes_at shape number state then state_after state 4 else state_after state 3

-- the state before the call of a number: the seed before the first
abbrev pub state_before : Shape → ℕ → ℕ → ℕ
state_before shape seed zero = seed
state_before shape seed (suc number) = state_behind shape number (state_before shape seed number)

-- THE SECOND PHASE: so many calls
abbrev pub called : Shape → ℕ → ℕ → ℕ → List CallLine
called shape first seed zero = []
called shape first seed (suc number) = with_line first (called shape first seed number) (client_of number) (call_at shape number (state_before shape seed number))

-- The lines of the eight clients and of the first phase stand before the calls.
abbrev pub first_phase : Shape → List CallLine
first_phase shape = opened shape 10 8

abbrev pub second_phase : Shape → ℕ → ℕ → List CallLine
second_phase shape seed calls = called shape (11 + length (first_phase shape)) seed calls

-- THE SCRIPT
abbrev pub generated : Shape → ℕ → ℕ → Script
generated shape seed calls = record { clients = clients_of shape 8; phases = first_phase shape ∷ second_phase shape seed calls ∷ [] }
