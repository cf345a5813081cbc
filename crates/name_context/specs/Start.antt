-- The names at the start.
use Rattle.std.specs.Prelude.{ℕ, suc, List, [], ◌∷◌, ◌++◌}
use Rattle.std.specs.List.{flat_map}
use Rattle.marshal_buf.specs.Numbers.{number_bytes}
use Rattle.name_context.specs.Names.{Kept, context, object, Name}

-- the object of a file at a view: the identifier 1 of its subcontract, the index 0 of its door, and the door
abbrev pub file_object : ℕ → ℕ → Kept
file_object node file = object (number_bytes 2 1 ++ number_bytes 4 0) (record { node = node; file = file } ∷ [])

-- in a view's context: an object for each file, from this number on
abbrev pub object_names : List ℕ → ℕ → ℕ → List (List ℕ) → List Name
object_names view node number [] = []
object_names view node number (file ∷ files) =
    record { path = view ∷ file ∷ []; kept = file_object node number } ∷ object_names view node (suc number) files

-- the context of a view, and the objects in it
abbrev pub view_names : List (List ℕ) → List ℕ × ℕ → List Name
view_names files view = record { path = view.0 ∷ []; kept = context } ∷ object_names view.0 view.1 0 files

-- a context for each view, and in it an object for each file
abbrev pub start_names : List (List ℕ × ℕ) → List (List ℕ) → List Name
start_names views files = flat_map (view_names files) views
