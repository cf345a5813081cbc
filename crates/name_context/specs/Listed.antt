-- What stands in a context.
use Rattle.std.specs.Prelude.{ℕ, ◌+◌, ◌==◌, ◌&&◌, List, [], length, slice_get, Option, Some, None, if◌then◌else◌}
use Rattle.std.specs.List.{filter_map, starts_with}
use Rattle.std.specs.Str.{bytes_eq}
use Rattle.name_context.specs.Names.{Name}

-- the last part of a path that begins with these parts and has just one more
abbrev pub part_below : List (List ℕ) → List (List ℕ) → Option (List ℕ)
part_below above path = if length path == length above + 1 && starts_with bytes_eq path above then slice_get path (length above) else None

-- the parts of a path; the root has none
abbrev pub parts_of : Option (List (List ℕ)) → List (List ℕ)
parts_of None = []
parts_of (Some path) = path

-- what stands in a context, in the order in which it was made
abbrev pub listed : List Name → Option (List (List ℕ)) → List (List ℕ)
listed names path = filter_map (λ name. part_below (parts_of path) name.path) names
