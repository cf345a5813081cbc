-- The names that a mounted stack starts with.
use Rattle.std.specs.Prelude.{ℕ, suc, List, [], ◌∷◌, ◌++◌, map, if◌then◌else◌}
use Rattle.stack_accept.specs.declared.entries.FileEntry.{FileEntry}
use Rattle.stack_accept.specs.declared.entries.NodeEntry.{NodeEntry}
use Rattle.stack_accept.specs.Mount.{Mount, is_view}
use Rattle.name_context.specs.Names.{Name}
use Rattle.name_context.specs.Start.{start_names}

-- the views among the nodes from this number on: the name of each, and the number of its node
abbrev pub views_from : ℕ → List NodeEntry → List (List ℕ × ℕ)
views_from number [] = []
views_from number (node ∷ nodes) = (if is_view node.kind then (node.name, number) ∷ [] else []) ++ views_from (suc number) nodes

-- the names of the files
abbrev pub file_names : List FileEntry → List (List ℕ)
file_names files = map (λ file. file.name) files

-- a context for each view, and in it an object for each file
abbrev pub names_at_start : Mount → List Name
names_at_start mount = start_names (views_from 0 mount.nodes) (file_names mount.files)
