-- A mounted stack as a run sees it.
use Rattle.std.specs.Prelude.{ℕ, ◌+◌, ◌==◌, Bool, false, not, List, [], ◌&&◌, drop, map, slice_get, slice_index_or, position, Option, Some, None}
use Rattle.std.specs.Option.{option_map}
use Rattle.std.specs.Str.{bytes_eq}
use Rattle.hist_plain.specs.File.{Shape}
use Rattle.stack_accept.specs.declared.entries.FileEntry.{FileEntry}
use Rattle.stack_accept.specs.declared.entries.NodeEntry.{NodeEntry}
use Rattle.stack_accept.specs.Mount.{Mount, is_view}

-- the size of a page, and the parent of each node
abbrev pub shape_of : Mount → Shape
shape_of mount = record { page_size = mount.page_size; parents = mount.tree.parents }

-- the name of a number, by a list of names; a number that has none has the empty name
abbrev pub name_in : List (List ℕ) → ℕ → List ℕ
name_in names number = slice_index_or names number []

-- the name of the disk of a number
abbrev pub disk_name : Mount → ℕ → List ℕ
disk_name mount disk = name_in mount.disks disk

abbrev pub file_names : List FileEntry → List (List ℕ)
file_names files = map (λ file. file.name) files

abbrev pub node_names : List NodeEntry → List (List ℕ)
node_names nodes = map (λ node. node.name) nodes

-- the name of the file of a number
abbrev pub file_name : Mount → ℕ → List ℕ
file_name mount file = name_in (file_names mount.files) file

-- how many pages the file of a number has
abbrev pub pages_of : Mount → ℕ → ℕ
pages_of mount file = pages_in (slice_get mount.files file) where
  pages_in : Option FileEntry → ℕ
  pages_in None = 0
  pages_in (Some entry) = entry.pages

-- the node of the view of a name
abbrev pub view_of : Mount → List ℕ → Option ℕ
view_of mount name = position (λ node. is_view node.kind && bytes_eq node.name name) mount.nodes

-- the node of the layer of a name: a node other than the ground, which is the first
abbrev pub layer_of : Mount → List ℕ → Option ℕ
layer_of mount name = option_map (λ place. place + 1) (position (λ node. bytes_eq node.name name) (drop 1 mount.nodes))

-- the number of the file of a name
abbrev pub file_named : Mount → List ℕ → Option ℕ
file_named mount name = position (λ file. bytes_eq file.name name) mount.files

-- whether a node is on another machine than this one
abbrev pub is_far : Mount → ℕ → ℕ → Bool
is_far mount machine node = far_in (slice_get mount.nodes node) where
  far_in : Option NodeEntry → Bool
  far_in None = false
  far_in (Some entry) = not (entry.machine == machine)
