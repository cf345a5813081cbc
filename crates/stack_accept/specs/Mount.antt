-- The tree that an accepted stack makes.
use Rattle.std.specs.Prelude.{ℕ, zero, suc, ◌+◌, List, [], ◌∷◌, ◌++◌, reverse, filter, map, fold, position, slice_get, Bool, true, false, ◌&&◌, ◌==◌, if◌then◌else◌, Option, Some, None, unwrap_or}
use Rattle.std.specs.Option.{option_map_or, option_to_list}
use Rattle.std.specs.List.{list_any, find, filter_map}
use Rattle.std.specs.Str.{bytes_eq}
use Rattle.stack_text.specs.declared.stack.StackLine.{StackLine}
use Rattle.stack_text.specs.declared.stack.StackLine.TheVariants.{Page, File, Layer}
use Rattle.stack_text.specs.declared.stack.LayerKind.{LayerKind}
use Rattle.stack_text.specs.declared.stack.LayerKind.TheVariants.{Disk, Mirror, Upper}
use Rattle.stack_text.specs.declared.stack.UpperKind.TheVariants.{Coherency, Dfs, Vmm}
use Rattle.stack_accept.specs.declared.entries.Kind.{Kind}
use Rattle.stack_accept.specs.declared.entries.Kind.TheVariants as kinds
use Rattle.stack_accept.specs.declared.entries.FileEntry.{FileEntry}
use Rattle.stack_accept.specs.declared.entries.NodeEntry.{NodeEntry}
use Rattle.tower_core.specs.TreeShape.{TreeShape}
use Rattle.stack_accept.specs.Lines.{machine_of, is_named, is_storage}
use Rattle.stack_accept.specs.Rules.{is_node, is_first_node}
use Rattle.stack_accept.specs.Plan.{Plan, plan_back}

-- a mounted stack, seen as its lists
pub record Mount : Type 0 where
  pub page_size : ℕ
  pub files : List FileEntry
  pub tree : TreeShape
  pub nodes : List NodeEntry
  pub ground : Plan
  pub disks : List (List ℕ)
  pub machines : List (List ℕ)

-- the place of a name in a list of names
abbrev pub number_in : List (List ℕ) → List ℕ → ℕ
number_in names name = unwrap_or (position (λ own. bytes_eq own name) names) 0

abbrev pub page_size_of : List StackLine → ℕ
page_size_of (Page size ∷ lines) = size
page_size_of lines = 0

abbrev pub file_of : StackLine → Option FileEntry
file_of (File name pages) = Some (record { name = name; pages = pages })
file_of _ = None

abbrev pub disk_of : StackLine → Option (List ℕ)
disk_of (Layer name machine Disk) = Some name
disk_of _ = None

-- the names with one more, unless it is there already
abbrev pub with_machine : List (List ℕ) → Option (List ℕ) → List (List ℕ)
with_machine names None = names
with_machine names (Some name) = if list_any (λ own. bytes_eq own name) names then names else names ++ name ∷ []

-- the machines in the order in which their names first occur
abbrev pub machines_of : List StackLine → List (List ℕ)
machines_of lines = fold (λ names line. with_machine names (machine_of line)) [] lines

-- what an upper layer stands on
abbrev pub base_of : StackLine → List ℕ
base_of (Layer name machine (Upper kind below)) = below
base_of _ = []

-- The ground is what the first node stands on.
abbrev pub ground_name : List StackLine → List ℕ
ground_name lines = option_map_or (λ line. base_of line) (find (λ line. is_first_node lines line) lines) []

abbrev pub ground_line : List StackLine → Option StackLine
ground_line lines = find (λ line. is_storage line && is_named (ground_name lines) line) lines

-- the ground, and then the other nodes in the order of their lines
abbrev pub node_lines : List StackLine → List StackLine
node_lines lines = option_to_list (ground_line lines) ++ filter (λ line. is_node lines line) lines

-- the number of the node of the name
abbrev pub node_number : List StackLine → List ℕ → ℕ
node_number nodes name = unwrap_or (position (λ line. is_named name line) nodes) 0

-- what a layer's node is
abbrev pub node_kind : LayerKind → Kind
node_kind Disk = kinds.Disk
node_kind (Mirror left right) = kinds.Mirror
node_kind (Upper Coherency below) = kinds.Coherency
node_kind (Upper Dfs below) = kinds.Dfs
node_kind (Upper (Vmm frames) below) = kinds.Vmm

-- the number of the node that it stands on; the ground stands on none
abbrev pub node_below : List StackLine → LayerKind → ℕ
node_below nodes (Upper kind below) = node_number nodes below
node_below nodes _ = 0

-- how many pages of a file it holds, if it is a memory manager
abbrev pub node_frames : LayerKind → ℕ
node_frames (Upper (Vmm frames) below) = frames
node_frames _ = 0

-- the node of a layer's line, given the machines and the nodes' lines
abbrev pub node_of : List (List ℕ) → List StackLine → StackLine → Option NodeEntry
node_of machines nodes (Layer name machine kind) =
    Some (record { name = name; kind = node_kind kind; machine = number_in machines machine; below = node_below nodes kind; frames = node_frames kind })
node_of machines nodes _ = None

abbrev pub nodes_of : List StackLine → List NodeEntry
nodes_of lines = filter_map (λ line. node_of (machines_of lines) (node_lines lines) line) (node_lines lines)

abbrev pub is_dfs_node : Kind → Bool
is_dfs_node kinds.Dfs = true
is_dfs_node _ = false

-- A coherency or a distributed layer has a view. The ground is neither, and a memory manager serves its own machine alone.
abbrev pub is_view : Kind → Bool
is_view kinds.Disk = false
is_view kinds.Mirror = false
is_view kinds.Coherency = true
is_view kinds.Dfs = true
is_view kinds.Vmm = false

-- the node of this number has a view
abbrev pub is_view_in : List NodeEntry → ℕ → Bool
is_view_in nodes number = option_map_or (λ node. is_view node.kind) (slice_get nodes number) false

-- local traffic goes round a distributed layer of its own machine
abbrev pub goes_round : Option NodeEntry → ℕ → Bool
goes_round None machine = false
goes_round (Some node) machine = is_dfs_node node.kind && (node.machine == machine)

abbrev pub below_of : Option NodeEntry → ℕ
below_of None = 0
below_of (Some node) = node.below

-- the node that is reached from a view by at most this many steps down, for the machine
abbrev pub via_in : ℕ → List NodeEntry → ℕ → ℕ → ℕ
via_in zero nodes view machine = view
via_in (suc steps) nodes view machine = if goes_round (slice_get nodes view) machine then via_in steps nodes (below_of (slice_get nodes view)) machine else view

-- The node that serves a view's pages on a machine: the view, unless it is a distributed layer of this machine; then
-- the node that serves what it stands on. Each step goes to a lower node.
abbrev pub via : List NodeEntry → ℕ → ℕ → ℕ
via nodes view machine = via_in view nodes view machine

-- how many layers there are from a node down to the ground, itself included; at most this many are counted
abbrev pub depth_in : ℕ → List NodeEntry → ℕ → ℕ
depth_in zero nodes number = 0
depth_in (suc steps) nodes zero = 0
depth_in (suc steps) nodes (suc number) = depth_in steps nodes (below_of (slice_get nodes (suc number))) + 1

-- The depth of a node, by what stands on what; the ground has depth 0. Each step goes to a lower node.
abbrev pub depth : List NodeEntry → ℕ → ℕ
depth nodes number = depth_in number nodes number

-- the parent of a node is the node that serves on its machine what it stands on
abbrev pub tree_of : List NodeEntry → TreeShape
tree_of nodes = record { parents = map (λ node. via nodes node.below node.machine) nodes; frames = map (λ node. node.frames) nodes }

-- the mounted stack of the lines of an accepted text
abbrev pub mounted : List StackLine → Mount
mounted lines =
    record {
      page_size = page_size_of lines;
      files = filter_map (λ line. file_of line) lines;
      tree = tree_of (nodes_of lines);
      nodes = nodes_of lines;
      ground = plan_back (reverse lines) (ground_name lines);
      disks = filter_map (λ line. disk_of line) lines;
      machines = machines_of lines;
    }
