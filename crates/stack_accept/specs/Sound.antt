-- What holds of every mounted stack.
use Rattle.std.specs.Prelude.{◌≡◌, ℕ, ◌<◌, ◌≤◌, List, length, map, slice_get, slice_index_or, Bool, true, false, Some}
use Rattle.std.specs.List.{AllByRecursion}
use Rattle.std.specs.List.Sorted.{IsPermutation}
use Rattle.hist_plain.specs.declared.TheConstants.{MAX_PAGES, MAX_NODES}
use Rattle.hist_plain.specs.Plain.{IsPageSize}
use Rattle.tower_core.specs.TreeShape.{IsTree}
use Rattle.stack_accept.specs.declared.TheConstants.{MAX_FILES, MAX_DISKS, MAX_DEPTH, MAX_FRAMES}
use Rattle.stack_accept.specs.declared.entries.Kind.{Kind}
use Rattle.stack_accept.specs.declared.entries.Kind.TheVariants.{Disk, Mirror, Coherency, Dfs, Vmm}
use Rattle.stack_accept.specs.declared.entries.NodeEntry.{NodeEntry}
use Rattle.stack_accept.specs.Mount.{Mount, tree_of, is_dfs_node, is_view, is_view_in, goes_round, via, depth}
use Rattle.stack_accept.specs.Plan.{disks_in, mirror_levels, numbers_below}

-- the pages of a file, and the frames of a memory manager, are within their limits
abbrev pub IsInLimits : ℕ → Type 0
IsInLimits pages = (1 ≤ pages) × (pages ≤ MAX_PAGES)

abbrev pub HasFrames : ℕ → Type 0
HasFrames frames = (1 ≤ frames) × (frames ≤ MAX_FRAMES)

-- no name stands at two places
abbrev pub AreDifferent : List (List ℕ) → Type 0
AreDifferent names = (a b : ℕ) (name : List ℕ) → slice_get names a ≡ Some name → slice_get names b ≡ Some name → a ≡ b

abbrev pub IsStorageKind : Kind → Type 0
IsStorageKind Disk = Unit {0}
IsStorageKind Mirror = Unit {0}
IsStorageKind _ = ⊥

-- a coherency layer, a distributed layer, or a memory manager; only the last has frames
abbrev pub IsLayerKind : Kind → ℕ → Type 0
IsLayerKind Coherency frames = frames ≡ 0
IsLayerKind Dfs frames = frames ≡ 0
IsLayerKind Vmm frames = HasFrames frames
IsLayerKind _ frames = ⊥

-- the ground: a disk or a mirror, which stands on nothing
pub record IsGroundNode (machines : List (List ℕ)) (node : NodeEntry) : Type 0 where
  pub kind : IsStorageKind node.kind
  pub low : node.below ≡ 0
  pub bare : node.frames ≡ 0
  pub machine : node.machine < length machines

-- a layer
pub record IsLayerNode (machines : List (List ℕ)) (node : NodeEntry) : Type 0 where
  pub kind : IsLayerKind node.kind node.frames
  pub machine : node.machine < length machines

-- A layer stands on a view, and a coherency layer on the ground too. So nothing stands on a memory manager.
abbrev pub may_stand_on : Kind → Kind → Bool
may_stand_on Coherency Disk = true
may_stand_on Coherency Mirror = true
may_stand_on layer base = is_view base

-- a layer, and what it stands on
pub record StandsOn (node base : NodeEntry) : Type 0 where
  pub kinds : may_stand_on node.kind base.kind ≡ true
  -- both are on one machine, unless the base is a distributed layer
  pub near : is_dfs_node base.kind ≡ false → node.machine ≡ base.machine

-- what serves a view's pages on a machine: a view, the same or a lower one, and no distributed layer of this machine
pub record Serves (nodes : List NodeEntry) (view machine server : ℕ) : Type 0 where
  pub low : server ≤ view
  pub has_view : is_view_in nodes server ≡ true
  pub apart : goes_round (slice_get nodes server) machine ≡ false

pub record IsMount (m : Mount) : Type 0 where
  pub page_size : IsPageSize m.page_size
  pub some_file : 1 ≤ length m.files
  pub few_files : length m.files ≤ MAX_FILES
  pub pages : AllByRecursion (λ file. IsInLimits file.pages) m.files
  pub some_disk : 1 ≤ length m.disks
  pub few_disks : length m.disks ≤ MAX_DISKS
  -- the ground has each disk once, in any order
  pub disks : IsPermutation (disks_in m.ground) (numbers_below (length m.disks))
  pub levels : mirror_levels m.ground < MAX_DISKS
  pub file_names : AreDifferent (map (λ file. file.name) m.files)
  pub node_names : AreDifferent (map (λ node. node.name) m.nodes)
  pub disk_names : AreDifferent m.disks
  pub machine_names : AreDifferent m.machines
  pub tree : IsTree m.tree
  -- each layer's parent is what serves on its machine what it stands on
  pub served : m.tree ≡ tree_of m.nodes
  pub some_layer : 2 ≤ length m.nodes
  pub few_nodes : length m.nodes ≤ MAX_NODES
  -- the ground is a disk or a mirror, and every other node a layer that stands on an earlier node
  pub ground_node : (d : NodeEntry) → IsGroundNode m.machines (slice_index_or m.nodes 0 d)
  pub layer_node : (node : ℕ) (d : NodeEntry) → 0 < node → node < length m.nodes → IsLayerNode m.machines (slice_index_or m.nodes node d)
  pub ordered : (node : ℕ) (d : NodeEntry) → 0 < node → node < length m.nodes → (slice_index_or m.nodes node d).below < node
  pub stands : (number : ℕ) (node base : NodeEntry) → 0 < number → slice_get m.nodes number ≡ Some node → slice_get m.nodes node.below ≡ Some base → StandsOn node base
  pub depths : (number : ℕ) → number < length m.nodes → depth m.nodes number ≤ MAX_DEPTH
  -- node 1 alone stands on the ground
  pub first : (number : ℕ) (node : NodeEntry) → 0 < number → slice_get m.nodes number ≡ Some node → node.below ≡ 0 → number ≡ 1
  pub serving : (view machine : ℕ) → is_view_in m.nodes view ≡ true → Serves m.nodes view machine (via m.nodes view machine)
