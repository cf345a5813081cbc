-- Which virtual memory manager holds the pages of a view for a machine.
use Rattle.std.specs.Prelude.{◌≡◌, ◌<◌, ℕ, List, slice_get, position, Bool, true, false, ◌==◌, ◌&&◌, Option, Some}
use Rattle.std.specs.Option.{option_map}
use Rattle.tower_core.specs.TreeShape.{parent}
use Rattle.stack_accept.specs.declared.entries.Kind.{Kind}
use Rattle.stack_accept.specs.declared.entries.Kind.TheVariants.{Vmm}
use Rattle.stack_accept.specs.declared.entries.NodeEntry.{NodeEntry}
use Rattle.stack_accept.specs.Mount.{Mount, via}
use Rattle.memory_object.specs.declared.binding.MemoryObject.{MemoryObject}
use Rattle.memory_object.specs.declared.binding.CacheRights.{CacheRights}

abbrev pub is_vmm : Kind → Bool
is_vmm Vmm = true
is_vmm _ = false

-- the node is a manager of the machine, and the server is what it stands on there
abbrev pub manages : List NodeEntry → ℕ → ℕ → NodeEntry → Bool
manages nodes server machine node = is_vmm node.kind && ((node.machine == machine) && (via nodes node.below node.machine == server))

-- the first manager of the machine that stands on the server
abbrev pub manager_of : List NodeEntry → ℕ → ℕ → Option ℕ
manager_of nodes server machine = position (manages nodes server machine) nodes

-- what a memory object binds to on a machine
abbrev pub rights_of : Mount → MemoryObject → ℕ → Option CacheRights
rights_of mount object machine = option_map (λ leaf. record { leaf = leaf; file = object.file }) (manager_of mount.nodes (via mount.nodes object.view machine) machine)

-- the node of the number is a manager of the machine, whose parent serves the view's pages there
pub record IsManager (mount : Mount) (view machine number : ℕ) : Type 0 where
  pub node : NodeEntry
  pub here : slice_get mount.nodes number ≡ Some node
  pub kind : node.kind ≡ Vmm
  pub on : node.machine ≡ machine
  pub over : parent mount.tree number ≡ via mount.nodes view machine

-- it is the first such node
pub record IsFirstManager (mount : Mount) (view machine number : ℕ) : Type 0 where
  pub manager : IsManager mount view machine number
  pub first : (other : ℕ) → other < number → ¬ IsManager mount view machine other

abbrev pub HasNoManager : Mount → ℕ → ℕ → Type 0
HasNoManager mount view machine = (number : ℕ) → ¬ IsManager mount view machine number

-- two memory objects whose views one node serves on the machine, and which have one file
pub record AreEquivalent (mount : Mount) (machine : ℕ) (a b : MemoryObject) : Type 0 where
  pub server : via mount.nodes a.view machine ≡ via mount.nodes b.view machine
  pub file : a.file ≡ b.file

-- equivalent memory objects bind to the same
abbrev pub EquivalentBindAlike : Type 0
EquivalentBindAlike = (mount : Mount) (machine : ℕ) (a b : MemoryObject) → AreEquivalent mount machine a b → rights_of mount a machine ≡ rights_of mount b machine
