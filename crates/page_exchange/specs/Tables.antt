-- The tables of all nodes of a file, by page and node.
use Rattle.std.specs.Prelude.{◌≡◌, ℕ, List, slice_get, unwrap_or}
use Rattle.tower_core.specs.TreeShape.{TreeShape, frames_of, parent}
use Rattle.tower_core.specs.declared.step.Step.{Step}
use Rattle.page_messages.specs.declared.kinds.Asked.{Asked}
use Rattle.layer_laws.specs.Side.{Side}
use Rattle.page_ground.specs.Seen.{Seen, IsFault}
use Rattle.page_messages.specs.declared.paged.PagedFile.{PagedFile}
use Rattle.page_exchange.specs.declared.ground.GroundErr.{GroundErr}
use Rattle.page_exchange.specs.declared.ground.GroundErr.TheVariants as errors
use Rattle.page_exchange.specs.declared.tables.Tables.{Tables}
use Rattle.page_exchange.specs.Wire.{CarriedOver, WireSeen}
use Rattle.page_exchange.specs.Listed.{held_in, sides_in, uses_in, FramesAllow, LacksRoom, UsesFollow}

-- WHAT CONTRACTS SEE OF THE TABLES: the tree, the file, the machines, and by page and node that node's own table
abbrev pub tree_of : Tables → TreeShape
tree_of t = t.tree

abbrev pub paged_of : Tables → PagedFile
paged_of t = t.file

abbrev pub sides : Tables → ℕ → ℕ → Side
sides t = sides_in t.nodes.items

-- and by leaf the pages that it holds, by their last uses, the oldest first
abbrev pub uses : Tables → ℕ → List ℕ
uses t = uses_in t.nodes.items

-- the number of each node's machine, that of the ground first; and of one node
abbrev pub machines_of : Tables → List ℕ
machines_of t = t.machines.items

abbrev pub machine_of : Tables → ℕ → ℕ
machine_of t node = unwrap_or (slice_get t.machines.items node) 0

-- the frames that went last between two of them, or between one and the ground, and their packets
abbrev pub wire_of : Tables → WireSeen
wire_of t = t.wire

-- THE PACKETS OF A QUESTION of a node: the first frame went from its machine to its parent's, and the second back
abbrev pub CarriesUp : Tables → WireSeen → ℕ → Type 0
CarriesUp t wire node = CarriedOver wire (machine_of t node) (machine_of t (parent t.tree node))

-- THE PACKETS OF AN ORDER to a node: the first frame went to its machine from its parent's, and the second back
abbrev pub CarriesDown : Tables → WireSeen → ℕ → Type 0
CarriesDown t wire node = CarriedOver wire (machine_of t (parent t.tree node)) (machine_of t node)

-- the frames of a node allow that it asks
abbrev pub MayAskFrames : Tables → ℕ → Asked → ℕ → Type 0
MayAskFrames t node what page = FramesAllow (frames_of t.tree node) (held_in (sides t) t.file.pages node) (sides t page node).right (uses t node) what page

-- the leaves list their pages as the step has it
abbrev pub Follow : ℕ → Step → Tables → Tables → Type 0
Follow page step old new = UsesFollow old.tree page step (uses old) (uses new)

-- what no call changes
pub record IsSameFile (old new : Tables) : Type 0 where
  pub tree : tree_of new ≡ tree_of old
  pub file : paged_of new ≡ paged_of old
  pub machines : machines_of new ≡ machines_of old
  pub ops : (wire_of new).ops ≡ (wire_of old).ops

-- no table differs
pub record AreLeft (old new : Tables) : Type 0 where
  pub sides : (page node : ℕ) → sides new page node ≡ sides old page node
  pub uses : (node : ℕ) → uses new node ≡ uses old node

-- the ground has the pages of the file
pub record IsUnderFile (ground : Seen) (file : PagedFile) : Type 0 where
  pub size : ground.page_size ≡ file.page_size
  pub number : ground.number ≡ file.pages

-- when each error comes: memory lacks only for a page of which the node has nothing
abbrev pub IsCause : Seen → Seen → Side → GroundErr → Type 0
IsCause before after s (errors.Store fault) = IsFault before after fault
IsCause before after s errors.Memory = LacksRoom s
