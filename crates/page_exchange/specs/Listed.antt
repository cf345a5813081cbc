-- A list of tables, one for each node of a tree, by the nodes' numbers.
use Rattle.std.specs.Prelude.{◌≡◌, ◌≢◌, ◌<◌, ◌↔◌, ℕ, true, List, [], length, slice_get, Option, Some, None}
use Rattle.tower_core.specs.Count.{count_below}
use Rattle.tower_core.specs.TreeShape as trees
use Rattle.tower_core.specs.TreeShape.{TreeShape, nodes, IsUpper, IsChild}
use Rattle.tower_core.specs.Trail.{holds}
use Rattle.tower_core.specs.declared.right.Right.{Right}
use Rattle.tower_core.specs.declared.step.Step.{Step}
use Rattle.layer_laws.specs.Side.{Side}
use Rattle.page_messages.specs.declared.kinds.Asked.{Asked}
use Rattle.page_messages.specs.declared.paged.PagedFile.{PagedFile}
use Rattle.page_messages.specs.Seen.{no_side}
use Rattle.vmm_cache.specs.Used.{uses_after}
use Rattle.vmm_cache.specs.Uses.{oldest}
use Rattle.page_exchange.specs.declared.table.Table.{Table}
use Rattle.page_exchange.specs.Table.{file_of, frames_of, is_layer, side, uses_of, HasChild}

-- what a place of the list has of a page, if it has a table
abbrev pub side_seen : Option Table → ℕ → Side
side_seen None page = no_side
side_seen (Some table) page = side table page

-- the tables of the list, by page and node
abbrev pub sides_in : List Table → ℕ → ℕ → Side
sides_in tables page node = side_seen (slice_get tables node) page

-- the pages that a leaf of the list holds, by their last uses, the oldest first
abbrev pub uses_seen : Option Table → List ℕ
uses_seen None = []
uses_seen (Some table) = uses_of table

abbrev pub uses_in : List Table → ℕ → List ℕ
uses_in tables node = uses_seen (slice_get tables node)

-- of how many of the first pages a node has a right
abbrev pub held_in : (ℕ → ℕ → Side) → ℕ → ℕ → ℕ
held_in sides pages node = count_below (λ page. holds (sides page node).right) pages

-- a node's table is of the file, its children are those that it has in the tree, and it has as many frames. What has none is a layer
pub record IsTableOf (shape : TreeShape) (file : PagedFile) (number : ℕ) (table : Table) : Type 0 where
  pub file_is : file_of table ≡ file
  pub children : (child : ℕ) → IsUpper shape number → HasChild table child ↔ IsChild shape child number
  pub frames : frames_of table ≡ trees.frames_of shape number
  pub layer : trees.frames_of shape number ≡ 0 → is_layer table ≡ true

-- a table for each node of the tree; that of the ground is empty, and nobody reads it
pub record AreTablesOf (shape : TreeShape) (file : PagedFile) (tables : List Table) : Type 0 where
  pub many : length tables ≡ nodes shape
  pub each : (number : ℕ) (table : Table) → slice_get tables number ≡ Some table → IsTableOf shape file number table

-- the list has the tables of some file, and the page is one of that file's
pub record AreTablesWith (shape : TreeShape) (pages page : ℕ) (tables : List Table) : Type 0 where
  pub file : PagedFile
  pub tables_are : AreTablesOf shape file tables
  pub pages_are : file.pages ≡ pages
  pub inside : page < pages

-- no table of the list differs
pub record AreSameTables (old new : List Table) : Type 0 where
  pub sides : (page node : ℕ) → sides_in new page node ≡ sides_in old page node
  pub uses : (node : ℕ) → uses_in new node ≡ uses_in old node

-- each is still of the file that it was of, with the same children
abbrev pub StayTables : TreeShape → List Table → List Table → Type 0
StayTables shape old new = (file : PagedFile) → AreTablesOf shape file old → AreTablesOf shape file new

-- a node of which nobody has anything
pub record IsFresh (table : Table) : Type 0 where
  pub right : (page : ℕ) → (side table page).right ≡ Right.Nothing
  pub kids : (page child : ℕ) → (side table page).kids child ≡ Right.Nothing
  pub uses : uses_of table ≡ []

-- memory lacks only for a page of which the node has nothing
pub record LacksRoom (s : Side) : Type 0 where
  pub nothing : s.right ≡ Right.Nothing

-- WHAT THE FRAMES OF A NODE ALLOW, where it holds so many pages: a page of which a leaf has nothing needs a free frame, and only the page that was
-- used longest ago goes out, and only of a leaf
abbrev pub FramesAllow : ℕ → ℕ → Right → List ℕ → Asked → ℕ → Type 0
FramesAllow frames held right uses Asked.PageInRead page = frames ≢ 0 → held < frames
FramesAllow frames held right uses Asked.PageInWrite page = frames ≢ 0 → right ≡ Right.Nothing → held < frames
FramesAllow frames held right uses Asked.PageOut page = (frames ≢ 0) × (oldest uses ≡ Some page)
FramesAllow frames held right uses what page = Unit {0}

-- THE LEAVES list their pages as the step on the page has it: a use makes the page the last, and a page that a leaf gives up goes
abbrev pub UsesFollow : TreeShape → ℕ → Step → (ℕ → List ℕ) → (ℕ → List ℕ) → Type 0
UsesFollow shape page step old new = (leaf : ℕ) → trees.frames_of shape leaf ≢ 0 → new leaf ≡ uses_after leaf step page (old leaf)
