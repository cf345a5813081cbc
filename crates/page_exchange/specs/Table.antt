-- A node's own table, that of a layer or of a leaf: what contracts see of it, what it allows, and what a frame makes of it.
use Rattle.std.specs.Prelude.{◌≡◌, ◌≢◌, ℕ, Bool, true, false, None, List, []}
use Rattle.tower_core.specs.declared.right.Right.{Right}
use Rattle.layer_laws.specs.Side.{Side, written}
use Rattle.pager_channel.specs.declared.numbers.Ops.{Ops}
use Rattle.pager_channel.specs.Seen.{FrameSeen}
use Rattle.page_messages.specs.declared.kinds.Asked.{Asked}
use Rattle.page_messages.specs.declared.kinds.Called.{Called}
use Rattle.page_messages.specs.declared.paged.About.{About}
use Rattle.page_messages.specs.declared.paged.PagedFile.{PagedFile}
use Rattle.page_messages.specs.declared.refusal.NodeErr.{NodeErr}
use Rattle.page_messages.specs.declared.refusal.NodeErr.TheVariants as errors
use Rattle.page_messages.specs.Letters.{reply}
use Rattle.page_messages.specs.Paged.{page_about}
use Rattle.page_messages.specs.Rules.{MayObey}
use Rattle.page_messages.specs.Sealed.{sealed}
use Rattle.page_messages.specs.Masks.{IsIn}
use Rattle.coherency_layer.specs.Node as layers
use Rattle.coherency_layer.specs.Node.{about_called, OnPages}
use Rattle.vmm_cache.specs.Leaf as leaves
use Rattle.vmm_cache.specs.Uses.{used_last, without}
use Rattle.page_exchange.specs.declared.table.Table.{Table}
use Rattle.page_exchange.specs.declared.table.Table.TheVariants.{Layer, Leaf}

-- WHAT CONTRACTS SEE OF A TABLE: its file, its children, by page what the node has of it, and of a leaf how many frames it has and the
-- pages that it holds by their last uses, the oldest first. A layer has no frames
abbrev pub file_of : Table → PagedFile
file_of (Layer node) = layers.file_of node
file_of (Leaf leaf) = leaves.file_of leaf

abbrev pub is_layer : Table → Bool
is_layer (Layer node) = true
is_layer (Leaf leaf) = false

abbrev pub children_of : Table → ℕ
children_of (Layer node) = node.children
children_of (Leaf leaf) = 0

abbrev pub HasChild : Table → ℕ → Type 0
HasChild table child = IsIn (children_of table) child

abbrev pub side : Table → ℕ → Side
side (Layer node) page = layers.side node page
side (Leaf leaf) page = leaves.side leaf page

abbrev pub frames_of : Table → ℕ
frames_of (Layer node) = 0
frames_of (Leaf leaf) = leaves.frames_of leaf

abbrev pub uses_of : Table → List ℕ
uses_of (Layer node) = []
uses_of (Leaf leaf) = leaves.uses_of leaf

-- what no call changes
pub record IsSameTable (old new : Table) : Type 0 where
  pub kind : is_layer new ≡ is_layer old
  pub file : file_of new ≡ file_of old
  pub children : children_of new ≡ children_of old
  pub frames : frames_of new ≡ frames_of old

-- nothing changed
pub record IsLeft (old new : Table) : Type 0 where
  pub same : IsSameTable old new
  pub sides : (page : ℕ) → side new page ≡ side old page
  pub uses : uses_of new ≡ uses_of old

-- WHAT A NODE KEEPS of a page that became this: the rights, and where it has a right itself, all of it. So a leaf may drop the copy of a page
-- on which it has no right
pub record IsLike (to s : Side) : Type 0 where
  pub right : s.right ≡ to.right
  pub kids : (child : ℕ) → s.kids child ≡ to.kids child
  pub whole : to.right ≢ Right.Nothing → s ≡ to

-- one page became this, and the others are as they were
pub record ChangesPage (old new : Table) (page : ℕ) (to : Side) : Type 0 where
  pub here : IsLike to (side new page)
  pub others : (other : ℕ) → other ≢ page → side new other ≡ side old other

-- THE USES of a leaf after a question: a grant is a use, and a page that goes out is no more among them
abbrev pub uses_asked : Asked → ℕ → List ℕ → List ℕ
uses_asked Asked.PageInRead page uses = used_last page uses
uses_asked Asked.PageInWrite page uses = used_last page uses
uses_asked Asked.PageOut page uses = without page uses
uses_asked what page uses = uses

-- of a leaf the uses are these now; a layer has none
abbrev pub ListsUses : Table → Table → List ℕ → Type 0
ListsUses old new listed = frames_of old ≢ 0 → uses_of new ≡ listed

-- WHAT A NODE MAY ASK about a page, and be ordered to do with it
abbrev pub MayAskAbout : Table → Asked → ℕ → Type 0
MayAskAbout (Layer node) what page = layers.MayAskAbout node what page
MayAskAbout (Leaf leaf) what page = leaves.MayAskAbout leaf what page

abbrev pub MayObeyAbout : Table → Called → ℕ → Type 0
MayObeyAbout (Layer node) what page = OnPages node (about_called what page) (λ s. MayObey s what)
MayObeyAbout (Leaf leaf) what page = leaves.MayObeyAt leaf what (about_called what page)

-- WHAT THE TABLE ALLOWS: an order of the pager, and its answer to a question
abbrev pub AllowsOrder : Table → FrameSeen → Type 0
AllowsOrder (Layer node) f = layers.AllowsFirst node None f
AllowsOrder (Leaf leaf) f = leaves.AllowsFirst leaf f

abbrev pub AllowsAnswer : Table → FrameSeen → Type 0
AllowsAnswer (Layer node) f = layers.AllowsSecond node None f
AllowsAnswer (Leaf leaf) f = leaves.AllowsSecond leaf f

-- what such a frame makes of it
abbrev pub Obeys : Table → Table → FrameSeen → Type 0
Obeys (Layer old) (Layer new) f = layers.IsChange old new None f
Obeys (Leaf old) (Leaf new) f = leaves.IsFirstChange old new f
Obeys old new f = ⊥

abbrev pub Takes : Table → Table → FrameSeen → Type 0
Takes (Layer old) (Layer new) f = layers.IsChange old new None f
Takes (Leaf old) (Leaf new) f = leaves.IsSecondChange old new f
Takes old new f = ⊥

-- memory may lack only for a first copy of a page
abbrev pub IsForFirstCopy : Table → FrameSeen → Type 0
IsForFirstCopy (Layer node) f = layers.IsForFirstCopy node f
IsForFirstCopy (Leaf leaf) f = leaves.IsForFirstCopy leaf f

-- why an answer is not taken: the table does not allow it, or memory lacks for a first copy
abbrev pub IsNotTaken : Table → FrameSeen → NodeErr → Type 0
IsNotTaken table f (errors.NotAllowed page) = AllowsAnswer table f → ⊥
IsNotTaken table f errors.Memory = IsForFirstCopy table f

-- what the node replies to an order
abbrev pub reply_to : Ops → Table → Called → About → FrameSeen
reply_to ops table what about = sealed ops (file_of table) (page_about about) (reply (side table (page_about about)) what)

-- THE NODE'S OWN ACCESSES: what it may read, and what it may write
abbrev pub MayRead : Table → ℕ → Type 0
MayRead (Layer node) page = layers.MayRead node page
MayRead (Leaf leaf) page = leaves.MayRead leaf page

abbrev pub MayWrite : Table → ℕ → Type 0
MayWrite (Layer node) page = layers.MayWrite node page
MayWrite (Leaf leaf) page = leaves.MayWrite leaf page

-- a leaf used a page, and nothing else changed
pub record IsUsed (old new : Table) (page : ℕ) : Type 0 where
  pub same : IsSameTable old new
  pub sides : (other : ℕ) → side new other ≡ side old other
  pub uses : ListsUses old new (used_last page (uses_of old))

-- the node wrote these bytes to a page, which a leaf thereby used
pub record IsWritten (old new : Table) (page : ℕ) (bytes : List ℕ) : Type 0 where
  pub same : IsSameTable old new
  pub here : side new page ≡ written bytes (side old page)
  pub others : (other : ℕ) → other ≢ page → side new other ≡ side old other
  pub uses : ListsUses old new (used_last page (uses_of old))
