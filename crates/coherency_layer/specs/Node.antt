-- A node's own table, by pages: what it allows, and what a frame makes of it.
use Rattle.std.specs.Prelude.{◌≡◌, ◌≢◌, ℕ, ◌+◌, ◌<◌, Option, Some, IsSomeAnd, List, [], slice_range}
use Rattle.tower_core.specs.declared.right.Right.{Right}
use Rattle.tower_core.specs.Count.{count_below}
use Rattle.tower_core.specs.Trail.{holds}
use Rattle.layer_laws.specs.Side.{Side, written}
use Rattle.marshal_buf.specs.Held.{Held}
use Rattle.pager_channel.specs.declared.numbers.Ops.{Ops}
use Rattle.pager_channel.specs.Frame.{IsFrame}
use Rattle.pager_channel.specs.Seen.{FrameSeen}
use Rattle.page_messages.specs.declared.slot.Slot.{Slot}
use Rattle.page_messages.specs.declared.paged.PagedFile.{PagedFile}
use Rattle.page_messages.specs.declared.paged.About.{About}
use Rattle.page_messages.specs.declared.kinds.Asked.{Asked}
use Rattle.page_messages.specs.declared.kinds.Called.{Called}
use Rattle.page_messages.specs.declared.kinds.Answer.{Answer}
use Rattle.page_messages.specs.declared.message.Message.{Message}
use Rattle.page_messages.specs.Masks.{IsIn}
use Rattle.page_messages.specs.Paged.{about_of, page_about, page_named}
use Rattle.page_messages.specs.Rules.{NoKidHolds, NoKidWrites, MayAsk, MayCall}
use Rattle.page_messages.specs.Kinds.{asked_in, called_in}
use Rattle.page_messages.specs.Letters.{answer, reply}
use Rattle.page_messages.specs.Sealed.{sealed, PutsFrame}
use Rattle.page_messages.specs.After.{page_after}
use Rattle.page_messages.specs.Message.{first_in, second_in, Allows}
use Rattle.coherency_layer.specs.declared.node.Node.{Node}
use Rattle.page_messages.specs.declared.refusal.NodeErr.{NodeErr}
use Rattle.page_messages.specs.declared.refusal.NodeErr.TheVariants as errors
use Rattle.page_messages.specs.Seen.{side_in}

-- WHAT CONTRACTS SEE OF A NODE: its file, its children, and by page its right, its copy, whether that is changed, and
-- the right of each child
abbrev pub file_of : Node → PagedFile
file_of node = node.file

abbrev pub HasChild : Node → ℕ → Type 0
HasChild node child = IsIn node.children child

abbrev pub side : Node → ℕ → Side
side node page = side_in node.slots.items page

-- of how many pages the node has a right
abbrev pub held_of : Node → ℕ
held_of node = count_below (λ page. holds (side node page).right) node.file.pages

-- what no call changes
pub record IsSameNode (old new : Node) : Type 0 where
  pub file : new.file ≡ old.file
  pub children : new.children ≡ old.children

-- nothing changed
pub record IsLeft (old new : Node) : Type 0 where
  pub same : IsSameNode old new
  pub sides : (page : ℕ) → side new page ≡ side old page

-- the pages that decide a message: the one that it is about, or all
abbrev pub slots_about : Node → About → List Slot
slots_about node (About.Page page) = slice_range node.slots.items page (page + 1)
slots_about node About.Channel = node.slots.items

-- it holds of the page that a message is about; of the end of a channel each page decides
abbrev pub OnPages : Node → About → (Side → Type 0) → Type 0
OnPages node (About.Page page) Holds = Holds (side node page)
OnPages node About.Channel Holds = (page : ℕ) → page < node.file.pages → Holds (side node page)

-- WHAT THE NODE MAY ASK about a page, and what it may order a child to do. It is no leaf, so it does not ask for PageOut
abbrev pub about_asked : Asked → ℕ → About
about_asked Asked.Done page = About.Channel
about_asked what page = About.Page page

abbrev pub about_called : Called → ℕ → About
about_called Called.Destroy page = About.Channel
about_called what page = About.Page page

pub record MayAskAbout (node : Node) (what : Asked) (page : ℕ) : Type 0 where
  pub inside : page < node.file.pages
  pub no_leaf : what ≢ Asked.PageOut
  pub may : OnPages node (about_asked what page) (λ s. MayAsk s what)

pub record MayCallAbout (node : Node) (child : ℕ) (what : Called) (page : ℕ) : Type 0 where
  pub inside : page < node.file.pages
  pub child_is : HasChild node child
  pub may : OnPages node (about_called what page) (λ s. MayCall s child what)

-- WHAT THE TABLE ALLOWS: a frame of this file that is such a message, of which the pages that decide allow their part
abbrev pub AllowsAbout : Node → FrameSeen → Message → Type 0
AllowsAbout node f message = IsSomeAnd (about_of node.file f) (λ about. OnPages node about (λ s. Allows s message))

-- a first frame: a question of the child, or else an order of the pager
abbrev pub AllowsFirst : Node → Option ℕ → FrameSeen → Type 0
AllowsFirst node child f = IsSomeAnd (first_in child f) (AllowsAbout node f)

-- a second frame: the child's answer to an order, or else the pager's to a question. As it is no leaf, it takes no answer
-- to PageOut
abbrev pub AllowsSecond : Node → Option ℕ → FrameSeen → Type 0
AllowsSecond node child f = IsSomeAnd (second_in child f) (λ message. (message ≢ Message.Answers Answer.PageOut) × AllowsAbout node f message)

-- one page is so now, and the others are as they were
pub record ChangesPage (old new : Node) (page : ℕ) (to : Side) : Type 0 where
  pub here : side new page ≡ to
  pub others : (other : ℕ) → other ≢ page → side new other ≡ side old other

-- a frame about a page changes that page; the end of a channel changes none
abbrev pub ChangesAbout : Node → Node → Option ℕ → FrameSeen → Option About → Type 0
ChangesAbout old new child f (Some (About.Page page)) = ChangesPage old new page (page_after child old.file.page_size f (side old page))
ChangesAbout old new child f about = (page : ℕ) → side new page ≡ side old page

pub record IsChange (old new : Node) (child : Option ℕ) (f : FrameSeen) : Type 0 where
  pub same : IsSameNode old new
  pub pages : ChangesAbout old new child f (about_of old.file f)

-- when each error comes
abbrev pub IsRefusal : Node → FrameSeen → Type 0 → NodeErr → Type 0
IsRefusal node f allowed (errors.NotAllowed page) = (allowed → ⊥) × (page ≡ page_named node.file f)
IsRefusal node f allowed errors.Memory = Unit {0}

-- memory may lack only for a page of which the node has nothing and kept no copy
pub record IsForFirstCopy (node : Node) (f : FrameSeen) : Type 0 where
  pub page : ℕ
  pub about : about_of node.file f ≡ Some (About.Page page)
  pub nothing : (side node page).right ≡ Right.Nothing
  pub no_copy : (side node page).copy ≡ []

abbrev pub IsFirstCopy : Node → FrameSeen → NodeErr → Type 0
IsFirstCopy node f (errors.NotAllowed page) = Unit {0}
IsFirstCopy node f errors.Memory = IsForFirstCopy node f

-- THE NODE'S OWN ACCESSES: what it may read, and what it may write
pub record MayRead (node : Node) (page : ℕ) : Type 0 where
  pub inside : page < node.file.pages
  pub right : (side node page).right ≢ Right.Nothing
  pub kids : NoKidWrites (side node page)

pub record MayWrite (node : Node) (page : ℕ) : Type 0 where
  pub inside : page < node.file.pages
  pub right : (side node page).right ≡ Right.Write
  pub kids : NoKidHolds (side node page)

pub record IsWrite (old new : Node) (page : ℕ) (bytes : List ℕ) : Type 0 where
  pub same : IsSameNode old new
  pub pages : ChangesPage old new page (written bytes (side old page))

-- WHAT THE NODE WRITES: the answer to a question of a child, and the answer to an order of the pager
abbrev pub answer_to : Ops → Node → ℕ → Asked → About → FrameSeen
answer_to ops node child what about = sealed ops node.file (page_about about) (answer ((side node (page_about about)).kids child) (side node (page_about about)).copy what)

abbrev pub reply_to : Ops → Node → Called → About → FrameSeen
reply_to ops node what about = sealed ops node.file (page_about about) (reply (side node (page_about about)) what)

pub record WritesAnswer (ops : Ops) (node : Node) (child : ℕ) (f : FrameSeen) (old new : Held) : Type 0 where
  pub puts : (what : Asked) (about : About) → asked_in f ≡ Some what → about_of node.file f ≡ Some about → PutsFrame (answer_to ops node child what about) old new
  pub frame : (what : Asked) (about : About) → asked_in f ≡ Some what → about_of node.file f ≡ Some about → IsFrame ops (answer_to ops node child what about)

pub record WritesReply (ops : Ops) (node : Node) (f : FrameSeen) (old new : Held) : Type 0 where
  pub puts : (what : Called) (about : About) → called_in f ≡ Some what → about_of node.file f ≡ Some about → PutsFrame (reply_to ops node what about) old new
  pub frame : (what : Called) (about : About) → called_in f ≡ Some what → about_of node.file f ≡ Some about → IsFrame ops (reply_to ops node what about)
