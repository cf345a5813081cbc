-- A leaf's own table, by pages: what it allows, and what a frame makes of it.
use Rattle.std.specs.Prelude.{◌≡◌, ◌≢◌, ◌↔◌, ℕ, ◌<◌, ◌≤◌, Some, None, IsSomeAnd, All, Contains, List, [], length}
use Rattle.tower_core.specs.declared.right.Right.{Right}
use Rattle.tower_core.specs.Count.{count_below}
use Rattle.tower_core.specs.Trail.{holds}
use Rattle.layer_laws.specs.Side.{Side, written}
use Rattle.marshal_buf.specs.Held.{Held}
use Rattle.pager_channel.specs.declared.numbers.Ops.{Ops}
use Rattle.pager_channel.specs.Frame.{IsFrame}
use Rattle.pager_channel.specs.Seen.{FrameSeen}
use Rattle.page_messages.specs.declared.paged.PagedFile.{PagedFile}
use Rattle.page_messages.specs.declared.paged.About.{About}
use Rattle.page_messages.specs.declared.kinds.Asked.{Asked}
use Rattle.page_messages.specs.declared.kinds.Called.{Called}
use Rattle.page_messages.specs.declared.kinds.Answer.{Answer}
use Rattle.page_messages.specs.Paged.{about_of, page_about, page_named}
use Rattle.page_messages.specs.Rules.{NoKidHolds, MayAsk, MayObey, MayTake}
use Rattle.page_messages.specs.Kinds.{called_in, answer_in, right_of, bytes_down}
use Rattle.page_messages.specs.Letters.{reply}
use Rattle.page_messages.specs.Sealed.{sealed, PutsFrame}
use Rattle.page_messages.specs.After.{after_pager}
use Rattle.page_messages.specs.Seen.{no_side}
use Rattle.page_messages.specs.declared.refusal.NodeErr.{NodeErr}
use Rattle.page_messages.specs.declared.refusal.NodeErr.TheVariants as errors
use Rattle.vmm_cache.specs.declared.leaf.Leaf.{Leaf}
use Rattle.vmm_cache.specs.Uses.{oldest, uses_answered, uses_called}
use Rattle.vmm_cache.specs.Frames.{side_in, uses_in}

-- WHAT CONTRACTS SEE OF A LEAF: its file, how many frames it has, the pages that it holds by their last uses, the oldest
-- first, and by page its right, its copy, and whether that is changed. It has no children, so no child has a right
abbrev pub file_of : Leaf → PagedFile
file_of leaf = leaf.file

abbrev pub frames_of : Leaf → ℕ
frames_of leaf = leaf.held.cap

abbrev pub uses_of : Leaf → List ℕ
uses_of leaf = uses_in leaf.held

abbrev pub side : Leaf → ℕ → Side
side leaf page = side_in leaf.held page

-- of how many pages the leaf has a right
abbrev pub held_of : Leaf → ℕ
held_of leaf = count_below (λ page. holds (side leaf page).right) leaf.file.pages

-- what holds of every leaf
pub record IsLeaf (leaf : Leaf) : Type 0 where
  pub held : (page : ℕ) → Contains (uses_of leaf) page ↔ ((side leaf page).right ≢ Right.Nothing)
  pub inside : All (λ page. page < leaf.file.pages) (uses_of leaf)
  pub many : length (uses_of leaf) ≡ held_of leaf
  pub few : held_of leaf ≤ frames_of leaf
  pub kids : (page : ℕ) → NoKidHolds (side leaf page)

-- what no call changes
pub record IsSameLeaf (old new : Leaf) : Type 0 where
  pub file : new.file ≡ old.file
  pub frames : frames_of new ≡ frames_of old

-- nothing changed
pub record IsLeft (old new : Leaf) : Type 0 where
  pub same : IsSameLeaf old new
  pub sides : (page : ℕ) → side new page ≡ side old page
  pub uses : uses_of new ≡ uses_of old

-- WHAT THE FRAMES ALLOW: a page of which the leaf has nothing needs a free frame, and only the victim goes out
abbrev pub HasFrame : Leaf → Type 0
HasFrame leaf = held_of leaf < frames_of leaf

abbrev pub IsVictim : Leaf → ℕ → Type 0
IsVictim leaf page = oldest (uses_of leaf) ≡ Some page

abbrev pub FramesAsk : Leaf → Asked → ℕ → Type 0
FramesAsk leaf Asked.PageInRead page = HasFrame leaf
FramesAsk leaf Asked.PageInWrite page = (side leaf page).right ≡ Right.Nothing → HasFrame leaf
FramesAsk leaf Asked.PageOut page = IsVictim leaf page
FramesAsk leaf what page = Unit {0}

abbrev pub FramesTake : Leaf → Answer → ℕ → Type 0
FramesTake leaf Answer.Grant page = HasFrame leaf
FramesTake leaf Answer.PageOut page = IsVictim leaf page
FramesTake leaf what page = Unit {0}

-- WHAT THE LEAF MAY ASK about a page. The end of the channel needs that it holds no page
abbrev pub MayAskOf : Leaf → Asked → ℕ → Type 0
MayAskOf leaf Asked.Done page = uses_of leaf ≡ []
MayAskOf leaf what page = MayAsk (side leaf page) what × FramesAsk leaf what page

pub record MayAskAbout (leaf : Leaf) (what : Asked) (page : ℕ) : Type 0 where
  pub inside : page < leaf.file.pages
  pub may : MayAskOf leaf what page

-- WHAT THE TABLE ALLOWS: an order of the pager, and its answer to a question. The end of the channel needs that the leaf
-- holds no page
abbrev pub MayObeyAt : Leaf → Called → About → Type 0
MayObeyAt leaf what (About.Page page) = MayObey (side leaf page) what
MayObeyAt leaf what About.Channel = (what ≡ Called.Destroy) × (uses_of leaf ≡ [])

abbrev pub MayTakeAt : Leaf → Answer → About → Type 0
MayTakeAt leaf what (About.Page page) = MayTake (side leaf page) what × FramesTake leaf what page
MayTakeAt leaf what About.Channel = (what ≡ Answer.Done) × (uses_of leaf ≡ [])

-- a first frame: such an order, about this file
abbrev pub AllowsFirst : Leaf → FrameSeen → Type 0
AllowsFirst leaf f = IsSomeAnd (called_in f) (λ what. IsSomeAnd (about_of leaf.file f) (MayObeyAt leaf what))

-- a second frame: such an answer, about this file
abbrev pub AllowsSecond : Leaf → FrameSeen → Type 0
AllowsSecond leaf f = IsSomeAnd (answer_in f) (λ what. IsSomeAnd (about_of leaf.file f) (MayTakeAt leaf what))

-- A LEAF KEEPS NOTHING of a page on which it has no right
abbrev pub framed_as : Right → Side → Side
framed_as Right.Nothing s = no_side
framed_as right s = s

abbrev pub framed : Side → Side
framed s = framed_as s.right s

-- one page is so now, the others are as they were, and the pages are listed so
pub record ChangesPage (old new : Leaf) (page : ℕ) (to : Side) (listed : List ℕ) : Type 0 where
  pub same : IsSameLeaf old new
  pub here : side new page ≡ to
  pub others : (other : ℕ) → other ≢ page → side new other ≡ side old other
  pub uses : uses_of new ≡ listed

-- what a frame makes of the leaf: of the page that it is about what it makes of a page of any node, as far as it is kept
abbrev pub Makes : Leaf → Leaf → FrameSeen → (ℕ → List ℕ → List ℕ) → About → Type 0
Makes old new f moves (About.Page page) =
    ChangesPage old new page (framed (after_pager old.file.page_size f (side old page))) (moves page (uses_of old))
Makes old new f moves About.Channel = IsLeft old new

-- the change of a first frame, and of a second
abbrev pub IsFirstChange : Leaf → Leaf → FrameSeen → Type 0
IsFirstChange old new f =
    IsSomeAnd (called_in f) (λ what. IsSomeAnd (about_of old.file f) (Makes old new f (uses_called what)))

abbrev pub IsSecondChange : Leaf → Leaf → FrameSeen → Type 0
IsSecondChange old new f =
    IsSomeAnd (answer_in f) (λ what. IsSomeAnd (about_of old.file f) (Makes old new f (uses_answered what)))

-- a frame that leaves a right, and brings no bytes
pub record IsKeeping (page_size : ℕ) (f : FrameSeen) : Type 0 where
  pub some : right_of f.head.access ≢ Right.Nothing
  pub bare : bytes_down page_size f ≡ None

-- a frame about this page that leaves a right, and brings the page
pub record IsGranting (file : PagedFile) (page : ℕ) (f : FrameSeen) : Type 0 where
  pub inside : page < file.pages
  pub size : f.head.size ≡ file.page_size
  pub some : right_of f.head.access ≢ Right.Nothing
  pub full : IsSomeAnd (bytes_down file.page_size f) (λ bytes. length bytes ≡ file.page_size)

-- when each error comes
abbrev pub IsRefusal : Leaf → FrameSeen → Type 0 → NodeErr → Type 0
IsRefusal leaf f allowed (errors.NotAllowed page) = (allowed → ⊥) × (page ≡ page_named leaf.file f)
IsRefusal leaf f allowed errors.Memory = Unit {0}

-- memory may lack only for a grant of a page of which the leaf has nothing
pub record IsForFirstCopy (leaf : Leaf) (f : FrameSeen) : Type 0 where
  pub grant : answer_in f ≡ Some Answer.Grant
  pub page : ℕ
  pub about : about_of leaf.file f ≡ Some (About.Page page)
  pub nothing : (side leaf page).right ≡ Right.Nothing

abbrev pub IsFirstCopy : Leaf → FrameSeen → NodeErr → Type 0
IsFirstCopy leaf f (errors.NotAllowed page) = Unit {0}
IsFirstCopy leaf f errors.Memory = IsForFirstCopy leaf f

-- THE LEAF'S OWN ACCESSES: what it may read, and what it may write
abbrev pub MayRead : Leaf → ℕ → Type 0
MayRead leaf page = (side leaf page).right ≢ Right.Nothing

abbrev pub MayWrite : Leaf → ℕ → Type 0
MayWrite leaf page = (side leaf page).right ≡ Right.Write

abbrev pub IsWrite : Leaf → Leaf → ℕ → List ℕ → Type 0
IsWrite old new page bytes = ChangesPage old new page (written bytes (side old page)) (uses_of old)

-- a use of a page moves it alone
abbrev pub IsUse : Leaf → Leaf → ℕ → List ℕ → Type 0
IsUse old new page listed = ChangesPage old new page (side old page) listed

-- WHAT THE LEAF WRITES to answer an order of the pager
abbrev pub reply_to : Ops → Leaf → Called → About → FrameSeen
reply_to ops leaf what about = sealed ops leaf.file (page_about about) (reply (side leaf (page_about about)) what)

pub record WritesReply (ops : Ops) (leaf : Leaf) (f : FrameSeen) (old new : Held) : Type 0 where
  pub puts : (what : Called) (about : About) → called_in f ≡ Some what → about_of leaf.file f ≡ Some about → PutsFrame (reply_to ops leaf what about) old new
  pub frame : (what : Called) (about : About) → called_in f ≡ Some what → about_of leaf.file f ≡ Some about → IsFrame ops (reply_to ops leaf what about)
