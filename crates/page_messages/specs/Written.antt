-- What nodes write for an event, by their own tables: a question or an order, and its answer; and the frames of the two.
use Rattle.std.specs.Prelude.{◌≡◌, ℕ, ◌==◌, not, Bool, true, false, List, Option, Some, None}
use Rattle.hist_plain.specs.declared.event.Event.{Event}
use Rattle.tower_core.specs.declared.right.Right.{Right}
use Rattle.tower_core.specs.TreeShape.{TreeShape, parent}
use Rattle.tower_core.specs.Trail.{State}
use Rattle.layer_laws.specs.Side.{Side}
use Rattle.pager_channel.specs.declared.numbers.Ops.{Ops}
use Rattle.pager_channel.specs.Frame.{frame_bytes, IsFrame}
use Rattle.pager_channel.specs.Seen.{FrameSeen}
use Rattle.page_messages.specs.declared.kinds.Asked.{Asked}
use Rattle.page_messages.specs.declared.kinds.Called.{Called}
use Rattle.page_messages.specs.declared.paged.PagedFile.{PagedFile}
use Rattle.page_messages.specs.Letters.{LetterSeen, question, answer, order, reply, is_zeros}
use Rattle.page_messages.specs.Sealed.{sealed}

-- a question or an order about a page, and its answer
pub record Letters : Type 0 where
  pub page : ℕ
  pub first : LetterSeen
  pub second : LetterSeen

-- a node that has this table asks, and its parent, by whose table the node has this right, and whose page has these bytes, answers
abbrev pub asked_of : Side → Right → List ℕ → ℕ → Asked → Letters
asked_of s right above page what = record { page = page; first = question s what; second = answer right above what }

-- the same where that is the node's right
abbrev pub asked_by : Side → List ℕ → ℕ → Asked → Letters
asked_by s above page what = asked_of s s.right above page what

-- the parent orders, and a node that has this table answers
abbrev pub called_of : Side → ℕ → Called → Letters
called_of s page what = record { page = page; first = order what; second = reply s what }

-- a page for writing, or for reading
abbrev pub wanted : Bool → Asked
wanted true = Asked.PageInWrite
wanted false = Asked.PageInRead

-- WHAT IS WRITTEN for an event of a node that has this table, where its parent's page has these bytes
abbrev pub letters_of : Side → List ℕ → Event → Option Letters
letters_of s above (Event.PageIn node page write) = Some (asked_by s above page (wanted write))
letters_of s above (Event.ZeroFill node page write) = Some (asked_by s above page (wanted write))
letters_of s above (Event.PageOut node page) = Some (asked_by s above page Asked.PageOut)
letters_of s above (Event.WriteOut node page) = Some (asked_by s above page Asked.WriteOut)
letters_of s above (Event.SyncOut node page) = Some (asked_by s above page Asked.Sync)
letters_of s above (Event.FlushBack node page) = Some (called_of s page Called.FlushBack)
letters_of s above (Event.DenyWrites node page) = Some (called_of s page Called.DenyWrites)
letters_of s above (Event.WriteBack node page) = Some (called_of s page Called.WriteBack)
letters_of s above (Event.DeleteRange node page) = Some (called_of s page Called.DeleteRange)
letters_of s above event = None

-- whether the node's copy of the page is changed: its place differs from that of the parent's copy
abbrev pub is_changed : TreeShape → State → ℕ → ℕ → Bool
is_changed shape s node page = not ((s.column page).at node == (s.column page).at (parent shape node))

-- the table has the node's right
abbrev pub HasRight : State → ℕ → ℕ → Side → Type 0
HasRight state node page s = s.right ≡ (state.column page).right node

-- and marks rightly whether its copy is changed
pub record IsTableOf (shape : TreeShape) (state : State) (node page : ℕ) (s : Side) : Type 0 where
  pub right : HasRight state node page s
  pub changed : s.changed ≡ is_changed shape state node page

-- The table is the node's, for the page of the event. A page for reading goes to a node that has none; and a node that has
-- none gets zeros by ZeroFill, and other bytes by PageIn.
abbrev pub IsWritten : TreeShape → State → Side → List ℕ → Event → Type 0
IsWritten shape state s above (Event.PageIn node page write) =
    HasRight state node page s
    × (write ≡ false → s.right ≡ Right.Nothing)
    × (s.right ≡ Right.Nothing → is_zeros above ≡ false)
IsWritten shape state s above (Event.ZeroFill node page write) =
    HasRight state node page s × (s.right ≡ Right.Nothing) × (is_zeros above ≡ true)
IsWritten shape state s above (Event.PageOut node page) = IsTableOf shape state node page s
IsWritten shape state s above (Event.WriteOut node page) = IsTableOf shape state node page s
IsWritten shape state s above (Event.SyncOut node page) = IsTableOf shape state node page s
IsWritten shape state s above (Event.FlushBack node page) = IsTableOf shape state node page s
IsWritten shape state s above (Event.DenyWrites node page) = IsTableOf shape state node page s
IsWritten shape state s above (Event.WriteBack node page) = IsTableOf shape state node page s
IsWritten shape state s above event = Unit {0}

-- the bytes are this frame's
pub record AreSent (ops : Ops) (xs : List ℕ) (f : FrameSeen) : Type 0 where
  pub frame : IsFrame ops f
  pub bytes : xs ≡ frame_bytes f.head f.body

-- THE FRAMES OF A MESSAGE about a file: these bytes are its first letter, and those its second
pub record AreFramesOf (ops : Ops) (file : PagedFile) (l : Letters) (first second : List ℕ) : Type 0 where
  pub asks : AreSent ops first (sealed ops file l.page l.first)
  pub answers : AreSent ops second (sealed ops file l.page l.second)

-- THE FRAMES OF AN EVENT after this state, as they are written for it
pub record AreFramesFor (shape : TreeShape) (state : State) (ops : Ops) (file : PagedFile) (s : Side) (above : List ℕ) (event : Event) (first second : List ℕ) : Type 0 where
  pub letters : Letters
  pub are : letters_of s above event ≡ Some letters
  pub written : IsWritten shape state s above event
  pub frames : AreFramesOf ops file letters first second
