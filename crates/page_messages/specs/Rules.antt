-- What one node's own table decides of the messages about a page.
use Rattle.std.specs.Prelude.{◌≡◌, ◌≢◌, ℕ, Bool, true}
use Rattle.tower_core.specs.declared.right.Right.{Right}
use Rattle.layer_laws.specs.Side.{Side}
use Rattle.page_messages.specs.declared.kinds.Asked.{Asked}
use Rattle.page_messages.specs.declared.kinds.Called.{Called}
use Rattle.page_messages.specs.declared.kinds.Answer.{Answer}

abbrev pub NoKidWrites : Side → Type 0
NoKidWrites s = (child : ℕ) → s.kids child ≢ Right.Write

abbrev pub NoKidHolds : Side → Type 0
NoKidHolds s = (child : ℕ) → s.kids child ≡ Right.Nothing

abbrev pub NoOtherHolds : Side → ℕ → Type 0
NoOtherHolds s child = (other : ℕ) → other ≢ child → s.kids other ≡ Right.Nothing

-- WHAT A NODE MAY ASK of its pager. Only a leaf, which has no children, asks for PageOut
abbrev pub MayAsk : Side → Asked → Type 0
MayAsk s Asked.PageInRead = s.right ≡ Right.Nothing
MayAsk s Asked.PageInWrite = s.right ≢ Right.Write
MayAsk s Asked.PageOut = (s.right ≢ Right.Nothing) × NoKidHolds s
MayAsk s Asked.WriteOut = (s.right ≡ Right.Write) × NoKidWrites s
MayAsk s Asked.Sync = s.right ≡ Right.Write
MayAsk s Asked.Done = (s.right ≡ Right.Nothing) × NoKidHolds s

-- WHAT A CHILD MAY ASK of this node, with data or without: a child that reads has no bytes to give with PageOut
abbrev pub MayServe : Side → ℕ → Bool → Asked → Type 0
MayServe s child full Asked.PageInRead = (s.right ≢ Right.Nothing) × (s.kids child ≡ Right.Nothing) × NoKidWrites s
MayServe s child full Asked.PageInWrite = (s.right ≡ Right.Write) × (s.kids child ≢ Right.Write) × NoOtherHolds s child
MayServe s child full Asked.PageOut = (s.kids child ≢ Right.Nothing) × (full ≡ true → s.kids child ≡ Right.Write)
MayServe s child full Asked.WriteOut = s.kids child ≡ Right.Write
MayServe s child full Asked.Sync = s.kids child ≡ Right.Write
MayServe s child full Asked.Done = s.kids child ≡ Right.Nothing

-- WHAT A NODE MAY BE ANSWERED by its pager
abbrev pub MayTake : Side → Answer → Type 0
MayTake s Answer.Grant = s.right ≡ Right.Nothing
MayTake s Answer.Upgrade = s.right ≡ Right.Read
MayTake s Answer.PageOut = (s.right ≢ Right.Nothing) × NoKidHolds s
MayTake s Answer.WriteOut = (s.right ≡ Right.Write) × NoKidWrites s
MayTake s Answer.Sync = s.right ≡ Right.Write
MayTake s Answer.Done = (s.right ≡ Right.Nothing) × NoKidHolds s

-- WHAT A NODE MAY ORDER a child to do, and be answered by it
abbrev pub MayCall : Side → ℕ → Called → Type 0
MayCall s child Called.FlushBack = s.kids child ≡ Right.Write
MayCall s child Called.DenyWrites = s.kids child ≡ Right.Write
MayCall s child Called.WriteBack = s.kids child ≡ Right.Write
MayCall s child Called.DeleteRange = s.kids child ≡ Right.Read
MayCall s child Called.Destroy = s.kids child ≡ Right.Nothing

-- WHAT A NODE MAY BE ORDERED to do by its pager
abbrev pub MayObey : Side → Called → Type 0
MayObey s Called.FlushBack = (s.right ≡ Right.Write) × NoKidHolds s
MayObey s Called.DenyWrites = (s.right ≡ Right.Write) × NoKidWrites s
MayObey s Called.WriteBack = s.right ≡ Right.Write
MayObey s Called.DeleteRange = (s.right ≡ Right.Read) × NoKidHolds s
MayObey s Called.Destroy = (s.right ≡ Right.Nothing) × NoKidHolds s
