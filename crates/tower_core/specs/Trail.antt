-- The state after a trail: the rights, places, uses and lives, and which event may come next.
use Rattle.std.specs.Prelude.{◌≡◌, ◌≢◌, ℕ, ◌+◌, ◌<◌, ◌≤◌, ◌⊎◌, Bool, true, false, ◌==◌, if◌then◌else◌, List, [], ◌∷◌}
use Rattle.std.specs.List.{fold}
use Rattle.hist_plain.specs.declared.event.Event.{Event}
use Rattle.hist_plain.specs.declared.event.Op.{Op}
use Rattle.hist_plain.specs.Event.{node_of}
use Rattle.tower_core.specs.declared.right.Right.{Right}
use Rattle.tower_core.specs.Count.{count_below}
use Rattle.tower_core.specs.TreeShape.{TreeShape, nodes, frames_of, is_within, IsUpper}
use Rattle.tower_core.specs.declared.step.Step.{Step}
use Rattle.tower_core.specs.declared.step.Step.TheVariants.{Untouched, Reads, Writes, Grants, PagesOut, Denies, Pushes, Flushes, Deletes}
use Rattle.tower_core.specs.Column.{Column, right_at_start, column_after, used_after, MayStep, IsCoherent}

pub record State : Type 0 where
  -- the life of each node
  pub life : ℕ → ℕ
  -- each page's rights and places
  pub column : ℕ → Column
  -- by page, the place after each node's last use
  pub used : ℕ → ℕ → ℕ
  -- how many events there were
  pub len : ℕ

-- the step, if the event is of this page
abbrev pub of_page : ℕ → ℕ → Step → Step
of_page page p step = if p == page then step else Untouched

-- the line of the table that an access of the node's life is, for one page
abbrev pub step_of_access : ℕ → ℕ → Op → Step
step_of_access page node (Op.Read p off len) = of_page page p (Reads node)
step_of_access page node (Op.Write p off bytes) = of_page page p (Writes node)
step_of_access page node (Op.Clear p) = of_page page p (Writes node)
step_of_access page node Op.Open = Untouched

-- the line of the table that an event is, for one page
abbrev pub step_of : (ℕ → ℕ) → ℕ → Event → Step
step_of life page (Event.Access caller number node l op) = if l == life node then step_of_access page node op else Untouched
step_of life page (Event.PageIn node p write) = of_page page p (Grants node write)
step_of life page (Event.ZeroFill node p write) = of_page page p (Grants node write)
step_of life page (Event.PageOut node p) = of_page page p (PagesOut node)
step_of life page (Event.WriteOut node p) = of_page page p (Denies node)
step_of life page (Event.SyncOut node p) = of_page page p (Pushes node)
step_of life page (Event.FlushBack node p) = of_page page p (Flushes node)
step_of life page (Event.DenyWrites node p) = of_page page p (Denies node)
step_of life page (Event.WriteBack node p) = of_page page p (Pushes node)
step_of life page (Event.DeleteRange node p) = of_page page p (Deletes node)
step_of life page (Event.DestroyCache caller number node) = Untouched
step_of life page (Event.DonePager caller number node) = Untouched
step_of life page (Event.Synced caller number node from keep) = Untouched

-- the lives after the caches of a subtree end: one more in each of its nodes
abbrev pub lives_after : TreeShape → (ℕ → ℕ) → ℕ → ℕ → ℕ
lives_after shape life top node = if is_within shape node top then life node + 1 else life node

abbrev pub life_after : TreeShape → (ℕ → ℕ) → Event → ℕ → ℕ
life_after shape life (Event.DestroyCache caller number top) = lives_after shape life top
life_after shape life _ = life

-- the state with these lives, after this step on each page
abbrev pub moved : TreeShape → State → (ℕ → ℕ) → (ℕ → Step) → State
moved shape s life steps =
    record {
      life = life;
      column = λ page. column_after shape s.len (s.column page) (steps page);
      used = λ page. used_after s.len (s.used page) (steps page);
      len = s.len + 1;
    }

-- the state after one more event
abbrev pub state_after : TreeShape → State → Event → State
state_after shape s event = moved shape s (life_after shape s.life event) (λ page. step_of s.life page event)

abbrev pub start : State
start =
    record {
      life = λ node. 0;
      column = λ page. record { right = right_at_start; at = λ node. 0; newest = 0 };
      used = λ node page. 0;
      len = 0;
    }

-- the state after a trail, oldest event first
abbrev pub state_of : TreeShape → List Event → State
state_of shape trail = fold (state_after shape) start trail

abbrev pub right_of : TreeShape → List Event → ℕ → ℕ → Right
right_of shape trail node page = ((state_of shape trail).column page).right node

abbrev pub at_of : TreeShape → List Event → ℕ → ℕ → ℕ
at_of shape trail node page = ((state_of shape trail).column page).at node

abbrev pub newest_of : TreeShape → List Event → ℕ → ℕ
newest_of shape trail page = ((state_of shape trail).column page).newest

-- the ground's bytes are from that place on, or nobody wrote the page since
abbrev pub IsSettled : ℕ → Column → Type 0
IsSettled from col = (from ≤ col.at 0) ⊎ (col.newest ≤ col.at 0)

-- a node holds a page on which it has a right
abbrev pub holds : Right → Bool
holds Right.Nothing = false
holds Right.Read = true
holds Right.Write = true

-- on how many of the first pages a node has a right
abbrev pub held_below : State → ℕ → ℕ → ℕ
held_below s node pages = count_below (λ page. holds ((s.column page).right node)) pages

-- a leaf that has Nothing on the page has a frame left
abbrev pub HasRoom : TreeShape → ℕ → State → ℕ → ℕ → Type 0
HasRoom shape pages s node page =
    frames_of shape node ≢ 0 → (s.column page).right node ≡ Right.Nothing → held_below s node pages < frames_of shape node

-- no page that the node holds was last used before this one
abbrev pub IsLeastRecentlyUsed : ℕ → State → ℕ → ℕ → Type 0
IsLeastRecentlyUsed pages s node page =
    (other : ℕ) → other < pages → (s.column other).right node ≢ Right.Nothing → s.used page node ≤ s.used other node

-- the page is the node's least recently used
pub record IsOldest (pages : ℕ) (s : State) (node page : ℕ) : Type 0 where
  pub inside : page < pages
  pub held : (s.column page).right node ≢ Right.Nothing
  pub first : IsLeastRecentlyUsed pages s node page

-- the node has no right on any page
abbrev pub HoldsNothing : ℕ → State → ℕ → Type 0
HoldsNothing pages s node = (page : ℕ) → page < pages → (s.column page).right node ≡ Right.Nothing

-- no node of the subtree has a right on any page
abbrev pub IsSubtreeEmpty : TreeShape → ℕ → State → ℕ → Type 0
IsSubtreeEmpty shape pages s top =
    (node : ℕ) → node < nodes shape → is_within shape node top ≡ true → HoldsNothing pages s node

abbrev pub IsAllSettled : ℕ → ℕ → State → Type 0
IsAllSettled pages from s = (page : ℕ) → page < pages → IsSettled from (s.column page)

abbrev pub MayAccess : TreeShape → State → ℕ → Op → Type 0
MayAccess shape s node (Op.Read page off len) = MayStep shape (s.column page) (Reads node)
MayAccess shape s node (Op.Write page off bytes) = MayStep shape (s.column page) (Writes node)
MayAccess shape s node (Op.Clear page) = MayStep shape (s.column page) (Writes node)
MayAccess shape s node Op.Open = Unit {0}

-- THE TABLE OF EVENTS, by event: the column "Allowed if", whole but for the bytes that ZeroFill moves
abbrev pub IsLine : TreeShape → ℕ → State → Event → Type 0
-- an access of another life is always allowed
IsLine shape pages s (Event.Access caller number node life op) = life ≡ s.life node → MayAccess shape s node op
IsLine shape pages s (Event.PageIn node page write) = MayStep shape (s.column page) (Grants node write) × HasRoom shape pages s node page
IsLine shape pages s (Event.ZeroFill node page write) =
    ((s.column page).right node ≡ Right.Nothing) × MayStep shape (s.column page) (Grants node write) × HasRoom shape pages s node page
IsLine shape pages s (Event.PageOut node page) =
    (frames_of shape node ≢ 0) × ((s.column page).right node ≢ Right.Nothing) × IsLeastRecentlyUsed pages s node page
IsLine shape pages s (Event.WriteOut node page) = MayStep shape (s.column page) (Denies node)
IsLine shape pages s (Event.SyncOut node page) = MayStep shape (s.column page) (Pushes node)
IsLine shape pages s (Event.FlushBack node page) = MayStep shape (s.column page) (Flushes node)
IsLine shape pages s (Event.DenyWrites node page) = MayStep shape (s.column page) (Denies node)
IsLine shape pages s (Event.WriteBack node page) = MayStep shape (s.column page) (Pushes node)
IsLine shape pages s (Event.DeleteRange node page) = MayStep shape (s.column page) (Deletes node)
IsLine shape pages s (Event.DestroyCache caller number node) = IsSubtreeEmpty shape pages s node
IsLine shape pages s (Event.DonePager caller number node) = IsSubtreeEmpty shape pages s node
IsLine shape pages s (Event.Synced caller number node from keep) = (from ≤ s.len) × IsAllSettled pages from s

-- the event names a node other than the ground, and its line of the table holds
pub record IsAllowed (shape : TreeShape) (pages : ℕ) (s : State) (event : Event) : Type 0 where
  pub upper : IsUpper shape (node_of event)
  pub line : IsLine shape pages s event

-- each event is allowed after those before it
abbrev pub IsRun : TreeShape → ℕ → State → List Event → Type 0
IsRun shape pages s [] = Unit {0}
IsRun shape pages s (event ∷ events) = IsAllowed shape pages s event × IsRun shape pages (state_after shape s event) events

-- no leaf holds more pages than it has frames
abbrev pub IsFramed : TreeShape → ℕ → State → Type 0
IsFramed shape pages s = (node : ℕ) → 0 < node → frames_of shape node ≢ 0 → held_below s node pages ≤ frames_of shape node

-- each page is coherent, no leaf holds more than its frames, and a node without a right has place 0
pub record IsCoherentState (shape : TreeShape) (pages : ℕ) (s : State) : Type 0 where
  pub columns : (page : ℕ) → IsCoherent shape s.len (s.column page)
  pub framed : IsFramed shape pages s
  pub empty : (page node : ℕ) → IsUpper shape node → (s.column page).right node ≡ Right.Nothing → (s.column page).at node ≡ 0
