-- Which page messages a log may have: each comes next for an access, for a sync, or for the end of a layer's channels.
use Rattle.std.specs.Prelude.{◌≡◌, ℕ, ◌<◌, ◌≤◌, List, [], ◌∷◌, ◌++◌, length, None}
use Rattle.hist_plain.specs.declared.event.Event.{Event}
use Rattle.hist_plain.specs.declared.event.Event.TheVariants as events
use Rattle.hist_plain.specs.declared.event.Keep.{Keep}
use Rattle.hist_plain.specs.Event.{caller_of}
use Rattle.tower_core.specs.declared.right.Right.{Right}
use Rattle.tower_core.specs.Trail.{state_of}
use Rattle.tower_core.specs.TreeShape.{IsUpper, TreeShape}
use Rattle.tower_plan.specs.Plan.{MayAccessFor}
use Rattle.tower_plan.specs.Plan.{IsNext as IsNextOfPlan}
use Rattle.tower_plan.specs.Drain.{IsNextOfDrain}
use Rattle.tower_plan.specs.Sync.{IsNextOfSync}
use Rattle.tower_log.specs.declared.logged.Logged.{Logged}
use Rattle.tower_log.specs.declared.logged.Logged.TheVariants.{Entered, Noted}
use Rattle.stack_engine.specs.Plans.{IsLowest}

-- a page message as a plan names it: a grant is a PageIn there, whatever it found
abbrev pub as_planned : Event → Event
as_planned (events.ZeroFill node page write) = events.PageIn node page write
as_planned event = event

-- after these events it comes next for an access, of a layer that wants this right of a page and may not use it yet
pub record IsForAccess (tree : TreeShape) (pages : ℕ) (before : List Event) (message : Event) : Type 0 where
  pub node : ℕ
  pub page : ℕ
  pub want : Right
  pub upper : IsUpper tree node
  pub inside : page < pages
  pub not_yet : MayAccessFor tree ((state_of tree before).column page) node want → ⊥
  pub next : IsNextOfPlan tree pages (state_of tree before) node page want (as_planned message)

-- after these events it comes next for a sync, of a layer from a place of them on: a push of the lowest page that is not settled
pub record IsForSync (tree : TreeShape) (pages : ℕ) (before : List Event) (message : Event) : Type 0 where
  pub node : ℕ
  pub from : ℕ
  pub keep : Keep
  pub page : ℕ
  pub upper : IsUpper tree node
  pub reached : from ≤ length before
  pub lowest : IsLowest (state_of tree before) pages from page
  pub next : IsNextOfSync tree (state_of tree before) page node from keep message

-- after these events it comes next on the way to the end of a layer's channels: what takes a right from the layer or from one above it
pub record IsForEnd (tree : TreeShape) (pages : ℕ) (before : List Event) (message : Event) : Type 0 where
  pub top : ℕ
  pub upper : IsUpper tree top
  pub next : IsNextOfDrain tree pages (state_of tree before) top message

-- it comes next for a call
pub data IsForCall (tree : TreeShape) (pages : ℕ) (before : List Event) (message : Event) : Type 0 where
  ForAccess : IsForAccess tree pages before message → IsForCall tree pages before message
  ForSync : IsForSync tree pages before message → IsForCall tree pages before message
  ForEnd : IsForEnd tree pages before message → IsForCall tree pages before message

-- EACH PAGE MESSAGE IS NEEDED, of these things of a log, which follow these events: it comes next for a call
abbrev pub AreNeeded : TreeShape → ℕ → List Event → List Logged → Type 0
AreNeeded tree pages before [] = Unit {0}
AreNeeded tree pages before (Entered entry ∷ log) =
    (caller_of entry.event ≡ None → IsForCall tree pages before entry.event)
    × AreNeeded tree pages (before ++ entry.event ∷ []) log
AreNeeded tree pages before (Noted note ∷ log) = AreNeeded tree pages before log
