-- Which event comes next, and how many are left.
use Rattle.std.specs.Prelude.{◌≡◌, ◌⊎◌, ℕ, ◌+◌, ◌<◌, Option, Some, None}
use Rattle.hist_plain.specs.declared.event.Event.{Event}
use Rattle.hist_plain.specs.declared.event.Keep.{Keep}
use Rattle.hist_plain.specs.declared.event.Op.{Op}
use Rattle.hist_plain.specs.declared.event.Op.TheVariants as ops
use Rattle.hist_plain.specs.Event.{page_of_op}
use Rattle.tower_core.specs.declared.right.Right.{Right}
use Rattle.tower_core.specs.Trail.{IsAllSettled, IsSettled, State, state_after}
use Rattle.tower_plan.specs.Plan.{IsNext as IsNextOfPlan, MayAccessFor, cost_of}
use Rattle.tower_plan.specs.Sync.{IsNextOfSync, IsOneLess, IsSyncCost, IsUnsettled}
use Rattle.stack_engine.specs.declared.plans.Missed.{Missed}
use Rattle.stack_engine.specs.Messages.{IsPageMessage, NeedsDisks}
use Rattle.stack_engine.specs.Engine.{EngineSeen, IsNext, column_in, file_in, state_in, tree_in}

-- TOWARDS AN ACCESS that is not allowed yet: the event is the plan's, and then one less is left
pub record StepsTo (e : EngineSeen) (node page : ℕ) (want : Right) (event : Event) : Type 0 where
  pub not_yet : MayAccessFor (tree_in e) (column_in e page) node want → ⊥
  pub plan : IsNextOfPlan (tree_in e) (file_in e).pages (state_in e) node page want event
  pub cheaper : cost_of (tree_in e) (file_in e).pages (state_after (tree_in e) (state_in e) event) node page want + 1
      ≡ cost_of (tree_in e) (file_in e).pages (state_in e) node page want

-- the lowest of the first pages that is not settled, by the rights and places
pub record IsLowest (s : State) (pages from page : ℕ) : Type 0 where
  pub inside : page < pages
  pub unsettled : IsUnsettled from (s.column page)
  pub lowest : (lower : ℕ) → lower < page → IsSettled from (s.column lower)

-- the lowest page that is not settled
pub record IsLowestUnsettled (e : EngineSeen) (from page : ℕ) : Type 0 where
  pub inside : page < (file_in e).pages
  pub unsettled : IsUnsettled from (column_in e page)
  pub lowest : (lower : ℕ) → lower < page → IsSettled from (column_in e lower)

-- TOWARDS A SYNC of a page that is not settled: the event is the plan's, and then one less is left
pub record SettlesBy (e : EngineSeen) (page node from : ℕ) (keep : Keep) (event : Event) : Type 0 where
  pub plan : IsNextOfSync (tree_in e) (state_in e) page node from keep event
  pub cheaper : IsOneLess (IsSyncCost (tree_in e) (column_in e page) from keep)
      (IsSyncCost (tree_in e) ((state_after (tree_in e) (state_in e) event).column page) from keep)

-- the right that an access wants of its page
abbrev pub wanted : Op → Option Right
wanted ops.Open = None
wanted (ops.Read page off len) = Some Right.Read
wanted (ops.Write page off bytes) = Some Right.Write
wanted (ops.Clear page) = Some Right.Write

-- an access that counts, and the right that it wants of its page
pub record Wants (e : EngineSeen) (node life : ℕ) (op : Op) (page : ℕ) (want : Right) : Type 0 where
  pub counts : life ≡ (state_in e).life node
  pub page_is : page_of_op op ≡ Some page
  pub want_is : wanted op ≡ Some want

-- it is not allowed yet, and this message comes next for it
pub record IsMissed (e : EngineSeen) (node life : ℕ) (op : Op) (missed : Missed) : Type 0 where
  pub want : Right
  pub wants : Wants e node life op missed.page want
  pub steps : StepsTo e node missed.page want missed.event
  pub kind : IsPageMessage missed.event
  pub next : IsNext e missed.event

-- THE ACCESS NEEDS THE DISKS: it is not allowed yet, and the message that comes next for it needs them
pub record AccessNeedsDisks (e : EngineSeen) (node life : ℕ) (op : Op) : Type 0 where
  pub missed : Missed
  pub is : IsMissed e node life op missed
  pub needs : NeedsDisks e missed.event

-- the push of the lowest page that is not settled needs the disks, where of each page these rights are kept
pub record PushNeedsDisks (e : EngineSeen) (node from : ℕ) (keep : ℕ → Keep) : Type 0 where
  pub page : ℕ
  pub event : Event
  pub lowest : IsLowestUnsettled e from page
  pub settles : SettlesBy e page node from (keep page) event
  pub needs : NeedsDisks e event

-- THE SYNC NEEDS THE DISKS: every page is settled, so that they are made to keep them, or the push needs them
abbrev pub SyncNeedsDisks : EngineSeen → ℕ → ℕ → (ℕ → Keep) → Type 0
SyncNeedsDisks e node from keep = IsAllSettled (file_in e).pages from (state_in e) ⊎ PushNeedsDisks e node from keep
