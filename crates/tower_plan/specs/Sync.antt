-- How a page is brought to the ground.
use Rattle.std.specs.Prelude.{◌≡◌, ◌≢◌, ℕ, ◌+◌, ◌≤◌, Bool, true, false}
use Rattle.hist_plain.specs.declared.event.Event.{Event}
use Rattle.hist_plain.specs.declared.event.Keep.{Keep}
use Rattle.tower_core.specs.declared.right.Right.{Right}
use Rattle.tower_core.specs.TreeShape.{TreeShape, parent, is_within, IsUpper}
use Rattle.tower_core.specs.Column.{Column}
use Rattle.tower_core.specs.Trail.{State, IsSettled}
use Rattle.tower_plan.specs.declared.plan.Next.{Next}
use Rattle.tower_plan.specs.Plan.{depth_of}

-- a node with Write pushes its copy; if Write is kept, only a changed one
pub record IsPusher (shape : TreeShape) (col : Column) (keep : Keep) (node : ℕ) : Type 0 where
  pub upper : IsUpper shape node
  pub writes : col.right node ≡ Right.Write
  pub changed : keep ≡ Keep.Write → col.at node ≢ col.at (parent shape node)

pub record IsDeepestPusher (shape : TreeShape) (col : Column) (keep : Keep) (node : ℕ) : Type 0 where
  pub is_one : IsPusher shape col keep node
  pub deepest : (other : ℕ) → IsPusher shape col keep other → depth_of shape other ≤ depth_of shape node

abbrev pub NoPusher : TreeShape → Column → Keep → Type 0
NoPusher shape col keep = (node : ℕ) → IsPusher shape col keep node → ⊥

-- the push, by what is kept and whether the node is on the path of who asks
abbrev pub pushing : Keep → Bool → ℕ → ℕ → Event
pushing Keep.Write true node page = Event.SyncOut node page
pushing Keep.Write false node page = Event.WriteBack node page
pushing Keep.Read true node page = Event.WriteOut node page
pushing Keep.Read false node page = Event.DenyWrites node page

abbrev pub IsUnsettled : ℕ → Column → Type 0
IsUnsettled from col = IsSettled from col → ⊥

-- THE RULE: the deepest node that pushes does
pub data IsNextOfSync (shape : TreeShape) (s : State) (page node from : ℕ) (keep : Keep) : Event → Type 0 where
  Push : (other : ℕ) → IsUnsettled from (s.column page) → IsDeepestPusher shape (s.column page) keep other → IsNextOfSync shape s page node from keep (pushing keep (is_within shape node other) other page)

abbrev pub IsSyncAnswer : TreeShape → State → ℕ → ℕ → ℕ → Keep → Next → Type 0
IsSyncAnswer shape s page node from keep Next.Ready = IsSettled from (s.column page)
IsSyncAnswer shape s page node from keep (Next.Do event) = IsNextOfSync shape s page node from keep event

-- the cost of a page: 0 if it is settled, and else the depth of the node that pushes
pub data IsSyncCost (shape : TreeShape) (col : Column) (from : ℕ) (keep : Keep) : ℕ → Type 0 where
  Settled : IsSettled from col → IsSyncCost shape col from keep 0
  Left : (other : ℕ) → IsUnsettled from col → IsDeepestPusher shape col keep other → IsSyncCost shape col from keep (depth_of shape other)

-- there is a cost before that is one more than a cost afterwards
pub record IsOneLess (before after : ℕ → Type 0) : Type 0 where
  pub left : ℕ
  pub cost_before : before (left + 1)
  pub cost_after : after left
