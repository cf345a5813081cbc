-- What is left of a subtree whose caches end.
use Rattle.std.specs.Prelude.{◌≡◌, ◌≢◌, ℕ, zero, suc, ◌+◌, ◌<◌, ◌≤◌, Bool, true, false, ◌&&◌}
use Rattle.hist_plain.specs.declared.event.Event.{Event}
use Rattle.tower_core.specs.declared.right.Right.{Right}
use Rattle.tower_core.specs.Count.{count_below}
use Rattle.tower_core.specs.TreeShape.{TreeShape, nodes, is_within}
use Rattle.tower_core.specs.Column.{Column}
use Rattle.tower_core.specs.Trail.{State, holds}
use Rattle.tower_plan.specs.declared.plan.Next.{Next}
use Rattle.tower_plan.specs.Plan.{depth_of, revoking}

-- the node is of the subtree, and has a right on the page
abbrev pub is_held : TreeShape → Column → ℕ → ℕ → Bool
is_held shape col top node = is_within shape node top && holds (col.right node)

-- how many rights the subtree has on the first pages
abbrev pub rights_below : TreeShape → State → ℕ → ℕ → ℕ
rights_below shape s top zero = 0
rights_below shape s top (suc page) = rights_below shape s top page + count_below (is_held shape (s.column page) top) (nodes shape)

-- the deepest node of the subtree with a right on the page, and of equal depth the one of the greatest number
pub record IsFirstHolder (shape : TreeShape) (col : Column) (top node : ℕ) : Type 0 where
  pub inside : node < nodes shape
  pub held : is_held shape col top node ≡ true
  pub deepest : (other : ℕ) → other < nodes shape → is_held shape col top other ≡ true → depth_of shape other ≤ depth_of shape node
  pub greatest : (other : ℕ) → other < nodes shape → is_held shape col top other ≡ true → depth_of shape other ≡ depth_of shape node → other ≤ node

-- no node of the subtree has a right on the page
abbrev pub NoHolder : TreeShape → Column → ℕ → Type 0
NoHolder shape col top = (node : ℕ) → node < nodes shape → is_held shape col top node ≡ false

-- the lowest page on which the node has a right
pub record IsLowestHeld (pages : ℕ) (s : State) (node page : ℕ) : Type 0 where
  pub inside : page < pages
  pub held : (s.column page).right node ≢ Right.Nothing
  pub lowest : (lower : ℕ) → lower < page → (s.column lower).right node ≡ Right.Nothing

-- THE RULE: on the lowest page with such a right its first holder gives it up
pub data IsNextOfDrain (shape : TreeShape) (pages : ℕ) (s : State) (top : ℕ) : Event → Type 0 where
  Drain :
      (page node : ℕ) →
      page < pages →
      ((lower : ℕ) → lower < page → NoHolder shape (s.column lower) top) →
      IsFirstHolder shape (s.column page) top node →
      IsNextOfDrain shape pages s top (revoking Right.Write ((s.column page).right node) node page)

abbrev pub IsDrainAnswer : TreeShape → ℕ → State → ℕ → Next → Type 0
IsDrainAnswer shape pages s top Next.Ready = (page : ℕ) → page < pages → NoHolder shape (s.column page) top
IsDrainAnswer shape pages s top (Next.Do event) = IsNextOfDrain shape pages s top event
