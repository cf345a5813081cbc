-- What a trail says of a leaf's list of uses, and of its table.
use Rattle.std.specs.Prelude.{◌≢◌, ◌↔◌, ◌<◌, ℕ, Bool, true, false, ◌==◌, if◌then◌else◌, List, Contains, AllPairs}
use Rattle.tower_core.specs.declared.right.Right.{Right}
use Rattle.tower_core.specs.declared.step.Step.{Step}
use Rattle.tower_core.specs.declared.step.Step.TheVariants.{Untouched, Grants, PagesOut, Denies, Pushes, Flushes, Deletes}
use Rattle.tower_core.specs.Column.{is_use, updated}
use Rattle.tower_core.specs.Trail.{State}
use Rattle.layer_laws.specs.Side.{Side}
use Rattle.page_messages.specs.declared.kinds.Answer.{Answer}
use Rattle.page_messages.specs.declared.kinds.Called.{Called}
use Rattle.vmm_cache.specs.Uses.{without, used_last}
use Rattle.vmm_cache.specs.Leaf.{framed}

-- the node gives up its right on the page
abbrev pub is_loss : ℕ → Step → Bool
is_loss node (PagesOut n) = node == n
is_loss node (Flushes n) = node == n
is_loss node (Deletes n) = node == n
is_loss node _ = false

-- THE LIST AFTER A STEP on a page: a use of the page makes it the last, and a page that the node gives up goes
abbrev pub uses_after : ℕ → Step → ℕ → List ℕ → List ℕ
uses_after node step page uses =
    if is_use node step then used_last page uses else (if is_loss node step then without page uses else uses)

-- the step that an answer of the pager is at the node, a grant for writing or for reading
abbrev pub answer_step : ℕ → Bool → Answer → Step
answer_step node write Answer.Grant = Grants node write
answer_step node write Answer.Upgrade = Grants node true
answer_step node write Answer.PageOut = PagesOut node
answer_step node write Answer.WriteOut = Denies node
answer_step node write Answer.Sync = Pushes node
answer_step node write Answer.Done = Untouched

-- the step that an order of the pager is
abbrev pub order_step : ℕ → Called → Step
order_step node Called.FlushBack = Flushes node
order_step node Called.DenyWrites = Denies node
order_step node Called.WriteBack = Pushes node
order_step node Called.DeleteRange = Deletes node
order_step node Called.Destroy = Untouched

-- THE LIST OF A STATE: the pages on which the node has a right, and of two of them first the one whose last use is older
pub record AreUses (s : State) (node : ℕ) (uses : List ℕ) : Type 0 where
  pub held : (page : ℕ) → Contains uses page ↔ ((s.column page).right node ≢ Right.Nothing)
  pub ordered : AllPairs (λ a b. s.used a node < s.used b node) uses

-- the tables of all nodes, of which the leaf keeps nothing of a page on which it has no right
abbrev pub framed_at : ℕ → (ℕ → Side) → ℕ → Side
framed_at leaf sides = updated sides leaf (framed (sides leaf))
