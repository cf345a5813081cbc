-- What a drain asks of an engine's sheet, and what its answer says of the engine.
use Rattle.std.proofs.Common.{◌≡◌, ◌<◌, ◌+◌, ℕ, subst}
use Rattle.hist_plain.specs.declared.event.Event.{Event}
use Rattle.tower_core.specs.declared.right.Right.{Right}
use Rattle.tower_core.specs.declared.sheet.Sheet.{Sheet}
use Rattle.tower_core.specs.Legal.{FitsFile}
use Rattle.tower_core.specs.Sheet.{pages_of, seen}
use Rattle.tower_core.specs.TreeShape.{TreeShape}
use Rattle.tower_core.specs.Trail.{State, IsSubtreeEmpty, state_after}
use Rattle.tower_plan.specs.Plan.{revoking}
use Rattle.tower_plan.specs.Drain.{Drain, IsNextOfDrain, rights_below}
use Rattle.stack_engine.specs.Ended.{DrainsBy, IsDrained}
use Rattle.stack_engine.specs.Engine.{EngineSeen, IsEngine, file_in, state_in, tree_in}
use Rattle.stack_engine.specs.Messages.{IsPageMessage}
use Rattle.stack_engine.specs.Moves.{Sends, StandsFor}
use Rattle.stack_engine.proofs.Planning.{revoke_fits, revoke_kind, sheet_says}

pub drain_kind : (shape : TreeShape) (pages : ℕ) (s : State) (top : ℕ) (event : Event) → IsNextOfDrain shape pages s top event → IsPageMessage event
drain_kind shape pages s top event (Drain page node inside lower first) = revoke_kind Right.Write ((s.column page).right node) node page

pub drain_fits : (shape : TreeShape) (pages : ℕ) (s : State) (top size n : ℕ) (event : Event) → pages ≡ n → IsNextOfDrain shape pages s top event → FitsFile size n event
drain_fits shape pages s top size n event same (Drain page node inside lower first) = revoke_fits size n Right.Write ((s.column page).right node) node page (subst (λ (k : ℕ). page < k) same inside)

-- a drain's event stands for itself
revoke_same : (have : Right) (node page : ℕ) (old new : EngineSeen) (event : Event) → StandsFor old new (revoking Right.Write have node page) event → event ≡ revoking Right.Write have node page
revoke_same Right.Write node page old new event h = h
revoke_same Right.Read node page old new event h = h
revoke_same Right.Nothing node page old new event h = h

drain_same : (shape : TreeShape) (pages : ℕ) (s : State) (top : ℕ) (asked : Event) → IsNextOfDrain shape pages s top asked → (old new : EngineSeen) (event : Event) → StandsFor old new asked event → event ≡ asked
drain_same shape pages s top asked (Drain page node inside lower first) old new event h = revoke_same ((s.column page).right node) node page old new event h

module _ (e : EngineSeen) (sheet : Sheet) (tree : TreeShape) (is : IsEngine e sheet) (same : tree ≡ tree_in e) where
  pub planned_drained : (node : ℕ) → IsSubtreeEmpty tree (pages_of sheet) (seen sheet) node → IsDrained e node
  planned_drained node h = sheet_says e sheet tree (λ (t : TreeShape) (n : ℕ) (s : State). IsSubtreeEmpty t n s node) same is.sheet_is h

  pub planned_drains : (node : ℕ) (event : Event) → IsNextOfDrain tree (pages_of sheet) (seen sheet) node event
      → rights_below tree (state_after tree (seen sheet) event) node (pages_of sheet) + 1 ≡ rights_below tree (seen sheet) node (pages_of sheet) → DrainsBy e node event
  planned_drains node event rule cheaper = record {
    plan = sheet_says e sheet tree (λ (t : TreeShape) (n : ℕ) (s : State). IsNextOfDrain t n s node event) same is.sheet_is rule;
    cheaper = sheet_says e sheet tree (λ (t : TreeShape) (n : ℕ) (s : State). rights_below t (state_after t s event) node n + 1 ≡ rights_below t s node n) same is.sheet_is cheaper;
  }

-- what was sent is what was asked
pub drain_sends : (old new : EngineSeen) (node : ℕ) (asked event : Event) → DrainsBy old node asked → Sends asked old new event → event ≡ asked
drain_sends old new node asked event drains sends = drain_same (tree_in old) (file_in old).pages (state_in old) node asked drains.plan old new event sends.stands
