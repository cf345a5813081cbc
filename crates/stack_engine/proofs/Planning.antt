-- What a plan asks of an engine's sheet, and what its answer says of the engine.
use Rattle.std.proofs.Common.{◌≡◌, ◌≢◌, ◌≤◌, ◌+◌, ℕ, ◌<◌, Bool, true, false, Some, sym, subst}
use Rattle.hist_plain.specs.declared.event.Event.{Event}
use Rattle.hist_plain.specs.declared.event.Keep.{Keep}
use Rattle.tower_core.specs.declared.right.Right.{Right}
use Rattle.tower_core.specs.declared.sheet.Sheet.{Sheet}
use Rattle.tower_core.specs.Column.{IsCoherent}
use Rattle.tower_core.specs.Legal.{FitsFile}
use Rattle.tower_core.specs.Sheet.{pages_of, seen}
use Rattle.tower_core.specs.TreeShape.{TreeShape, frames_of, is_within, IsUpper}
use Rattle.tower_core.specs.Trail.{IsAllowed, State, held_below, state_after}
use Rattle.tower_plan.specs.Plan.{IsNext as IsNextOfPlan, Revoke, Evict, Grant, revoking, MayAccessFor, cost_of}
use Rattle.tower_plan.specs.Sync.{IsNextOfSync, Push, pushing}
use Rattle.stack_engine.specs.Engine.{EngineSeen, IsEngine, IsNext, IsSheetOf, file_in, state_in, tree_in}
use Rattle.stack_engine.specs.Messages.{IsPageMessage}
use Rattle.stack_engine.specs.Plans.{StepsTo}
use Rattle.stack_engine.proofs.States.{coherent_in, ground_in}

-- what is said of the engine is said of its sheet
pub sheet_told : (e : EngineSeen) (sheet : Sheet) (tree : TreeShape) (P : TreeShape → ℕ → State → Type 0) → tree ≡ tree_in e → IsSheetOf e sheet → P (tree_in e) (file_in e).pages (state_in e) → P tree (pages_of sheet) (seen sheet)
sheet_told e sheet tree P same is h =
    subst (λ (t : TreeShape). P t (pages_of sheet) (seen sheet)) (sym same)
    (subst (λ (n : ℕ). P (tree_in e) n (seen sheet)) (sym is.pages_are) (subst (λ (s : State). P (tree_in e) (file_in e).pages s) (sym is.state_is) h))

-- and the other way
pub sheet_says : (e : EngineSeen) (sheet : Sheet) (tree : TreeShape) (P : TreeShape → ℕ → State → Type 0) → tree ≡ tree_in e → IsSheetOf e sheet → P tree (pages_of sheet) (seen sheet) → P (tree_in e) (file_in e).pages (state_in e)
sheet_says e sheet tree P same is h =
    subst (λ (t : TreeShape). P t (file_in e).pages (state_in e)) same
    (subst (λ (n : ℕ). P tree n (state_in e)) is.pages_are (subst (λ (s : State). P tree (pages_of sheet) s) is.state_is h))

module _ (e : EngineSeen) (sheet : Sheet) (tree : TreeShape) (is : IsEngine e sheet) (same : tree ≡ tree_in e) where
  pub planned_coherent : (page : ℕ) → IsCoherent tree (seen sheet).len ((seen sheet).column page)
  planned_coherent page = sheet_told e sheet tree (λ (t : TreeShape) (n : ℕ) (s : State). IsCoherent t s.len (s.column page)) same is.sheet_is ((coherent_in e is.sound).columns page)

  pub planned_ground : (page : ℕ) → ((seen sheet).column page).right 0 ≡ Right.Write
  planned_ground page = sheet_told e sheet tree (λ (t : TreeShape) (n : ℕ) (s : State). (s.column page).right 0 ≡ Right.Write) same is.sheet_is (ground_in e is.sound page)

  pub planned_next : (event : Event) → FitsFile (file_in e).page_size (file_in e).pages event → IsAllowed tree (pages_of sheet) (seen sheet) event → IsNext e event
  planned_next event fits may = record { fits = fits; allowed = sheet_says e sheet tree (λ (t : TreeShape) (n : ℕ) (s : State). IsAllowed t n s event) same is.sheet_is may }

  pub planned_framed : (node : ℕ) → IsUpper tree node → frames_of tree node ≢ 0 → held_below (seen sheet) node (pages_of sheet) ≤ frames_of tree node
  planned_framed node upper = sheet_told e sheet tree (λ (t : TreeShape) (n : ℕ) (s : State). frames_of t node ≢ 0 → held_below s node n ≤ frames_of t node) same is.sheet_is ((coherent_in e is.sound).framed node upper.above)

  pub planned_steps : (node page : ℕ) (want : Right) (event : Event) → (MayAccessFor tree ((seen sheet).column page) node want → ⊥) → IsNextOfPlan tree (pages_of sheet) (seen sheet) node page want event
      → cost_of tree (pages_of sheet) (state_after tree (seen sheet) event) node page want + 1 ≡ cost_of tree (pages_of sheet) (seen sheet) node page want → StepsTo e node page want event
  planned_steps node page want event never rule cheaper = record {
    not_yet = sheet_says e sheet tree (λ (t : TreeShape) (n : ℕ) (s : State). MayAccessFor t (s.column page) node want → ⊥) same is.sheet_is never;
    plan = sheet_says e sheet tree (λ (t : TreeShape) (n : ℕ) (s : State). IsNextOfPlan t n s node page want event) same is.sheet_is rule;
    cheaper = sheet_says e sheet tree (λ (t : TreeShape) (n : ℕ) (s : State). cost_of t n (state_after t s event) node page want + 1 ≡ cost_of t n s node page want) same is.sheet_is cheaper;
  }

-- a fact of a page number
at_page : (P : ℕ → Type 0) (page : ℕ) → P page → (p : ℕ) → Some page ≡ Some p → P p
at_page P page h p some = subst P (let e : page ≡ p = cc in e) h

-- WHAT A PLAN NAMES

push_kind : (keep : Keep) (on : Bool) (node page : ℕ) → IsPageMessage (pushing keep on node page)
push_kind Keep.Write true node page = tt
push_kind Keep.Write false node page = tt
push_kind Keep.Read true node page = tt
push_kind Keep.Read false node page = tt

push_fits : (size pages : ℕ) (keep : Keep) (on : Bool) (node page : ℕ) → page < pages → FitsFile size pages (pushing keep on node page)
push_fits size pages Keep.Write true node page inside = at_page (λ p. p < pages) page inside
push_fits size pages Keep.Write false node page inside = at_page (λ p. p < pages) page inside
push_fits size pages Keep.Read true node page inside = at_page (λ p. p < pages) page inside
push_fits size pages Keep.Read false node page inside = at_page (λ p. p < pages) page inside

pub sync_kind : (shape : TreeShape) (s : State) (page node from : ℕ) (keep : Keep) (event : Event) → IsNextOfSync shape s page node from keep event → IsPageMessage event
sync_kind shape s page node from keep event (Push other unsettled deepest) = push_kind keep (is_within shape node other) other page

pub sync_fits : (shape : TreeShape) (s : State) (page node from size pages : ℕ) (keep : Keep) (event : Event) → page < pages → IsNextOfSync shape s page node from keep event → FitsFile size pages event
sync_fits shape s page node from size pages keep event inside (Push other unsettled deepest) = push_fits size pages keep (is_within shape node other) other page inside

pub revoke_kind : (want have : Right) (node page : ℕ) → IsPageMessage (revoking want have node page)
revoke_kind Right.Write Right.Write node page = tt
revoke_kind Right.Write Right.Read node page = tt
revoke_kind Right.Write Right.Nothing node page = tt
revoke_kind Right.Read have node page = tt
revoke_kind Right.Nothing have node page = tt

pub revoke_fits : (size pages : ℕ) (want have : Right) (node page : ℕ) → page < pages → FitsFile size pages (revoking want have node page)
revoke_fits size pages Right.Write Right.Write node page inside = at_page (λ p. p < pages) page inside
revoke_fits size pages Right.Write Right.Read node page inside = at_page (λ p. p < pages) page inside
revoke_fits size pages Right.Write Right.Nothing node page inside = at_page (λ p. p < pages) page inside
revoke_fits size pages Right.Read have node page inside = at_page (λ p. p < pages) page inside
revoke_fits size pages Right.Nothing have node page inside = at_page (λ p. p < pages) page inside

pub plan_kind : (shape : TreeShape) (pages : ℕ) (s : State) (node page : ℕ) (want : Right) (event : Event) → IsNextOfPlan shape pages s node page want event → IsPageMessage event
plan_kind shape pages s node page want event (Revoke other first) = revoke_kind want ((s.column page).right other) other page
plan_kind shape pages s node page want event (Evict victim free is) = tt
plan_kind shape pages s node page want event (Grant other free roomy first) = tt

pub plan_fits : (shape : TreeShape) (pages : ℕ) (s : State) (node page size n : ℕ) (want : Right) (event : Event) → pages ≡ n → page < n → IsNextOfPlan shape pages s node page want event → FitsFile size n event
plan_fits shape pages s node page size n want event same inside (Revoke other first) = revoke_fits size n want ((s.column page).right other) other page inside
plan_fits shape pages s node page size n want event same inside (Evict victim free is) = at_page (λ p. p < n) victim (subst (λ (k : ℕ). victim < k) same is.oldest.inside)
plan_fits shape pages s node page size n want event same inside (Grant other free roomy first) = at_page (λ p. p < n) page inside
