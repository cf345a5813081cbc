-- From the law of one step: every trail of allowed events is coherent, and what an access reads is not before the newest write.
use Rattle.std.proofs.Common.{◌≡◌, ◌≢◌, ℕ, ◌+◌, ◌<◌, ◌≤◌, ◌⊎◌, inl, inr, sym, ◌∙◌, subst, refl, arith, List, [], ◌∷◌, length, Some, true, false}
use Rattle.std.specs.List.{fold}
use Rattle.std.proofs.lemmas.Bool.Decides.{eqb_tells}
use Rattle.hist_plain.specs.declared.event.Event.{Event}
use Rattle.hist_plain.specs.declared.event.Op.{Op}
use Rattle.hist_plain.specs.Event.{node_of, page_of_op}
use Rattle.tower_core.specs.declared.right.Right.{Right}
use Rattle.tower_core.specs.TreeShape.{TreeShape, frames_of, IsUpper, IsChild, IsTree}
use Rattle.tower_core.specs.declared.step.Step.{Step}
use Rattle.tower_core.specs.declared.step.Step.TheVariants.{Untouched, Reads, Writes, Grants, PagesOut, Denies, Pushes, Flushes, Deletes}
use Rattle.tower_core.specs.Column.{Column, right_after, right_at_start, IsCoherent, MayStep, IsStepOf}
use Rattle.tower_core.specs.Trail.{State, state_after, state_of, start, right_of, of_page, step_of, step_of_access, IsAllowed, IsLine, IsRun, MayAccess}
use Rattle.tower_core.proofs.StepLaw.{keeps, keeps_zero, IsZeroWithout, updated-other}

-- what may happen to one page
abbrev MayHappen : TreeShape → Column → Step → Type 0
MayHappen shape col step = IsStepOf shape step × MayStep shape col step

-- a step on the event's own page may happen on each page, if it may on that one
on_page : (shape : TreeShape) (column : ℕ → Column) (page p : ℕ) (step : Step) → MayHappen shape (column p) step → MayHappen shape (column page) (of_page page p step)
on_page shape column page p step may = elim (eqb_tells p page) [
  | inl same ↦ rw same.0 (subst (λ q. MayHappen shape (column q) step) same.1 may)
  | inr other ↦ rw other.0 (tt, tt)
]

-- a leaf has no children
no_children : (shape : TreeShape) → IsTree shape → (node : ℕ) → frames_of shape node ≢ 0 → (child : ℕ) → IsChild shape child node → ⊥
no_children shape tree node leaf child ic = leaf (tree.leaves child node ic)

on_access : (shape : TreeShape) (s : State) (page node : ℕ) (op : Op) → IsUpper shape node → MayAccess shape s node op → MayHappen shape (s.column page) (step_of_access page node op)
on_access shape s page node (Op.Read p off len) un may = on_page shape s.column page p (Reads node) (un, may)
on_access shape s page node (Op.Write p off bytes) un may = on_page shape s.column page p (Writes node) (un, may)
on_access shape s page node (Op.Clear p) un may = on_page shape s.column page p (Writes node) (un, may)
on_access shape s page node Op.Open un may = (tt, tt)

-- an allowed event is on each page a step that the table allows, or none
pub on_each_page : (shape : TreeShape) (pages : ℕ) (s : State) (event : Event) → IsTree shape → IsUpper shape (node_of event) → IsLine shape pages s event → (page : ℕ) → MayHappen shape (s.column page) (step_of s.life page event)
on_each_page shape pages s (Event.Access caller number node life op) tree un line page = elim (eqb_tells life (s.life node)) [
  | inl same ↦ rw same.0 (on_access shape s page node op un (line same.1))
  | inr other ↦ rw other.0 (tt, tt)
]
on_each_page shape pages s (Event.PageIn node p write) tree un line page = on_page shape s.column page p (Grants node write) (un, line.0)
on_each_page shape pages s (Event.ZeroFill node p write) tree un line page = on_page shape s.column page p (Grants node write) (un, line.1)
on_each_page shape pages s (Event.PageOut node p) tree un line page =
    on_page shape s.column page p (PagesOut node) (un, (line.1, λ child ic. absurd (no_children shape tree node line.0 child ic)))
on_each_page shape pages s (Event.WriteOut node p) tree un line page = on_page shape s.column page p (Denies node) (un, line)
on_each_page shape pages s (Event.SyncOut node p) tree un line page = on_page shape s.column page p (Pushes node) (un, line)
on_each_page shape pages s (Event.FlushBack node p) tree un line page = on_page shape s.column page p (Flushes node) (un, line)
on_each_page shape pages s (Event.DenyWrites node p) tree un line page = on_page shape s.column page p (Denies node) (un, line)
on_each_page shape pages s (Event.WriteBack node p) tree un line page = on_page shape s.column page p (Pushes node) (un, line)
on_each_page shape pages s (Event.DeleteRange node p) tree un line page = on_page shape s.column page p (Deletes node) (un, line)
on_each_page shape pages s (Event.DestroyCache caller number node) tree un line page = (tt, tt)
on_each_page shape pages s (Event.DonePager caller number node) tree un line page = (tt, tt)
on_each_page shape pages s (Event.Synced caller number node from keep) tree un line page = (tt, tt)

abbrev pub AllCoherent : TreeShape → State → Type 0
AllCoherent shape s = (page : ℕ) → IsCoherent shape s.len (s.column page)

pub event_keeps : (shape : TreeShape) (pages : ℕ) (s : State) (event : Event) → IsTree shape → AllCoherent shape s → IsAllowed shape pages s event → AllCoherent shape (state_after shape s event)
event_keeps shape pages s event tree coh ok page =
    let may = on_each_page shape pages s event tree ok.upper ok.line page in
    keeps shape s.len (s.column page) (step_of s.life page event) tree may.0 (coh page) may.1

-- at the start only the ground has a right
start_right : (node : ℕ) → ((node ≡ 0) × (right_at_start node ≡ Right.Write)) ⊎ ((0 < node) × (right_at_start node ≡ Right.Nothing))
start_right node = elim (eqb_tells node 0) [
  | inl same ↦ inl (same.1, rw same.0 refl)
  | inr other ↦ inr (omega (arith, other.1), rw other.0 refl)
]

pub start_nothing : (node : ℕ) → 0 < node → right_at_start node ≡ Right.Nothing
start_nothing node h = elim (start_right node) [ inl z ↦ absurd (omega (arith, z.0)) | inr e ↦ e.1 ]

pub start_coherent : (shape : TreeShape) → AllCoherent shape start
start_coherent shape page = record {
  capped = λ node un. rw (start_nothing node un.above) (omega arith);
  alone = λ node un w c ic d. start_nothing c ic.upper.above;
  reading = λ node un r. refl;
  writing = λ node un r. omega arith;
  current = λ node inside r none. omega arith;
  placed = λ node inside. omega arith;
}

run_len : (shape : TreeShape) (s : State) (trail : List Event) → (fold (state_after shape) s trail).len ≡ s.len + length trail
run_len shape s [] = omega arith
run_len shape s (event ∷ events) = omega (arith, run_len shape (state_after shape s event) events)

-- the state counts the events
pub trail_len : (shape : TreeShape) (trail : List Event) → (state_of shape trail).len ≡ length trail
trail_len shape trail = omega (arith, run_len shape start trail)

-- no step of another node changes the ground's right
ground_after : (shape : TreeShape) (right : ℕ → Right) (step : Step) → IsStepOf shape step → right_after right step 0 ≡ right 0
ground_after shape right Untouched un = refl
ground_after shape right (Reads n) un = refl
ground_after shape right (Writes n) un = refl
ground_after shape right (Grants n true) un = updated-other right n Right.Write 0 (omega (arith, un.above))
ground_after shape right (Grants n false) un = updated-other right n Right.Read 0 (omega (arith, un.above))
ground_after shape right (PagesOut n) un = updated-other right n Right.Nothing 0 (omega (arith, un.above))
ground_after shape right (Denies n) un = updated-other right n Right.Read 0 (omega (arith, un.above))
ground_after shape right (Pushes n) un = refl
ground_after shape right (Flushes n) un = updated-other right n Right.Nothing 0 (omega (arith, un.above))
ground_after shape right (Deletes n) un = updated-other right n Right.Nothing 0 (omega (arith, un.above))

pub event_ground : (shape : TreeShape) (pages : ℕ) (s : State) (event : Event) (page : ℕ) → IsTree shape → IsAllowed shape pages s event → ((state_after shape s event).column page).right 0 ≡ (s.column page).right 0
event_ground shape pages s event page tree ok = ground_after shape (s.column page).right (step_of s.life page event) (on_each_page shape pages s event tree ok.upper ok.line page).0

run_ground : (shape : TreeShape) (pages : ℕ) (s : State) (trail : List Event) (page : ℕ) → IsTree shape → IsRun shape pages s trail → ((fold (state_after shape) s trail).column page).right 0 ≡ (s.column page).right 0
run_ground shape pages s [] page tree run = refl
run_ground shape pages s (event ∷ events) page tree run = run_ground shape pages (state_after shape s event) events page tree run.1 ∙ event_ground shape pages s event page tree run.0

pub trail_ground : (shape : TreeShape) (pages : ℕ) (trail : List Event) → IsTree shape → IsRun shape pages start trail → (page : ℕ) → right_of shape trail 0 page ≡ Right.Write
trail_ground shape pages trail tree run page = run_ground shape pages start trail page tree run

-- a node that has Nothing on a page has place 0 there, and an allowed event leaves that so
pub event_zero : (shape : TreeShape) (pages : ℕ) (s : State) (event : Event) → IsTree shape → AllCoherent shape s → IsAllowed shape pages s event → ((page : ℕ) → IsZeroWithout shape (s.column page)) → (page : ℕ) → IsZeroWithout shape ((state_after shape s event).column page)
event_zero shape pages s event tree coh ok zeros page =
    let may = on_each_page shape pages s event tree ok.upper ok.line page in
    keeps_zero shape s.len (s.column page) (step_of s.life page event) tree may.0 (coh page) may.1 (zeros page)

some_is : {p q : ℕ} → Some p ≡ Some q → p ≡ q
some_is e = cc

-- what an access of the node's life finds is not before the newest write

reads_newest : (shape : TreeShape) (len : ℕ) (col : Column) (node : ℕ) → IsUpper shape node → IsCoherent shape len col → MayStep shape col (Reads node) → col.newest ≤ col.at node
reads_newest shape len col node un coh may = coh.current node un.inside may.0 may.1

writes_newest : (shape : TreeShape) (len : ℕ) (col : Column) (node : ℕ) → IsUpper shape node → IsCoherent shape len col → MayStep shape col (Writes node) → col.newest ≤ col.at node
writes_newest shape len col node un coh may = coh.current node un.inside some none
  where
    differ : Right.Write ≢ Right.Nothing
    differ e = cc

    some : col.right node ≢ Right.Nothing
    some e = differ (sym may.0 ∙ e)

    none : (child : ℕ) → IsChild shape child node → col.right child ≢ Right.Write
    none child ic e = differ (sym e ∙ may.1 child ic)

pub access_newest : (shape : TreeShape) (pages : ℕ) (s : State) (len caller number node page : ℕ) (op : Op) → IsCoherent shape len (s.column page) → page_of_op op ≡ Some page → IsAllowed shape pages s (Event.Access caller number node (s.life node) op) → (s.column page).newest ≤ (s.column page).at node
access_newest shape pages s len caller number node page (Op.Read p off n) coh of ok =
    reads_newest shape len (s.column page) node ok.upper coh (subst (λ q. MayStep shape (s.column q) (Reads node)) (some_is of) (ok.line refl))
access_newest shape pages s len caller number node page (Op.Write p off bytes) coh of ok =
    writes_newest shape len (s.column page) node ok.upper coh (subst (λ q. MayStep shape (s.column q) (Writes node)) (some_is of) (ok.line refl))
access_newest shape pages s len caller number node page (Op.Clear p) coh of ok =
    writes_newest shape len (s.column page) node ok.upper coh (subst (λ q. MayStep shape (s.column q) (Writes node)) (some_is of) (ok.line refl))
access_newest shape pages s len caller number node page Op.Open coh of ok = absurd cc
