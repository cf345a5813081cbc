-- A page that was never granted.
use Rattle.std.specs.Prelude.{◌==◌}
use Rattle.std.proofs.Common.{◌≡◌, ◌≢◌, ℕ, sym, ◌∙◌, subst, refl, Bool, true, false, ◌||◌, List, [], ◌∷◌, Some, inl, inr}
use Rattle.std.proofs.lemmas.Bool.Decides.{eqb_tells}
use Rattle.std.proofs.lemmas.Bool.{eq-eqb}
use Rattle.std.specs.List.{fold}
use Rattle.hist_plain.specs.declared.event.Event.{Event}
use Rattle.hist_plain.specs.declared.event.Op.{Op}
use Rattle.hist_plain.specs.Event.{page_of_op}
use Rattle.tower_core.specs.declared.right.Right.{Right}
use Rattle.tower_core.specs.declared.step.Step.{Step}
use Rattle.tower_core.specs.declared.step.Step.TheVariants.{Untouched, Reads, Writes, Grants, PagesOut, Denies, Pushes, Flushes, Deletes}
use Rattle.tower_core.specs.TreeShape.{TreeShape, IsTree, IsUpper}
use Rattle.tower_core.specs.Column.{Column, updated, MayStep, IsStepOf, column_after}
use Rattle.tower_core.specs.Trail.{State, state_after, state_of, start, right_of, of_page, step_of, step_of_access, IsAllowed, IsRun, MayAccess}
use Rattle.tower_core.proofs.Trails.{on_each_page, start_nothing}
use Rattle.layer_laws.specs.Granted.{is_grant_of, is_granted_in}

-- no node but the ground has a right on the page
abbrev pub AllNothing : TreeShape → Column → Type 0
AllNothing shape col = (node : ℕ) → IsUpper shape node → col.right node ≡ Right.Nothing

abbrev NoGrant : Step → Type 0
NoGrant (Grants node write) = ⊥
NoGrant step = Unit {0}

write_nothing : Right.Write ≢ Right.Nothing
write_nothing x = cc

read_nothing : Right.Read ≢ Right.Nothing
read_nothing x = cc

lost : (shape : TreeShape) (col : Column) (n : ℕ) → AllNothing shape col → (node : ℕ) → IsUpper shape node → updated col.right n Right.Nothing node ≡ Right.Nothing
lost shape col n h node un = elim (eqb_tells node n) [
  | inl e ↦ rw e.0 refl
  | inr d ↦ rw d.0 (h node un)
]

still_nothing : (shape : TreeShape) (len : ℕ) (col : Column) (step : Step) → AllNothing shape col → IsStepOf shape step → MayStep shape col step → NoGrant step → AllNothing shape (column_after shape len col step)
still_nothing shape len col Untouched h of may ng = h
still_nothing shape len col (Reads n) h of may ng = h
still_nothing shape len col (Writes n) h of may ng = h
still_nothing shape len col (Grants n write) h of may ng = elim ng [ ]
still_nothing shape len col (PagesOut n) h of may ng = lost shape col n h
still_nothing shape len col (Denies n) h of may ng = absurd (write_nothing (sym may.0 ∙ h n of))
still_nothing shape len col (Pushes n) h of may ng = h
still_nothing shape len col (Flushes n) h of may ng = lost shape col n h
still_nothing shape len col (Deletes n) h of may ng = lost shape col n h

none_of : (page p : ℕ) (step : Step) → NoGrant step → NoGrant (of_page page p step)
none_of page p step ng = elim (eqb_tells p page) [ inl e ↦ rw e.0 ng | inr d ↦ rw d.0 tt ]

other_page : (page p : ℕ) (step : Step) → (page == p) ≡ false → NoGrant (of_page page p step)
other_page page p step e = elim (eqb_tells p page) [
  | inl same ↦ absurd (let no : true ≡ false = sym (eq-eqb page p (sym same.1)) ∙ e in let f : ⊥ = cc in f)
  | inr d ↦ rw d.0 tt
]

access_none : (page node : ℕ) (op : Op) → NoGrant (step_of_access page node op)
access_none page node (Op.Read p off len) = none_of page p (Reads node) tt
access_none page node (Op.Write p off bytes) = none_of page p (Writes node) tt
access_none page node (Op.Clear p) = none_of page p (Writes node) tt
access_none page node Op.Open = tt

event_none : (life : ℕ → ℕ) (page : ℕ) (event : Event) → is_grant_of page event ≡ false → NoGrant (step_of life page event)
event_none life page (Event.Access caller number node l op) e = elim (eqb_tells l (life node)) [ inl same ↦ rw same.0 (access_none page node op) | inr d ↦ rw d.0 tt ]
event_none life page (Event.PageIn node p write) e = other_page page p (Grants node write) e
event_none life page (Event.ZeroFill node p write) e = other_page page p (Grants node write) e
event_none life page (Event.PageOut node p) e = none_of page p (PagesOut node) tt
event_none life page (Event.WriteOut node p) e = none_of page p (Denies node) tt
event_none life page (Event.SyncOut node p) e = none_of page p (Pushes node) tt
event_none life page (Event.FlushBack node p) e = none_of page p (Flushes node) tt
event_none life page (Event.DenyWrites node p) e = none_of page p (Denies node) tt
event_none life page (Event.WriteBack node p) e = none_of page p (Pushes node) tt
event_none life page (Event.DeleteRange node p) e = none_of page p (Deletes node) tt
event_none life page (Event.DestroyCache caller number node) e = tt
event_none life page (Event.DonePager caller number node) e = tt
event_none life page (Event.Synced caller number node from keep) e = tt

neither : (a b : Bool) → (a || b) ≡ false → (a ≡ false) × (b ≡ false)
neither true b e = absurd cc
neither false b e = (refl, e)

never : (shape : TreeShape) (pages page : ℕ) (s : State) (trail : List Event) → IsTree shape → AllNothing shape (s.column page) → IsRun shape pages s trail → is_granted_in page trail ≡ false →
    AllNothing shape ((fold (state_after shape) s trail).column page)
never shape pages page s [] tree h run e = h
never shape pages page s (event ∷ events) tree h run e =
    let ng = neither (is_grant_of page event) (is_granted_in page events) e in
    let may = on_each_page shape pages s event tree run.0.upper run.0.line page in
    never shape pages page (state_after shape s event) events tree
    (still_nothing shape s.len (s.column page) (step_of s.life page event) h may.0 may.1 (event_none s.life page event ng.0)) run.1 ng.1

pub never_granted : (shape : TreeShape) (pages : ℕ) (trail : List Event) (page node : ℕ) → IsTree shape → IsRun shape pages start trail → is_granted_in page trail ≡ false → IsUpper shape node → right_of shape trail node page ≡ Right.Nothing
never_granted shape pages trail page node tree run e un = never shape pages page start trail tree (λ n u. start_nothing n u.above) run e node un

-- an access needs a right on its page
same_page : (p page : ℕ) → Some p ≡ Some page → p ≡ page
same_page p page e = cc

needs_right : (shape : TreeShape) (s : State) (node page : ℕ) (op : Op) → page_of_op op ≡ Some page → MayAccess shape s node op → (s.column page).right node ≢ Right.Nothing
needs_right shape s node page (Op.Read p off len) e may = subst (λ (q : ℕ). (s.column q).right node ≢ Right.Nothing) (same_page p page e) may.0
needs_right shape s node page (Op.Write p off bytes) e may = subst (λ (q : ℕ). (s.column q).right node ≢ Right.Nothing) (same_page p page e) (λ x. write_nothing (sym may.0 ∙ x))
needs_right shape s node page (Op.Clear p) e may = subst (λ (q : ℕ). (s.column q).right node ≢ Right.Nothing) (same_page p page e) (λ x. write_nothing (sym may.0 ∙ x))
needs_right shape s node page Op.Open e may = absurd (let f : ⊥ = cc in f)

by_test : (b : Bool) → (b ≡ false → ⊥) → b ≡ true
by_test true h = refl
by_test false h = absurd (h refl)

pub granted_before : (shape : TreeShape) (pages : ℕ) (trail : List Event) (caller number node page : ℕ) (op : Op) → IsTree shape → IsRun shape pages start trail → page_of_op op ≡ Some page →
    IsAllowed shape pages (state_of shape trail) (Event.Access caller number node ((state_of shape trail).life node) op) → is_granted_in page trail ≡ true
granted_before shape pages trail caller number node page op tree run of ok =
    by_test (is_granted_in page trail) (λ e. needs_right shape (state_of shape trail) node page op of (ok.line refl) (never_granted shape pages trail page node tree run e ok.upper))
