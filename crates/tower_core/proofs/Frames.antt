-- A leaf holds at most its frames: a law of its own, over the pages that it holds.
use Rattle.std.proofs.Common.{◌≡◌, ◌≢◌, ℕ, suc, zero, ◌+◌, ◌<◌, ◌≤◌, ◌⊎◌, inl, inr, sym, ap, subst, refl, arith, Bool, true, false, List, [], ◌∷◌, cond}
use Rattle.std.proofs.Math.Nat.{le_trans}
use Rattle.std.proofs.lemmas.Bool.{false≢true}
use Rattle.std.specs.List.{fold}
use Rattle.std.proofs.lemmas.Bool.Decides.{eqb_tells}
use Rattle.hist_plain.specs.declared.event.Event.{Event}
use Rattle.hist_plain.specs.declared.event.Op.{Op}
use Rattle.tower_core.specs.declared.right.Right.{Right}
use Rattle.tower_core.specs.declared.step.Step.{Step}
use Rattle.tower_core.specs.declared.step.Step.TheVariants.{Untouched, Reads, Writes, Grants, PagesOut, Denies, Pushes, Flushes, Deletes}
use Rattle.tower_core.specs.TreeShape.{TreeShape, frames_of, IsTree}
use Rattle.tower_core.specs.Column.{Column, updated, right_after, MayStep}
use Rattle.tower_core.specs.Trail.{State, state_after, start, of_page, step_of, step_of_access, state_of, holds, held_below, IsAllowed, IsFramed, IsRun, IsCoherentState}
use Rattle.tower_core.proofs.Ranks.{same_or_not}
use Rattle.tower_core.proofs.Trails.{on_each_page, start_nothing, start_coherent, event_keeps, event_zero}

-- a table with another value at one key holds there what the value holds, and elsewhere what it held
holds_updated : (right : ℕ → Right) (n : ℕ) (v : Right) (node : ℕ) → (holds v ≡ true → holds (right n) ≡ true) → holds (updated right n v node) ≡ true → holds (right node) ≡ true
holds_updated right n v node keeps h = elim (eqb_tells node n) [
  | inl same ↦ subst (λ k. holds (right k) ≡ true) (sym same.1) (keeps (rw same.0 at h))
  | inr other ↦ rw other.0 at h
]

holds_at : (r v : Right) → r ≡ v → holds v ≡ true → holds r ≡ true
holds_at r v e h = rw e h

-- no step but a grant at the node gives it a right
pub no_gain : (shape : TreeShape) (col : Column) (step : Step) (node : ℕ) → MayStep shape col step → ((write : Bool) → step ≢ Grants node write) → holds (right_after col.right step node) ≡ true → holds (col.right node) ≡ true
no_gain shape col Untouched node may other h = h
no_gain shape col (Reads n) node may other h = h
no_gain shape col (Writes n) node may other h = h
no_gain shape col (Grants n true) node may other h = elim (eqb_tells node n) [
  | inl same ↦ absurd (other true (ap (λ k. Grants k true) (sym same.1)))
  | inr d ↦ rw d.0 at h
]
no_gain shape col (Grants n false) node may other h = elim (eqb_tells node n) [
  | inl same ↦ absurd (other false (ap (λ k. Grants k false) (sym same.1)))
  | inr d ↦ rw d.0 at h
]
no_gain shape col (PagesOut n) node may other h = holds_updated col.right n Right.Nothing node (λ no. absurd cc) h
no_gain shape col (Denies n) node may other h = holds_updated col.right n Right.Read node (λ yes. holds_at (col.right n) Right.Write may.0 refl) h
no_gain shape col (Pushes n) node may other h = h
no_gain shape col (Flushes n) node may other h = holds_updated col.right n Right.Nothing node (λ no. absurd cc) h
no_gain shape col (Deletes n) node may other h = holds_updated col.right n Right.Nothing node (λ no. absurd cc) h

nothing_or_holds : (r : Right) → (r ≡ Right.Nothing) ⊎ (holds r ≡ true)
nothing_or_holds Right.Nothing = inl refl
nothing_or_holds Right.Read = inr refl
nothing_or_holds Right.Write = inr refl

-- counts of held pages

counted : (b c : Bool) (m n : ℕ) → m ≤ n → (b ≡ true → c ≡ true) → cond b (m + 1) m ≤ cond c (n + 1) n
counted true true m n le keeps = omega arith
counted true false m n le keeps = absurd (false≢true (keeps refl))
counted false true m n le keeps = omega arith
counted false false m n le keeps = omega arith

counted_one : (b c : Bool) (m n : ℕ) → m ≤ n → cond b (m + 1) m ≤ cond c (n + 1) n + 1
counted_one true true m n le = omega arith
counted_one true false m n le = omega arith
counted_one false true m n le = omega arith
counted_one false false m n le = omega arith

counted_more : (b c : Bool) (m n : ℕ) → m ≤ n + 1 → (b ≡ true → c ≡ true) → cond b (m + 1) m ≤ cond c (n + 1) n + 1
counted_more true true m n le keeps = omega arith
counted_more true false m n le keeps = absurd (false≢true (keeps refl))
counted_more false true m n le keeps = omega arith
counted_more false false m n le keeps = omega arith

-- what the node holds of a page afterwards, it held before
abbrev Kept : State → State → ℕ → ℕ → Type 0
Kept s t node page = holds ((t.column page).right node) ≡ true → holds ((s.column page).right node) ≡ true

held_le : (s t : State) (node k : ℕ) → ((page : ℕ) → page < k → Kept s t node page) → held_below t node k ≤ held_below s node k
held_le s t node zero keeps = omega arith
held_le s t node (suc k) keeps =
    counted (holds ((t.column k).right node)) (holds ((s.column k).right node)) (held_below t node k) (held_below s node k)
    (held_le s t node k (λ page h. keeps page (omega arith))) (keeps k (omega arith))

-- the same, but for one page
held_le_one : (s t : State) (node q k : ℕ) → ((page : ℕ) → page < k → page ≢ q → Kept s t node page) → held_below t node k ≤ held_below s node k + 1
held_le_one s t node q zero keeps = omega arith
held_le_one s t node q (suc k) keeps = elim (same_or_not k q) [
  | inl same ↦ counted_one (holds ((t.column k).right node)) (holds ((s.column k).right node)) (held_below t node k) (held_below s node k)
      (held_le s t node k (λ page h. keeps page (omega arith) (omega arith)))
  | inr other ↦ counted_more (holds ((t.column k).right node)) (holds ((s.column k).right node)) (held_below t node k) (held_below s node k)
      (held_le_one s t node q k (λ page h d. keeps page (omega arith) d)) (keeps k (omega arith) other)
]

-- THE LAW OF FRAMES

-- a step of a page that is no grant is none on any page
off_page : (page q : ℕ) (step : Step) (node : ℕ) → ((write : Bool) → step ≢ Grants node write) → (write : Bool) → of_page page q step ≢ Grants node write
off_page page q step node other write e = elim (eqb_tells q page) [
  | inl same ↦ other write (rw same.0 at e)
  | inr d ↦ no_grant (rw d.0 at e)
]
  where
    no_grant : Untouched ≢ Grants node write
    no_grant e = cc

module _ (shape : TreeShape) (pages : ℕ) (s : State) (event : Event) (tree : IsTree shape) (framed : IsFramed shape pages s) (ok : IsAllowed shape pages s event) where
  -- on a page where the event is no grant to the node
  kept : (node page : ℕ) → ((write : Bool) → step_of s.life page event ≢ Grants node write) → Kept s (state_after shape s event) node page
  kept node page other = no_gain shape (s.column page) (step_of s.life page event) node (on_each_page shape pages s event tree ok.upper ok.line page).1 other

  -- an event that grants nothing
  quiet : ((node page : ℕ) (write : Bool) → step_of s.life page event ≢ Grants node write) → IsFramed shape pages (state_after shape s event)
  quiet other node above leaf = le_trans (held_le s (state_after shape s event) node pages (λ page h. kept node page (other node page))) (framed node above leaf)

  -- a grant of the page q to the node n
  abbrev IsGrantOf : ℕ → ℕ → Type 0
  IsGrantOf n q = (node page : ℕ) → (page ≢ q) ⊎ (node ≢ n) → (write : Bool) → step_of s.life page event ≢ Grants node write

  granted_node : (n q : ℕ) → IsGrantOf n q → (frames_of shape n ≢ 0 → (s.column q).right n ≡ Right.Nothing → held_below s n pages < frames_of shape n) → 0 < n → frames_of shape n ≢ 0 → ((s.column q).right n ≡ Right.Nothing) ⊎ (holds ((s.column q).right n) ≡ true) → held_below (state_after shape s event) n pages ≤ frames_of shape n
  granted_node n q other room above leaf (inl none) =
      let more = held_le_one s (state_after shape s event) n q pages (λ page h d. kept n page (other n page (inl d))) in
      omega (arith, more, room leaf none)
  granted_node n q other room above leaf (inr held) =
      le_trans (held_le s (state_after shape s event) n pages (λ page h. keeps page (same_or_not page q))) (framed n above leaf)
    where
      keeps : (page : ℕ) → (page ≡ q) ⊎ (page ≢ q) → Kept s (state_after shape s event) n page
      keeps page (inl same) after = subst (λ p. holds ((s.column p).right n) ≡ true) (sym same) held
      keeps page (inr d) after = kept n page (other n page (inl d)) after

  granting : (n q : ℕ) → IsGrantOf n q → (frames_of shape n ≢ 0 → (s.column q).right n ≡ Right.Nothing → held_below s n pages < frames_of shape n) → IsFramed shape pages (state_after shape s event)
  granting n q other room node above leaf = elim (same_or_not node n) [
    | inl same ↦ subst (λ k. held_below (state_after shape s event) k pages ≤ frames_of shape k) (sym same)
        (granted_node n q other room (omega arith) (subst (λ k. frames_of shape k ≢ 0) same leaf) (nothing_or_holds ((s.column q).right n)))
    | inr d ↦ le_trans (held_le s (state_after shape s event) node pages (λ page h. kept node page (other node page (inr d)))) (framed node above leaf)
  ]

-- no access is a grant
no_access_grant : (page node at : ℕ) (op : Op) (write : Bool) → step_of_access page at op ≢ Grants node write
no_access_grant page node at (Op.Read p off len) write = off_page page p (Reads at) node (λ w e. cc) write
no_access_grant page node at (Op.Write p off bytes) write = off_page page p (Writes at) node (λ w e. cc) write
no_access_grant page node at (Op.Clear p) write = off_page page p (Writes at) node (λ w e. cc) write
no_access_grant page node at Op.Open write = λ e. cc

one_grant : (n q : ℕ) (write : Bool) (node page : ℕ) → (page ≢ q) ⊎ (node ≢ n) → (w : Bool) → of_page page q (Grants n write) ≢ Grants node w
one_grant n q write node page other w e = elim (eqb_tells q page) [
  | inl same ↦ two same.1 (rw same.0 at e) other
  | inr d ↦ none (rw d.0 at e)
]
  where
    none : Untouched ≢ Grants node w
    none e = cc

    two : q ≡ page → Grants n write ≡ Grants node w → (page ≢ q) ⊎ (node ≢ n) → ⊥
    two at e (inl d) = d (sym at)
    two at e (inr d) = d (let k : node ≡ n = cc in k)

pub event_frames : (shape : TreeShape) (pages : ℕ) (s : State) (event : Event) → IsTree shape → IsFramed shape pages s → IsAllowed shape pages s event → IsFramed shape pages (state_after shape s event)
event_frames shape pages s (Event.Access caller number node life op) tree framed ok = quiet shape pages s (Event.Access caller number node life op) tree framed ok
    (λ n page write e. elim (eqb_tells life (s.life node)) [ inl same ↦ no_access_grant page n node op write (rw same.0 at e) | inr d ↦ untouched n write (rw d.0 at e) ])
  where
    untouched : (n : ℕ) (write : Bool) → Untouched ≢ Grants n write
    untouched n write e = cc
event_frames shape pages s (Event.PageIn node q write) tree framed ok = granting shape pages s (Event.PageIn node q write) tree framed ok node q (one_grant node q write) ok.line.1
event_frames shape pages s (Event.ZeroFill node q write) tree framed ok = granting shape pages s (Event.ZeroFill node q write) tree framed ok node q (one_grant node q write) ok.line.2
event_frames shape pages s (Event.PageOut node q) tree framed ok = quiet shape pages s (Event.PageOut node q) tree framed ok (λ n page. off_page page q (PagesOut node) n (λ w e. cc))
event_frames shape pages s (Event.WriteOut node q) tree framed ok = quiet shape pages s (Event.WriteOut node q) tree framed ok (λ n page. off_page page q (Denies node) n (λ w e. cc))
event_frames shape pages s (Event.SyncOut node q) tree framed ok = quiet shape pages s (Event.SyncOut node q) tree framed ok (λ n page. off_page page q (Pushes node) n (λ w e. cc))
event_frames shape pages s (Event.FlushBack node q) tree framed ok = quiet shape pages s (Event.FlushBack node q) tree framed ok (λ n page. off_page page q (Flushes node) n (λ w e. cc))
event_frames shape pages s (Event.DenyWrites node q) tree framed ok = quiet shape pages s (Event.DenyWrites node q) tree framed ok (λ n page. off_page page q (Denies node) n (λ w e. cc))
event_frames shape pages s (Event.WriteBack node q) tree framed ok = quiet shape pages s (Event.WriteBack node q) tree framed ok (λ n page. off_page page q (Pushes node) n (λ w e. cc))
event_frames shape pages s (Event.DeleteRange node q) tree framed ok = quiet shape pages s (Event.DeleteRange node q) tree framed ok (λ n page. off_page page q (Deletes node) n (λ w e. cc))
event_frames shape pages s (Event.DestroyCache caller number node) tree framed ok = quiet shape pages s (Event.DestroyCache caller number node) tree framed ok (λ n page write e. cc)
event_frames shape pages s (Event.DonePager caller number node) tree framed ok = quiet shape pages s (Event.DonePager caller number node) tree framed ok (λ n page write e. cc)
event_frames shape pages s (Event.Synced caller number node from keep) tree framed ok = quiet shape pages s (Event.Synced caller number node from keep) tree framed ok (λ n page write e. cc)

-- at the start no node but the ground holds a page
pub start_held : (node k : ℕ) → 0 < node → held_below start node k ≡ 0
start_held node zero above = refl
start_held node (suc k) above = rw (start_nothing node above) (start_held node k above)

pub start_framed : (shape : TreeShape) (pages : ℕ) → IsFramed shape pages start
start_framed shape pages node above leaf = omega (arith, start_held node pages above)

-- COHERENCE, WHOLE: at the start, after an event, and after every trail

pub start_coherent_state : (shape : TreeShape) (pages : ℕ) → IsCoherentState shape pages start
start_coherent_state shape pages = record {
  columns = start_coherent shape;
  framed = start_framed shape pages;
  empty = λ page node un e. refl;
}

pub event_coherent : (shape : TreeShape) (pages : ℕ) (s : State) (event : Event) → IsTree shape → IsCoherentState shape pages s → IsAllowed shape pages s event → IsCoherentState shape pages (state_after shape s event)
event_coherent shape pages s event tree coh ok = record {
  columns = event_keeps shape pages s event tree coh.columns ok;
  framed = event_frames shape pages s event tree coh.framed ok;
  empty = event_zero shape pages s event tree coh.columns ok coh.empty;
}

run_coherent_from : (shape : TreeShape) (pages : ℕ) (s : State) (trail : List Event) → IsTree shape → IsCoherentState shape pages s → IsRun shape pages s trail → IsCoherentState shape pages (fold (state_after shape) s trail)
run_coherent_from shape pages s [] tree coh run = coh
run_coherent_from shape pages s (event ∷ events) tree coh run = run_coherent_from shape pages (state_after shape s event) events tree (event_coherent shape pages s event tree coh run.0) run.1

pub run_coherent : (shape : TreeShape) (pages : ℕ) (trail : List Event) → IsTree shape → IsRun shape pages start trail → IsCoherentState shape pages (state_of shape trail)
run_coherent shape pages trail tree run = run_coherent_from shape pages start trail tree (start_coherent_state shape pages) run
