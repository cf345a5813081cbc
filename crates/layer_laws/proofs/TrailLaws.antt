-- Each allowed event keeps the nodes' tables of all pages true to the trail.
use Rattle.std.proofs.Common.{◌≡◌, ◌≢◌, ℕ, inl, inr, sym, ◌∙◌, subst, refl, arith, List, [], ◌∷◌, ◌++◌, length, Option}
use Rattle.std.proofs.lemmas.Bool.{eq-eqb}
use Rattle.std.proofs.lemmas.Bool.Decides.{eqb_tells}
use Rattle.hist_plain.specs.declared.event.Event.{Event}
use Rattle.tower_core.specs.declared.step.Step.{Step}
use Rattle.tower_core.specs.declared.step.Step.TheVariants.{Untouched}
use Rattle.tower_core.specs.TreeShape.{TreeShape, IsTree}
use Rattle.tower_core.specs.Column.{IsCoherent}
use Rattle.tower_core.specs.Trail.{start, state_of, step_of, of_page, IsAllowed, IsRun}
use Rattle.tower_core.proofs.Trails.{on_each_page, start_nothing, trail_len}
use Rattle.tower_core.proofs.Legals.{state_of-snoc}
use Rattle.tower_core.proofs.Frames.{run_coherent}
use Rattle.layer_laws.specs.Side.{Side}
use Rattle.layer_laws.specs.Sent.{AreSent}
use Rattle.layer_laws.specs.Tables.{AreAllRights, AreAllCopies, AreMoved, AreBytesMoved, AreBare}
use Rattle.layer_laws.proofs.StepLaws.{step_rights, step_copies}

module _ (shape : TreeShape) (pages : ℕ) (trail : List Event) (event : Event) (brings : Option (List ℕ)) (old new : ℕ → ℕ → Side) (tree : IsTree shape) (run : IsRun shape pages start trail) (ok : IsAllowed shape pages (state_of shape trail) event)
    (rights : AreAllRights shape trail old) (moved : AreMoved shape trail event brings old new) where
  coherent : (page : ℕ) → IsCoherent shape (state_of shape trail).len ((state_of shape trail).column page)
  coherent page = (run_coherent shape pages trail tree run).columns page

  pub event_rights : AreAllRights shape (trail ++ event ∷ []) new
  event_rights = λ page.
      let may = on_each_page shape pages (state_of shape trail) event tree ok.upper ok.line page in
      rw (state_of-snoc shape trail event)
      (step_rights shape (state_of shape trail).len ((state_of shape trail).column page) brings (step_of (state_of shape trail).life page event) (old page) (new page) tree may.0 (coherent page) may.1 (rights page) (moved page))

  pub event_copies : (content content' : ℕ → ℕ → List ℕ) (base base' : ℕ → List ℕ) → AreAllCopies shape trail content old base → AreBytesMoved shape trail event brings content content' old base base' → AreAllCopies shape (trail ++ event ∷ []) content' new base'
  event_copies content content' base base' copies bytes = λ page.
      let may = on_each_page shape pages (state_of shape trail) event tree ok.upper ok.line page in
      let len : (state_of shape trail).len ≡ length trail = trail_len shape trail in
      rw (state_of-snoc shape trail event)
      (step_copies shape (state_of shape trail).len ((state_of shape trail).column page) (content page) (content' page) brings (step_of (state_of shape trail).life page event) (old page) (new page) (base page) (base' page) tree may.0 (coherent page) may.1 (rights page) (copies page)
      (moved page) (bytes.ground page) (rw len (bytes.bytes page)) (λ place le. bytes.earlier page place (omega (arith, le, len))))

pub start_rights : (shape : TreeShape) (sides : ℕ → ℕ → Side) → AreBare sides → AreAllRights shape [] sides
start_rights shape sides bare page = record {
  right = λ n un. bare.right page n ∙ sym (start_nothing n un.above);
  changed = λ n un some. absurd (some (start_nothing n un.above));
  kids = λ n c un ic. bare.kids page n c ∙ sym (start_nothing c ic.upper.above);
  strays = λ n c un some. absurd (some (bare.kids page n c));
}

pub start_copies : (shape : TreeShape) (content : ℕ → ℕ → List ℕ) (sides : ℕ → ℕ → Side) (base : ℕ → List ℕ) → AreBare sides → ((page : ℕ) → base page ≡ content page 0) → AreAllCopies shape [] content sides base
start_copies shape content sides base bare same page = record {
  copy = λ n un some. absurd (some (start_nothing n un.above));
  ground = same page;
}

-- an event that is of one page leaves the others
of_page-same : (page : ℕ) (step : Step) → of_page page page step ≡ step
of_page-same page step = rw (eq-eqb page page refl) refl

of_page-other : (p page : ℕ) (step : Step) → p ≢ page → of_page p page step ≡ Untouched
of_page-other p page step d = elim (eqb_tells page p) [ inl e ↦ absurd (d (sym e.1)) | inr n ↦ rw n.0 refl ]

pub moves_page : (shape : TreeShape) (trail : List Event) (event : Event) (brings : Option (List ℕ)) (old new : ℕ → ℕ → Side) (page : ℕ) (step : Step) → ((p : ℕ) → step_of (state_of shape trail).life p event ≡ of_page p page step) → AreSent shape brings step (old page) (new page) → ((p node : ℕ) → p ≢ page → new p node ≡ old p node) → AreMoved shape trail event brings old new
moves_page shape trail event brings old new page step is here others p = elim (eqb_tells p page) [
  | inl e ↦ subst (λ (q : ℕ). AreSent shape brings (step_of (state_of shape trail).life q event) (old q) (new q)) (sym e.1) (subst (λ (s : Step). AreSent shape brings s (old page) (new page)) (sym (is page ∙ of_page-same page step)) here)
  | inr d ↦ subst (λ (s : Step). AreSent shape brings s (old p) (new p)) (sym (is p ∙ of_page-other p page step d.1)) (λ node. others p node d.1)
]

pub moves_nothing : (shape : TreeShape) (trail : List Event) (event : Event) (brings : Option (List ℕ)) (old new : ℕ → ℕ → Side) → ((p : ℕ) → step_of (state_of shape trail).life p event ≡ Untouched) → ((p node : ℕ) → new p node ≡ old p node) → AreMoved shape trail event brings old new
moves_nothing shape trail event brings old new is same p = subst (λ (s : Step). AreSent shape brings s (old p) (new p)) (sym (is p)) (same p)
