-- Each allowed event keeps the rights in the tables those of the trail.
use Rattle.std.proofs.Common.{◌≢◌, ℕ, ◌∙◌, ap, subst, List, [], ◌∷◌, ◌++◌, Option}
use Rattle.std.specs.List.{AllByRecursion}
use Rattle.hist_plain.specs.declared.event.Event.{Event}
use Rattle.tower_core.specs.declared.right.Right.{Right}
use Rattle.tower_core.specs.declared.step.Step.{Step}
use Rattle.tower_core.specs.TreeShape.{TreeShape, IsTree}
use Rattle.tower_core.specs.Trail.{start, state_of}
use Rattle.tower_core.specs.Legal.{FitsFile}
use Rattle.tower_core.proofs.Legals.{run_snoc}
use Rattle.layer_laws.specs.Side.{Side}
use Rattle.layer_laws.specs.Tables.{AreAllRights, AreBare, AreMoved}
use Rattle.layer_laws.proofs.TrailLaws.{event_rights, moves_page, start_rights}
use Rattle.page_exchange.specs.Steps.{AreSentAt}
use Rattle.tower_shows.specs.Began.{AreSame, IsNextIn, IsStepOn, IsTrueTo}
use Rattle.tower_shows.proofs.Likes.{made, made_here, made_kept, made_others, rights_like}

pub rights_start : (shape : TreeShape) (size pages : ℕ) (sides : ℕ → ℕ → Side) → IsTree shape → AreBare sides → IsTrueTo shape size pages [] sides
rights_start shape size pages sides tree bare = record { tree = tree; run = tt; fits = tt; rights = start_rights shape sides bare }

all_append : {A : Type 0} (P : A → Type 0) (xs ys : List A) → AllByRecursion P xs → AllByRecursion P ys → AllByRecursion P (xs ++ ys)
all_append P [] ys a b = b
all_append P (x ∷ xs) ys a b = (a.0, all_append P xs ys a.1 b)

-- the tables as an event makes them are moved by its step on its page
pub event_moves : (shape : TreeShape) (trail : List Event) (event : Event) (page : ℕ) (step : Step) (brings : Option (List ℕ)) (old new : ℕ → ℕ → Side) → IsStepOn shape trail event page step → (sent : AreSentAt shape page brings step old new)
    → AreMoved shape trail event brings old (made shape page brings step old new sent)
event_moves shape trail event page step brings old new on sent =
    moves_page shape trail event brings old (made shape page brings step old new sent) page step on (made_here shape page brings step old new sent) (made_others shape page brings step old new sent)

-- and so are their rights
pub made_rights : (shape : TreeShape) (size pages : ℕ) (trail : List Event) (event : Event) (page : ℕ) (step : Step) (brings : Option (List ℕ)) (old new : ℕ → ℕ → Side) →
    IsTrueTo shape size pages trail old → IsNextIn shape size pages trail event → IsStepOn shape trail event page step → (sent : AreSentAt shape page brings step old new) → AreAllRights shape (trail ++ event ∷ []) (made shape page brings step old new sent)
made_rights shape size pages trail event page step brings old new true_to next on sent =
    event_rights shape pages trail event brings old (made shape page brings step old new sent) true_to.tree true_to.run next.allowed true_to.rights (event_moves shape trail event page step brings old new on sent)

pub rights_step : (shape : TreeShape) (size pages : ℕ) (trail : List Event) (event : Event) (page : ℕ) (step : Step) (brings : Option (List ℕ)) (old new : ℕ → ℕ → Side) →
    IsTrueTo shape size pages trail old → IsNextIn shape size pages trail event → IsStepOn shape trail event page step → AreSentAt shape page brings step old new → IsTrueTo shape size pages (trail ++ event ∷ []) new
rights_step shape size pages trail event page step brings old new true_to next on sent = record {
  tree = true_to.tree;
  run = run_snoc shape pages start trail event true_to.run next.allowed;
  fits = all_append (FitsFile size pages) trail (event ∷ []) true_to.fits (next.fits, tt);
  rights = λ p. rights_like shape ((state_of shape (trail ++ event ∷ [])).column p) (made shape page brings step old new sent p) (new p) (made_kept shape page brings step old new sent p)
      (made_rights shape size pages trail event page step brings old new true_to next on sent p);
}

-- tables that differ nowhere
pub rights_same : (shape : TreeShape) (size pages : ℕ) (trail : List Event) (old new : ℕ → ℕ → Side) → IsTrueTo shape size pages trail old → AreSame old new → IsTrueTo shape size pages trail new
rights_same shape size pages trail old new true_to same = record {
  tree = true_to.tree;
  run = true_to.run;
  fits = true_to.fits;
  rights = λ page. record {
    right = λ n un. ap (λ (s : Side). s.right) (same page n) ∙ (true_to.rights page).right n un;
    changed = λ n un some. ap (λ (s : Side). s.changed) (same page n) ∙ (true_to.rights page).changed n un some;
    kids = λ n c un ic. ap (λ (s : Side). s.kids c) (same page n) ∙ (true_to.rights page).kids n c un ic;
    strays = λ n c un some. (true_to.rights page).strays n c un (subst (λ (s : Side). s.kids c ≢ Right.Nothing) (same page n) some);
  };
}
