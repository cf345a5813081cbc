-- What a trail says of tables, it says of tables of which each node keeps its part.
use Rattle.std.proofs.Common.{◌≡◌, ◌≢◌, ℕ, inl, inr, sym, ◌∙◌, ap, subst, List, Option}
use Rattle.tower_core.specs.TreeShape.{TreeShape}
use Rattle.tower_core.specs.Column.{Column, updated}
use Rattle.tower_core.specs.declared.step.Step.{Step}
use Rattle.tower_core.proofs.StepLaw.{updated-same, updated-other}
use Rattle.layer_laws.specs.Side.{Side}
use Rattle.layer_laws.specs.Sent.{AreSent}
use Rattle.layer_laws.specs.Shown.{AreRights, AreCopies}
use Rattle.page_messages.proofs.NodeSets.{same_or_not}
use Rattle.page_exchange.specs.Table.{IsLike}
use Rattle.page_exchange.specs.Steps.{AreLike, AreSentAt}

pub like_same : (to s : Side) → s ≡ to → IsLike to s
like_same to s e = record { right = ap (λ (t : Side). t.right) e; kids = λ child. ap (λ (t : Side). t.kids child) e; whole = λ some. e }

pub rights_like : (shape : TreeShape) (col : Column) (to new : ℕ → Side) → AreLike to new → AreRights shape col to → AreRights shape col new
rights_like shape col to new like are = record {
  right = λ n un. (like n).right ∙ are.right n un;
  changed = λ n un some. ap (λ (s : Side). s.changed) ((like n).whole (λ none. some (sym (are.right n un) ∙ none))) ∙ are.changed n un some;
  kids = λ n c un ic. (like n).kids c ∙ are.kids n c un ic;
  strays = λ n c un some. are.strays n c un (λ none. some ((like n).kids c ∙ none));
}

pub copies_like : (shape : TreeShape) (col : Column) (content : ℕ → List ℕ) (to new : ℕ → Side) (base : List ℕ) → AreLike to new → AreRights shape col to → AreCopies shape col content to base → AreCopies shape col content new base
copies_like shape col content to new base like rights are = record {
  copy = λ n un some. ap (λ (s : Side). s.copy) ((like n).whole (λ none. some (sym (rights.right n un) ∙ none))) ∙ are.copy n un some;
  ground = are.ground;
}

-- the tables as the step makes them
module _ (shape : TreeShape) (page : ℕ) (brings : Option (List ℕ)) (step : Step) (old new : ℕ → ℕ → Side) (sent : AreSentAt shape page brings step old new) where
  abbrev pub made : ℕ → ℕ → Side
  made = updated new page sent.to

  pub made_here : AreSent shape brings step (old page) (made page)
  made_here = subst (AreSent shape brings step (old page)) (sym (updated-same new page sent.to)) sent.here

  pub made_others : (p node : ℕ) → p ≢ page → made p node ≡ old p node
  made_others p node d = ap (λ (t : ℕ → Side). t node) (updated-other new page sent.to p d) ∙ sent.others p node d

  pub made_kept : (p : ℕ) → AreLike (made p) (new p)
  made_kept p = elim (same_or_not p page) [
    | inl e ↦ subst (λ (q : ℕ). AreLike (made q) (new q)) (sym e) (subst (λ (t : ℕ → Side). AreLike t (new page)) (sym (updated-same new page sent.to)) sent.kept)
    | inr d ↦ λ node. like_same (made p node) (new p node) (sym (ap (λ (t : ℕ → Side). t node) (updated-other new page sent.to p d)))
  ]
