-- An exchange of two nodes is one of the tables of all nodes.
use Rattle.std.proofs.Common.{◌≡◌, ◌≢◌, ℕ, inl, inr, sym, ◌∙◌, ap, subst, arith, List, Option}
use Rattle.tower_core.specs.declared.right.Right.{Right}
use Rattle.tower_core.specs.TreeShape.{TreeShape, parent, IsUpper}
use Rattle.layer_laws.specs.Side.{Side, own_after, kid_after}
use Rattle.page_messages.specs.declared.paged.About.{About}
use Rattle.page_messages.proofs.NodeSets.{same_or_not}
use Rattle.coherency_layer.specs.declared.node.Node.{Node}
use Rattle.coherency_layer.specs.Node as layers
use Rattle.page_exchange.specs.declared.table.Table.{Table}
use Rattle.page_exchange.specs.Table.{IsLike, side}
use Rattle.page_exchange.specs.Exchange.{IsOwnChange, IsAboveChange}
use Rattle.page_exchange.specs.Moved.{HasTable, AreExchangedAt}

-- one page of a table that changed
page_new : (sides sides' : ℕ → ℕ → Side) (m page : ℕ) (old new : ℕ → Side) (f : Side → Side) → HasTable sides m old → HasTable sides' m new → new page ≡ f (old page) → sides' page m ≡ f (sides page m)
page_new sides sides' m page old new f was is c = is page ∙ c ∙ sym (ap f (was page))

page_like : (sides sides' : ℕ → ℕ → Side) (m page : ℕ) (old new : ℕ → Side) (f : Side → Side) → HasTable sides m old → HasTable sides' m new → IsLike (f (old page)) (new page) → IsLike (f (sides page m)) (sides' page m)
page_like sides sides' m page old new f was is c = subst (λ (s : Side). IsLike (f s) (sides' page m)) (sym (was page)) (subst (IsLike (f (old page))) (sym (is page)) c)

page_kept : (sides sides' : ℕ → ℕ → Side) (m p : ℕ) (old new : ℕ → Side) → HasTable sides m old → HasTable sides' m new → new p ≡ old p → sides' p m ≡ sides p m
page_kept sides sides' m p old new was is c = is p ∙ c ∙ sym (was p)

module _ (shape : TreeShape) (node page : ℕ) (right : Right) (down up : Option (List ℕ)) (sides sides' : ℕ → ℕ → Side) (own own' : Table) (listed : List ℕ)
    (own_was : HasTable sides node (side own)) (own_is : HasTable sides' node (side own')) (own_change : IsOwnChange own own' (About.Page page) right down listed) where
  module _ (above above' : Node) (above_was : HasTable sides (parent shape node) (layers.side above)) (above_is : HasTable sides' (parent shape node) (layers.side above')) (above_change : IsAboveChange above above' node (About.Page page) right up)
      (others : (p m : ℕ) → m ≢ node → m ≢ parent shape node → sides' p m ≡ sides p m) where
    pub exchanged_between : AreExchangedAt shape node page right down up sides sides'
    exchanged_between = record {
      own = page_like sides sides' node page (side own) (side own') (own_after right down) own_was own_is own_change.pages.here;
      above = λ uq. page_new sides sides' (parent shape node) page (layers.side above) (layers.side above') (kid_after node right up) above_was above_is above_change.pages.here;
      others = λ m d d'. others page m d d';
      pages = λ p m d. elim (same_or_not m node) [
        | inl e ↦ subst (λ (n : ℕ). sides' p n ≡ sides p n) (sym e) (page_kept sides sides' node p (side own) (side own') own_was own_is (own_change.pages.others p d))
        | inr n ↦ elim (same_or_not m (parent shape node)) [
          | inl e ↦ subst (λ (n : ℕ). sides' p n ≡ sides p n) (sym e) (page_kept sides sides' (parent shape node) p (layers.side above) (layers.side above') above_was above_is (above_change.pages.others p d))
          | inr n' ↦ others p m n n'
        ]
      ];
    }

  -- the ground has no table
  module _ (of_ground : parent shape node ≡ 0) (others : (p m : ℕ) → m ≢ node → sides' p m ≡ sides p m) where
    pub exchanged_with_ground : AreExchangedAt shape node page right down up sides sides'
    exchanged_with_ground = record {
      own = page_like sides sides' node page (side own) (side own') (own_after right down) own_was own_is own_change.pages.here;
      above = λ uq. absurd (no_ground uq);
      others = λ m d d'. others page m d;
      pages = λ p m d. elim (same_or_not m node) [
        | inl e ↦ subst (λ (n : ℕ). sides' p n ≡ sides p n) (sym e) (page_kept sides sides' node p (side own) (side own') own_was own_is (own_change.pages.others p d))
        | inr n ↦ others p m n
      ];
    }
      where
        no_ground : IsUpper shape (parent shape node) → ⊥
        no_ground uq = let a = uq.above in omega (arith, a, of_ground)
