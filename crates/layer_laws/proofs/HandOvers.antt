-- What a message about a node does to a page keeps the nodes' tables true.
use Rattle.std.proofs.Common.{◌≡◌, ◌≢◌, ℕ, ◌<◌, ◌⊎◌, inl, inr, sym, ◌∙◌, ap, subst, refl, arith, true, false, not, Bool, List, Option}
use Rattle.std.proofs.lemmas.Bool.{eq-eqb}
use Rattle.std.proofs.lemmas.Bool.Decides.{eqb_tells}
use Rattle.tower_core.specs.declared.right.Right.{Right}
use Rattle.tower_core.specs.TreeShape.{TreeShape, parent, IsUpper, IsChild, IsTree}
use Rattle.tower_core.specs.Column.{Column, updated, NoChildHolds, NoSiblingHolds}
use Rattle.tower_core.proofs.StepLaw.{updated-same, updated-other}
use Rattle.layer_laws.specs.Side.{Side, brought, marked}
use Rattle.layer_laws.specs.Shown.{AreRights, AreCopies, differs}
use Rattle.layer_laws.specs.Sent.{AreExchanged, IsPushed}

-- What a message about the node n does to a column: n has the right r then and shows place v, its parent w
pub record IsHandOver (shape : TreeShape) (col new : Column) (n : ℕ) (r : Right) (v w : ℕ) : Type 0 where
  pub right_same : new.right n ≡ r
  pub right_others : (m : ℕ) → m ≢ n → new.right m ≡ col.right m
  pub at_node : new.at n ≡ v
  pub at_above : new.at (parent shape n) ≡ w
  pub at_others : (m : ℕ) → m ≢ n → m ≢ parent shape n → new.at m ≡ col.at m
  -- a copy that is left shows what the parent's does
  pub mark : r ≢ Right.Nothing → v ≡ w
  -- nobody else looked at the parent's place, or at the node's
  pub siblings : (w ≡ col.at (parent shape n)) ⊎ NoSiblingHolds shape col n
  pub children : (v ≡ col.at n) ⊎ NoChildHolds shape col n

pub same_or_not : (m n : ℕ) → (m ≡ n) ⊎ (m ≢ n)
same_or_not m n = elim (eqb_tells m n) [ inl e ↦ inl e.1 | inr d ↦ inr d.1 ]

at_three : (P : ℕ → Type 0) (m n q : ℕ) → P n → P q → (m ≢ n → m ≢ q → P m) → P m
at_three P m n q pn pq other = elim (same_or_not m n) [
  | inl e ↦ subst P (sym e) pn
  | inr d ↦ elim (same_or_not m q) [ inl e ↦ subst P (sym e) pq | inr dq ↦ other d dq ]
]

pub differs-same : (a b : ℕ) → a ≡ b → differs a b ≡ false
differs-same a b e = ap not (eq-eqb a b e)

pub differs-other : (a b : ℕ) → a ≢ b → differs a b ≡ true
differs-other a b d = elim (eqb_tells a b) [ inl e ↦ absurd (d e.1) | inr n ↦ ap not n.0 ]

-- the rights
module _ (shape : TreeShape) (col new : Column) (n : ℕ) (r : Right) (v w : ℕ) (down up : Option (List ℕ))
    (sides sides' : ℕ → Side) (tree : IsTree shape) (un : IsUpper shape n)
    (h : IsHandOver shape col new n r v w) (msg : AreExchanged shape n r down up sides sides')
    (above_mark : (b : Bool) → IsUpper shape (parent shape n) → b ≡ differs (col.at (parent shape n)) (col.at (parent shape (parent shape n))) → marked up b ≡ differs w (col.at (parent shape (parent shape n))))
    (rights : AreRights shape col sides) where
  below : parent shape n < n
  below = tree.ordered n un

  q_not_n : parent shape n ≢ n
  q_not_n e = absurd (omega (arith, below, e))

  still : (m : ℕ) → m ≢ n → new.right m ≢ Right.Nothing → col.right m ≢ Right.Nothing
  still m d some = subst (λ (x : Right). x ≢ Right.Nothing) (h.right_others m d) some

  some_own : new.right n ≢ Right.Nothing → r ≢ Right.Nothing
  some_own some = subst (λ (x : Right). x ≢ Right.Nothing) h.right_same some

  right_is : (m : ℕ) → IsUpper shape m → (sides' m).right ≡ new.right m
  right_is m = at_three (λ k. IsUpper shape k → (sides' k).right ≡ new.right k) m n (parent shape n)
      (λ u. ap (λ (s : Side). s.right) msg.own ∙ sym h.right_same)
      (λ u. ap (λ (s : Side). s.right) (msg.above u) ∙ rights.right (parent shape n) u ∙ sym (h.right_others (parent shape n) q_not_n))
      (λ d dq u. ap (λ (s : Side). s.right) (msg.others m d dq) ∙ rights.right m u ∙ sym (h.right_others m d))

  -- what the parent of another node shows
  above_other : (m : ℕ) → IsUpper shape m → m ≢ n → col.right m ≢ Right.Nothing → new.at (parent shape m) ≡ col.at (parent shape m)
  above_other m um d some = elim (same_or_not (parent shape m) n) [
    | inl e ↦ elim h.children [
      | inl same ↦ ap new.at e ∙ h.at_node ∙ same ∙ sym (ap col.at e)
      | inr none ↦ absurd (some (none m (record { upper = um; hangs = e })))
    ]
    | inr dn ↦ elim (same_or_not (parent shape m) (parent shape n)) [
      | inl e ↦ elim h.siblings [
        | inl same ↦ ap new.at e ∙ h.at_above ∙ same ∙ sym (ap col.at e)
        | inr none ↦ absurd (some (none m (record { upper = um; hangs = e }) d))
      ]
      | inr dq ↦ h.at_others (parent shape m) dn dq
    ]
  ]

  grand : IsUpper shape (parent shape n) → new.at (parent shape (parent shape n)) ≡ col.at (parent shape (parent shape n))
  grand u =
      let lower : parent shape (parent shape n) < parent shape n = tree.ordered (parent shape n) u in
      h.at_others (parent shape (parent shape n)) (λ e. absurd (omega (arith, lower, below, e))) (λ e. absurd (omega (arith, lower, e)))

  changed_is : (m : ℕ) → IsUpper shape m → new.right m ≢ Right.Nothing → (sides' m).changed ≡ differs (new.at m) (new.at (parent shape m))
  changed_is m = at_three (λ k. IsUpper shape k → new.right k ≢ Right.Nothing → (sides' k).changed ≡ differs (new.at k) (new.at (parent shape k))) m n (parent shape n)
      (λ u some. ap (λ (s : Side). s.changed) msg.own ∙ sym (differs-same (new.at n) (new.at (parent shape n)) (h.at_node ∙ h.mark (some_own some) ∙ sym h.at_above)))
      (λ u some. ap (λ (s : Side). s.changed) (msg.above u)
      ∙ above_mark (sides (parent shape n)).changed u (rights.changed (parent shape n) u (still (parent shape n) q_not_n some))
      ∙ ap (λ (k : ℕ). differs w k) (sym (grand u)) ∙ ap (λ (k : ℕ). differs k (new.at (parent shape (parent shape n)))) (sym h.at_above))
      (λ d dq u some. ap (λ (s : Side). s.changed) (msg.others m d dq) ∙ rights.changed m u (still m d some)
      ∙ ap (λ (k : ℕ). differs k (col.at (parent shape m))) (sym (h.at_others m d dq))
      ∙ ap (λ (k : ℕ). differs (new.at m) k) (sym (above_other m u d (still m d some))))

  not_itself : (k c : ℕ) → IsChild shape c k → k ≢ parent shape n → c ≢ n
  not_itself k c ic d e = d (sym ic.hangs ∙ ap (parent shape) e)

  kids_is : (m c : ℕ) → IsUpper shape m → IsChild shape c m → (sides' m).kids c ≡ new.right c
  kids_is m c = at_three (λ k. IsUpper shape k → IsChild shape c k → (sides' k).kids c ≡ new.right c) m n (parent shape n)
      (λ u ic. ap (λ (s : Side). s.kids c) msg.own ∙ rights.kids n c u ic ∙ sym (h.right_others c (not_itself n c ic (λ e. q_not_n (sym e)))))
      (λ u ic. ap (λ (s : Side). s.kids c) (msg.above u) ∙ elim (same_or_not c n) [
        | inl e ↦ subst (λ (k : ℕ). updated (sides (parent shape n)).kids n r k ≡ new.right k) (sym e) (updated-same (sides (parent shape n)).kids n r ∙ sym h.right_same)
        | inr d ↦ updated-other (sides (parent shape n)).kids n r c d ∙ rights.kids (parent shape n) c u ic ∙ sym (h.right_others c d)
      ])
      (λ d dq u ic. ap (λ (s : Side). s.kids c) (msg.others m d dq) ∙ rights.kids m c u ic ∙ sym (h.right_others c (not_itself m c ic dq)))

  strays_is : (m c : ℕ) → IsUpper shape m → (sides' m).kids c ≢ Right.Nothing → IsChild shape c m
  strays_is m c = at_three (λ k. IsUpper shape k → (sides' k).kids c ≢ Right.Nothing → IsChild shape c k) m n (parent shape n)
      (λ u some. rights.strays n c u (subst (λ (s : Side). s.kids c ≢ Right.Nothing) msg.own some))
      (λ u some. elim (same_or_not c n) [
        | inl e ↦ subst (λ (k : ℕ). IsChild shape k (parent shape n)) (sym e) (record { upper = un; hangs = refl })
        | inr d ↦ rights.strays (parent shape n) c u (λ e. some (ap (λ (s : Side). s.kids c) (msg.above u) ∙ updated-other (sides (parent shape n)).kids n r c d ∙ e))
      ])
      (λ d dq u some. rights.strays m c u (subst (λ (s : Side). s.kids c ≢ Right.Nothing) (msg.others m d dq) some))

  pub rights_keep : AreRights shape new sides'
  rights_keep = record { right = right_is; changed = changed_is; kids = kids_is; strays = strays_is }

-- the bytes
module _ (shape : TreeShape) (col new : Column) (content : ℕ → List ℕ) (n : ℕ) (r : Right) (v w : ℕ) (down up : Option (List ℕ))
    (sides sides' : ℕ → Side) (base base' : List ℕ) (tree : IsTree shape) (un : IsUpper shape n)
    (h : IsHandOver shape col new n r v w) (msg : AreExchanged shape n r down up sides sides') (ground : IsPushed shape n up base base')
    (own_copy : r ≢ Right.Nothing → brought down (sides n).copy ≡ content v)
    (above_copy : (old : List ℕ) → old ≡ content (col.at (parent shape n)) → brought up old ≡ content w)
    (copies : AreCopies shape col content sides base) where
  parent_below : parent shape n < n
  parent_below = tree.ordered n un

  the_q_not_n : parent shape n ≢ n
  the_q_not_n e = absurd (omega (arith, parent_below, e))

  the_still : (m : ℕ) → m ≢ n → new.right m ≢ Right.Nothing → col.right m ≢ Right.Nothing
  the_still m d some = subst (λ (x : Right). x ≢ Right.Nothing) (h.right_others m d) some

  the_some_own : new.right n ≢ Right.Nothing → r ≢ Right.Nothing
  the_some_own some = subst (λ (x : Right). x ≢ Right.Nothing) h.right_same some

  copy_is : (m : ℕ) → IsUpper shape m → new.right m ≢ Right.Nothing → (sides' m).copy ≡ content (new.at m)
  copy_is m = at_three (λ k. IsUpper shape k → new.right k ≢ Right.Nothing → (sides' k).copy ≡ content (new.at k)) m n (parent shape n)
      (λ u some. ap (λ (s : Side). s.copy) msg.own ∙ own_copy (the_some_own some) ∙ sym (ap content h.at_node))
      (λ u some. ap (λ (s : Side). s.copy) (msg.above u) ∙ above_copy (sides (parent shape n)).copy (copies.copy (parent shape n) u (the_still (parent shape n) the_q_not_n some)) ∙ sym (ap content h.at_above))
      (λ d dq u some. ap (λ (s : Side). s.copy) (msg.others m d dq) ∙ copies.copy m u (the_still m d some) ∙ sym (ap content (h.at_others m d dq)))

  ground_is : base' ≡ content (new.at 0)
  ground_is = elim (same_or_not (parent shape n) 0) [
    | inl e ↦ ground.to_ground e ∙ above_copy base (copies.ground ∙ ap (λ (k : ℕ). content (col.at k)) (sym e)) ∙ sym (ap content h.at_above) ∙ ap (λ (k : ℕ). content (new.at k)) e
    | inr d ↦ ground.to_node (omega (arith, d)) ∙ copies.ground ∙ sym (ap content (h.at_others 0 (λ e. absurd (omega (arith, e, un.above))) (λ e. d (sym e))))
  ]

  pub copies_keep : AreCopies shape new content sides' base'
  copies_keep = record { copy = copy_is; ground = ground_is }
