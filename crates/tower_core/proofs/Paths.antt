-- Going up from a node to the ground.
use Rattle.std.proofs.Common.{◌≡◌, ◌≢◌, ℕ, suc, zero, ◌<◌, ◌≤◌, ◌⊎◌, inl, inr, sym, ◌∙◌, ap, subst, refl, arith, Bool, true, false, cond, eqb}
use Rattle.std.proofs.lemmas.Bool.{eq-eqb, false≢true}
use Rattle.std.proofs.lemmas.List.{get_or_past}
use Rattle.std.proofs.lemmas.Bool.Decides.{nat_tests}
use Rattle.hist_plain.specs.Plain.{reaches}
use Rattle.tower_core.specs.TreeShape.{TreeShape, parent, nodes, is_within, IsUpper, IsChild, IsTree}

ground_reaches : (shape : TreeShape) (steps top : ℕ) → IsTree shape → reaches steps shape.parents 0 top ≡ eqb 0 top
ground_reaches shape zero top tree = refl
ground_reaches shape (suc steps) top tree = rw tree.ground (rw (ground_reaches shape steps top tree) (or_same (eqb 0 top)))
  where
    or_same : (b : Bool) → cond b true b ≡ b
    or_same true = refl
    or_same false = refl

-- any number of steps that is enough gives the same
enough : (shape : TreeShape) (k j node top : ℕ) → IsTree shape → node < nodes shape → node ≤ k → node ≤ j → reaches k shape.parents node top ≡ reaches j shape.parents node top
enough shape k j zero top tree inside hk hj = ground_reaches shape k top tree ∙ sym (ground_reaches shape j top tree)
enough shape zero j (suc n) top tree inside hk hj = absurd (omega arith)
enough shape (suc k) zero (suc n) top tree inside hk hj = absurd (omega arith)
enough shape (suc k) (suc j) (suc n) top tree inside hk hj =
    let below : parent shape (suc n) < suc n = tree.ordered (suc n) (record { above = omega arith; inside = inside }) in
    ap (λ b. cond (eqb (suc n) top) true b) (enough shape k j (parent shape (suc n)) top tree (omega arith) (omega arith) (omega arith))

pub is_within-same : (shape : TreeShape) (node top : ℕ) → node ≡ top → is_within shape node top ≡ true
is_within-same shape zero top e = eq-eqb 0 top e
is_within-same shape (suc n) top e = rw (eq-eqb (suc n) top e) refl

pub is_within-ground : (shape : TreeShape) (top : ℕ) → 0 ≢ top → is_within shape 0 top ≡ false
is_within-ground shape top d = grind (arith, nat_tests)

pub is_within-parent : (shape : TreeShape) (node top : ℕ) → IsTree shape → IsUpper shape node → node ≢ top → is_within shape node top ≡ is_within shape (parent shape node) top
is_within-parent shape zero top tree un d = absurd (omega (arith, un.above))
is_within-parent shape (suc n) top tree un d =
    let below : parent shape (suc n) < suc n = tree.ordered (suc n) un in
    let no : eqb (suc n) top ≡ false = grind (arith, nat_tests) in
    rw no (enough shape n (parent shape (suc n)) (parent shape (suc n)) top tree (omega (arith, un.inside)) (omega arith) (omega arith))

-- no node beyond the tree is of a subtree other than the ground's
pub is_within-beyond : (shape : TreeShape) (node top : ℕ) → IsTree shape → nodes shape ≤ node → IsUpper shape top → is_within shape node top ≡ false
is_within-beyond shape zero top tree beyond upper = absurd (omega (arith, tree.grounded))
is_within-beyond shape (suc n) top tree beyond upper =
    let no : eqb (suc n) top ≡ false = grind (arith, nat_tests, upper.inside) in
    let ground : parent shape (suc n) ≡ 0 = get_or_past shape.parents (suc n) 0 beyond in
    let low : eqb 0 top ≡ false = grind (arith, nat_tests, upper.above) in
    rw no (rw ground (ground_reaches shape n top tree ∙ low))

-- the path of a node, by what is on it

same_or_not : (a b : ℕ) → (a ≡ b) ⊎ (a ≢ b)
same_or_not a b = grind arith

ground_is_first : (shape : TreeShape) (top : ℕ) → is_within shape 0 top ≡ true → top ≡ 0
ground_is_first shape top on = elim (same_or_not 0 top) [ inl same ↦ sym same | inr d ↦ absurd (false≢true (sym (is_within-ground shape top d) ∙ on)) ]

-- a node whose path has another top is no ground
pub above_other : (shape : TreeShape) (node top : ℕ) → node ≢ top → is_within shape node top ≡ true → 0 < node
above_other shape zero top d on = absurd (d (sym (ground_is_first shape top on)))
above_other shape (suc n) top d on = omega arith

module _ (shape : TreeShape) (tree : IsTree shape) where
  -- what is on the parent's path is on the node's
  pub up : (node top : ℕ) → IsUpper shape node → is_within shape (parent shape node) top ≡ true → is_within shape node top ≡ true
  up node top un on = elim (same_or_not node top) [
    | inl same ↦ is_within-same shape node top same
    | inr d ↦ is_within-parent shape node top tree un d ∙ on
  ]

  -- what is on the node's path is the node or on its parent's
  pub down : (node top : ℕ) → IsUpper shape node → node ≢ top → is_within shape node top ≡ true → is_within shape (parent shape node) top ≡ true
  down node top un d on = sym (is_within-parent shape node top tree un d) ∙ on

  ground_on_path_within : (k node : ℕ) → node < k → node < nodes shape → is_within shape node 0 ≡ true
  ground_on_path_within zero node h inside = absurd (omega arith)
  ground_on_path_within (suc k) zero h inside = is_within-same shape 0 0 refl
  ground_on_path_within (suc k) (suc n) h inside =
      let un : IsUpper shape (suc n) = record { above = omega arith; inside = inside } in
      let below : parent shape (suc n) < suc n = tree.ordered (suc n) un in
      up (suc n) 0 un (ground_on_path_within k (parent shape (suc n)) (omega arith) (omega arith))

  -- the ground is on each path
  pub ground_on_path : (node : ℕ) → node < nodes shape → is_within shape node 0 ≡ true
  ground_on_path node inside = ground_on_path_within (suc node) node (omega arith) inside

  parent_on_path_within : (k node c : ℕ) → node < k → node < nodes shape → IsUpper shape c → is_within shape node c ≡ true → is_within shape node (parent shape c) ≡ true
  parent_on_path_within zero node c h inside uc on = absurd (omega arith)
  parent_on_path_within (suc k) node c h inside uc on = elim (same_or_not node c) [
    | inl same ↦ subst (λ n. is_within shape n (parent shape c) ≡ true) (sym same) (up c (parent shape c) uc (is_within-same shape (parent shape c) (parent shape c) refl))
    | inr d ↦
        let un : IsUpper shape node = record { above = above_other shape node c d on; inside = inside } in
        let below : parent shape node < node = tree.ordered node un in
        up node (parent shape c) un (parent_on_path_within k (parent shape node) c (omega arith) (omega arith) uc (down node c un d on))
  ]

  -- with a node its parent is on the path
  pub parent_on_path : (node c : ℕ) → node < nodes shape → IsUpper shape c → is_within shape node c ≡ true → is_within shape node (parent shape c) ≡ true
  parent_on_path node c inside uc on = parent_on_path_within (suc node) node c (omega arith) inside uc on

  le_on_path_within : (k node c : ℕ) → node < k → node < nodes shape → is_within shape node c ≡ true → c ≤ node
  le_on_path_within zero node c h inside on = absurd (omega arith)
  le_on_path_within (suc k) node c h inside on = elim (same_or_not node c) [
    | inl same ↦ omega arith
    | inr d ↦
        let un : IsUpper shape node = record { above = above_other shape node c d on; inside = inside } in
        let below : parent shape node < node = tree.ordered node un in
        omega (arith, le_on_path_within k (parent shape node) c (omega arith) (omega arith) (down node c un d on))
  ]

  -- no node on the path has a greater number
  pub le_on_path : (node c : ℕ) → node < nodes shape → is_within shape node c ≡ true → c ≤ node
  le_on_path node c inside on = le_on_path_within (suc node) node c (omega arith) inside on

  child_on_path_within : (k node c : ℕ) → node < k → node < nodes shape → node ≢ c → is_within shape node c ≡ true → (d : ℕ) × IsChild shape d c × (is_within shape node d ≡ true)
  child_on_path_within zero node c h inside d on = absurd (omega arith)
  child_on_path_within (suc k) node c h inside d on =
      let un : IsUpper shape node = record { above = above_other shape node c d on; inside = inside } in
      let below : parent shape node < node = tree.ordered node un in
      elim (same_or_not (parent shape node) c) [
        | inl same ↦ (node, record { upper = un; hangs = same }, is_within-same shape node node refl)
        | inr e ↦
            let low = child_on_path_within k (parent shape node) c (omega arith) (omega arith) e (down node c un d on) in
            (low.0, low.1, up node low.0 un low.2)
      ]

  -- below a node of the path other than its end there is a child on the path
  pub child_on_path : (node c : ℕ) → node < nodes shape → node ≢ c → is_within shape node c ≡ true → (d : ℕ) × IsChild shape d c × (is_within shape node d ≡ true)
  child_on_path node c inside d on = child_on_path_within (suc node) node c (omega arith) inside d on

  -- of two children of one node, where one is the path's end the other is not on it
  end_alone : (c d : ℕ) → IsUpper shape c → IsUpper shape d → parent shape c ≡ parent shape d → is_within shape c d ≡ true → c ≡ d
  end_alone c d uc ud same on = elim (same_or_not c d) [
    | inl e ↦ e
    | inr e ↦
        let low = le_on_path (parent shape c) d (omega (arith, tree.ordered c uc, uc.inside)) (down c d uc e on) in
        absurd (omega (arith, tree.ordered d ud))
  ]

  one_child_within : (k node c d : ℕ) → node < k → node < nodes shape → IsUpper shape c → IsUpper shape d → parent shape c ≡ parent shape d → is_within shape node c ≡ true → is_within shape node d ≡ true → c ≡ d
  one_child_within zero node c d h inside uc ud same onc ond = absurd (omega arith)
  one_child_within (suc k) node c d h inside uc ud same onc ond = elim (same_or_not node c) [
    | inl e ↦ end_alone c d uc ud same (subst (λ n. is_within shape n d ≡ true) e ond)
    | inr e ↦ elim (same_or_not node d) [
      | inl f ↦ sym (end_alone d c ud uc (sym same) (subst (λ n. is_within shape n c ≡ true) f onc))
      | inr f ↦
          let un : IsUpper shape node = record { above = above_other shape node c e onc; inside = inside } in
          let below : parent shape node < node = tree.ordered node un in
          one_child_within k (parent shape node) c d (omega arith) (omega arith) uc ud same (down node c un e onc) (down node d un f ond)
    ]
  ]

  -- a node has at most one child on the path
  pub one_child_on_path : (node c d : ℕ) → node < nodes shape → IsUpper shape c → IsUpper shape d → parent shape c ≡ parent shape d → is_within shape node c ≡ true → is_within shape node d ≡ true → c ≡ d
  one_child_on_path node c d inside uc ud same onc ond = one_child_within (suc node) node c d (omega arith) inside uc ud same onc ond
