-- Tables filled node by node.
use Rattle.std.proofs.Common.{◌≡◌, ◌≢◌, ℕ, ◌+◌, ◌<◌, ◌≤◌, inl, inr, sym, ◌∙◌, ap, subst, refl, arith, Bool, true, false, ◌||◌, List, length, get_or, replicate}
use Rattle.std.proofs.Math.ListN.{set}
use Rattle.std.proofs.lemmas.List.{get_or-set_same, get_or-replicate}
use Rattle.tower_core.specs.TreeShape.{TreeShape, parent, nodes, is_within, IsUpper, IsTree}
use Rattle.tower_core.proofs.Paths.{is_within-same, is_within-ground, is_within-parent, ground_on_path}
use Rattle.tower_core.proofs.Flags.{set_other}
use Rattle.tower_plan.proofs.Rules.{same_or_not}

-- one more number in its place, which keeps its bound
pub filled_low : (xs : List ℕ) (i v : ℕ) → i < length xs → v ≤ i → ((n : ℕ) → n < i → get_or xs n 0 ≤ n) → (n : ℕ) → n < i + 1 → get_or (set xs i v) n 0 ≤ n
filled_low xs i v inside is done n lt = elim (same_or_not n i) [
  | inl same ↦ subst (λ m. get_or (set xs i v) m 0 ≤ m) (sym same) (omega (arith, get_or-set_same xs i v 0 inside))
  | inr other ↦ omega (arith, set_other xs i n v 0 other, done n (omega arith))
]

or_false : (b : Bool) → (b || false) ≡ b
or_false true = refl
or_false false = refl

or_true : (b : Bool) → (b || true) ≡ true
or_true true = refl
or_true false = refl

pub no_flag : (n : ℕ) (b : Bool) → n < 32 → (get_or (replicate 32 false) n false || b) ≡ b
no_flag n b lt = rw (get_or-replicate 32 n false false lt) refl

module _ (shape : TreeShape) (tree : IsTree shape) (on : List Bool) (at node : ℕ) (long : length on ≡ 32) (few : nodes shape ≤ 32) (inside : at < nodes shape) (done : (n : ℕ) → n < nodes shape → (get_or on n false || is_within shape at n) ≡ is_within shape node n) where
  -- the path below the node that is marked next
  pub path_up : at ≢ 0 → (n : ℕ) → n < nodes shape → (get_or (set on at true) n false || is_within shape (parent shape at) n) ≡ is_within shape node n
  path_up d n lt = elim (same_or_not n at) [
    | inl same ↦ subst (λ m. (get_or (set on at true) m false || is_within shape (parent shape at) m) ≡ is_within shape node m) (sym same) here
    | inr other ↦
        let un : IsUpper shape at = record { above = omega arith; inside = inside } in
        ap (λ b. b || is_within shape (parent shape at) n) (set_other on at n true false other)
        ∙ ap (λ b. get_or on n false || b) (sym (is_within-parent shape at n tree un (λ e. other (sym e))))
        ∙ done n lt
  ]
    where
      here : (get_or (set on at true) at false || is_within shape (parent shape at) at) ≡ is_within shape node at
      here = rw (get_or-set_same on at true false (omega arith)) (sym (or_true (get_or on at false)) ∙ ap (λ b. get_or on at false || b) (sym (is_within-same shape at at refl)) ∙ done at inside)

  -- and its end
  pub path_end : at ≡ 0 → node < nodes shape → (n : ℕ) → n < nodes shape → get_or (set on 0 true) n false ≡ is_within shape node n
  path_end z whole n lt = elim (same_or_not n 0) [
    | inl same ↦ subst (λ m. get_or (set on 0 true) m false ≡ is_within shape node m) (sym same)
        (get_or-set_same on 0 true false (omega arith) ∙ sym (ground_on_path shape tree node whole))
    | inr other ↦
        set_other on 0 n true false other
        ∙ sym (or_false (get_or on n false))
        ∙ ap (λ b. get_or on n false || b) (sym (subst (λ m. is_within shape m n ≡ false) (sym z) (is_within-ground shape n (λ e. other (sym e)))))
        ∙ done n lt
  ]
