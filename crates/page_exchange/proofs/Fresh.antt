-- The children of a node in a list of numbers, and a list of fresh tables.
use Rattle.std.specs.Prelude.{◌↔◌, slice_get}
use Rattle.std.proofs.Common.{◌≡◌, ◌≢◌, ◌⊎◌, ℕ, zero, suc, refl, All, ◌+◌, ◌<◌, ◌≤◌, inl, inr, sym, ◌∙◌, ap, subst, arith, List, [], ◌∷◌, ◌++◌, Contains, length, Option, Some}
use Rattle.std.proofs.lemmas.List.Elements.{All-push, Contains-push, Contains-push_cases, Contains-append_left}
use Rattle.std.proofs.lemmas.Option.{slice_get_cases}
use Rattle.tower_core.specs.TreeShape as trees
use Rattle.tower_core.specs.TreeShape.{TreeShape, parent, nodes, IsTree, IsUpper, IsChild}
use Rattle.page_messages.specs.declared.paged.PagedFile.{PagedFile}
use Rattle.page_messages.proofs.NodeSets.{same_or_not}
use Rattle.std.specs.Int.{bit_at}
use Rattle.std.proofs.lemmas.Nat.Bits.{bit_at-zero}
use Rattle.tower_core.specs.declared.right.Right.{Right}
use Rattle.layer_laws.specs.Side.{Side}
use Rattle.page_messages.specs.Rules.{NoKidHolds}
use Rattle.coherency_layer.specs.declared.node.Node.{Node}
use Rattle.coherency_layer.specs.Node as layers
use Rattle.page_messages.specs.Seen.{no_side}
use Rattle.vmm_cache.specs.declared.leaf.Leaf.{Leaf as LeafTable}
use Rattle.vmm_cache.specs.Leaf as leaves
use Rattle.page_exchange.specs.declared.table.Table.{Table}
use Rattle.page_exchange.specs.declared.table.Table.TheVariants.{Layer, Leaf}
use Rattle.layer_laws.specs.Tables.{AreBare}
use Rattle.page_exchange.specs.Listed.{side_seen, sides_in, uses_seen, uses_in, IsTableOf, IsFresh}

module _ (shape : TreeShape) (node : ℕ) (xs : List ℕ) (k : ℕ) (are : (child : ℕ) → Contains xs child ↔ (IsChild shape child node × (child < k))) where
  pushed : IsUpper shape k → parent shape k ≡ node → (child : ℕ) → Contains (xs ++ k ∷ []) child ↔ (IsChild shape child node × (child < k + 1))
  pushed upper hangs child = (
    λ has. elim (Contains-push_cases xs k child has) [
      | inl before ↦ let t = (are child).0 before in (t.0, omega (arith, t.1))
      | inr same ↦ subst (λ (c : ℕ). IsChild shape c node × (c < k + 1)) same (record { upper = upper; hangs = hangs }, omega arith)
    ],
    λ t. elim (same_or_not child k) [
      | inl same ↦ subst (λ (c : ℕ). Contains (xs ++ k ∷ []) c) (sym same) (Contains-push xs k)
      | inr other ↦ Contains-append_left xs (k ∷ []) child ((are child).1 (t.0, omega (arith, t.1, other)))
    ],
  )

  passed : parent shape k ≢ node → (child : ℕ) → Contains xs child ↔ (IsChild shape child node × (child < k + 1))
  passed other_parent child = (
    λ has. let t = (are child).0 has in (t.0, omega (arith, t.1)),
    λ t. elim (same_or_not child k) [
      | inl same ↦ absurd (other_parent (subst (λ (c : ℕ). parent shape c ≡ node) same t.0.hangs))
      | inr other ↦ (are child).1 (t.0, omega (arith, t.1, other))
    ],
  )

  -- the next number is one of a child, or not
  pub one_child : (ys : List ℕ) → ys ≡ xs ++ k ∷ [] → IsUpper shape k → parent shape k ≡ node → (child : ℕ) → Contains ys child ↔ (IsChild shape child node × (child < k + 1))
  one_child ys e upper hangs = subst (λ (l : List ℕ). (child : ℕ) → Contains l child ↔ (IsChild shape child node × (child < k + 1))) (sym e) (pushed upper hangs)

  pub no_child : (ys : List ℕ) → ys ≡ xs → parent shape k ≢ node → (child : ℕ) → Contains ys child ↔ (IsChild shape child node × (child < k + 1))
  no_child ys e other = subst (λ (l : List ℕ). (child : ℕ) → Contains l child ↔ (IsChild shape child node × (child < k + 1))) (sym e) (passed other)

  pub all_children : nodes shape ≤ k → (child : ℕ) → Contains xs child ↔ IsChild shape child node
  all_children past child = (λ has. ((are child).0 has).0, λ is. (are child).1 (is, let i = is.upper.inside in omega (arith, i, past)))

pub few_pushed : (xs ys : List ℕ) (k : ℕ) → ys ≡ xs ++ k ∷ [] → All (λ child. child < 32) xs → k < 32 → All (λ child. child < 32) ys
few_pushed xs ys k e few last = subst (λ (l : List ℕ). All (λ child. child < 32) l) (sym e) (All-push (λ child. child < 32) xs k few last)

-- a list with one table more
pushed_get : (xs : List Table) (x : Table) (i : ℕ) (y : Table) → slice_get (xs ++ x ∷ []) i ≡ Some y → (slice_get xs i ≡ Some y) ⊎ ((i ≡ length xs) × (x ≡ y))
pushed_get [] x zero y e = inr (refl, let same : x ≡ y = cc in same)
pushed_get [] x (suc i) y e = absurd cc
pushed_get (z ∷ xs) x zero y e = inl e
pushed_get (z ∷ xs) x (suc i) y e = elim (pushed_get xs x i y e) [
  | inl before ↦ inl before
  | inr last ↦ inr (ap (λ n. suc n) last.0, last.1)
]

pub one_table : (shape : TreeShape) (file : PagedFile) (xs ys : List Table) (x : Table) (k : ℕ) → ys ≡ xs ++ x ∷ [] → length xs ≡ k
    → ((number : ℕ) (table : Table) → slice_get xs number ≡ Some table → IsTableOf shape file number table) → IsTableOf shape file k x
    → (number : ℕ) (table : Table) → slice_get ys number ≡ Some table → IsTableOf shape file number table
one_table shape file xs ys x k e long each last number table is =
    elim (pushed_get xs x number table (subst (λ (l : List Table). slice_get l number ≡ Some table) e is)) [
      | inl before ↦ each number table before
      | inr end ↦ subst (λ (t : Table). IsTableOf shape file number t) end.1 (subst (λ (n : ℕ). IsTableOf shape file n x) (sym (end.0 ∙ long)) last)
    ]

-- a fresh layer has the children that its list had
pub layer_of : (shape : TreeShape) (file : PagedFile) (number : ℕ) (node : Node) (xs : List ℕ) → layers.file_of node ≡ file → ((child : ℕ) → layers.HasChild node child ↔ Contains xs child)
    → ((child : ℕ) → Contains xs child ↔ IsChild shape child number) → trees.frames_of shape number ≡ 0 → IsTableOf shape file number (Layer node)
layer_of shape file number node xs file_is has are none = record {
  file_is = file_is;
  children = λ child upper. ((λ h. (are child).0 ((has child).0 h)), (λ i. (has child).1 ((are child).1 i)));
  frames = sym none;
  layer = λ z. refl;
}

-- nothing stands on a fresh leaf
pub leaf_of : (shape : TreeShape) (file : PagedFile) (number : ℕ) (leaf : LeafTable) → leaves.file_of leaf ≡ file → leaves.frames_of leaf ≡ trees.frames_of shape number → trees.frames_of shape number ≢ 0 → IsTree shape → IsTableOf shape file number (Leaf leaf)
leaf_of shape file number leaf file_is frames some tree = record {
  file_is = file_is;
  children = λ child upper. ((λ h. absurd (let z : bit_at 0 child ≡ 0 = bit_at-zero child in omega (arith, h.1, z))), (λ i. absurd (some (tree.leaves child number i))));
  frames = frames;
  layer = λ none. absurd (some none);
}

pub fresh_layer : (node : Node) → ((page : ℕ) → (layers.side node page).right ≡ Right.Nothing) → ((page : ℕ) → NoKidHolds (layers.side node page)) → IsFresh (Layer node)
fresh_layer node right kids = record { right = right; kids = kids; uses = refl }

pub fresh_leaf : (leaf : LeafTable) → ((page : ℕ) → leaves.side leaf page ≡ no_side) → leaves.uses_of leaf ≡ [] → IsFresh (Leaf leaf)
fresh_leaf leaf bare uses = record {
  right = λ page. ap (λ (s : Side). s.right) (bare page);
  kids = λ page child. ap (λ (s : Side). s.kids child) (bare page);
  uses = uses;
}

-- no leaf used a page
pub none_used : (xs : List Table) → All IsFresh xs → (node : ℕ) → uses_in xs node ≡ []
none_used xs fresh node = elim (slice_get_cases xs node).1 [
  | inl t ↦ ap uses_seen t.2 ∙ (subst IsFresh t.3 (fresh node t.0 t.1)).uses
  | inr t ↦ ap uses_seen t.1
]

-- nobody has anything in fresh tables
pub all_bare : (xs : List Table) → All IsFresh xs → AreBare (sides_in xs)
all_bare xs fresh = record {
  right = λ page node. elim (slice_get_cases xs node).1 [
    | inl t ↦ ap (λ (o : Option Table). (side_seen o page).right) t.2 ∙ (subst IsFresh t.3 (fresh node t.0 t.1)).right page
    | inr t ↦ ap (λ (o : Option Table). (side_seen o page).right) t.1
  ];
  kids = λ page node child. elim (slice_get_cases xs node).1 [
    | inl t ↦ ap (λ (o : Option Table). (side_seen o page).kids child) t.2 ∙ (subst IsFresh t.3 (fresh node t.0 t.1)).kids page child
    | inr t ↦ ap (λ (o : Option Table). (side_seen o page).kids child) t.1
  ];
}
