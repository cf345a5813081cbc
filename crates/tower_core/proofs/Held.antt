-- The kept counts of held pages.
use Rattle.std.proofs.Common.{◌≡◌, ◌≢◌, ℕ, suc, zero, ◌+◌, ◌<◌, ◌≤◌, inl, inr, sym, subst, ◌∙◌, ap, refl, arith, Bool, true, false, cond, List, length, length-set, Some, All}
use Rattle.std.specs.Int.{from_bool}
use Rattle.std.proofs.Math.Nat.{le_trans}
use Rattle.std.specs.List.{slice_get, slice_index}
use Rattle.std.proofs.Math.ListN.{set}
use Rattle.tower_core.specs.declared.page.Page.{Page}
use Rattle.tower_core.specs.declared.right.Right.{Right}
use Rattle.tower_core.specs.declared.step.Step.{Step}
use Rattle.tower_core.specs.declared.step.Step.TheVariants.{Untouched, Reads, Writes, Grants, PagesOut, Denies, Pushes, Flushes, Deletes}
use Rattle.tower_core.specs.Column.{right_after, node_of_step, IsStepOf}
use Rattle.tower_core.specs.TreeShape.{TreeShape, nodes}
use Rattle.tower_core.specs.Count.{count_below}
use Rattle.tower_core.specs.Page.{page_column, column_seen, held_in, IsFresh, IsHeldCounted}
use Rattle.tower_core.specs.Trail.{State, holds, held_below, HoldsNothing}
use Rattle.tower_core.proofs.Counts.{count_below-same, count_below-none, count_below-zero}
use Rattle.tower_core.proofs.Ranks.{same_or_not}
use Rattle.tower_core.proofs.StepLaw.{updated-other}
use Rattle.tower_core.proofs.Steps.{slice_get-set_same, slice_get-set_other, fresh_columns}
use Rattle.tower_core.proofs.Trails.{start_nothing}

-- a node holds nothing where its count is 0

no_right : (r : Right) → holds r ≡ false → r ≡ Right.Nothing
no_right Right.Nothing e = refl
no_right Right.Read e = absurd cc
no_right Right.Write e = absurd cc

pub none_held : (s : State) (node pages : ℕ) → held_below s node pages ≡ 0 → HoldsNothing pages s node
none_held s node pages e page inside = no_right ((s.column page).right node) (count_below-none (λ p. holds ((s.column p).right node)) pages e page inside)

pub held_none : (s : State) (node pages : ℕ) → HoldsNothing pages s node → held_below s node pages ≡ 0
held_none s node pages none = count_below-zero (λ p. holds ((s.column p).right node)) pages (λ page inside. ap holds (none page inside))

-- counts, and one number that passes or not

tally : (b : Bool) (n : ℕ) → cond b (n + 1) n ≡ n + from_bool b
tally true n = refl
tally false n = omega arith

pub count_below-swap : (f g : ℕ → Bool) (m k : ℕ) → m < k → ((n : ℕ) → n < k → n ≢ m → g n ≡ f n) → count_below g k + from_bool (f m) ≡ count_below f k + from_bool (g m)
count_below-swap f g m zero h same = absurd (omega arith)
count_below-swap f g m (suc k) h same = elim (same_or_not m k) [
  | inl e ↦
      let lower : count_below g k ≡ count_below f k = count_below-same f g k (λ n lt. same n (omega arith) (omega arith)) in
      rw e (omega (arith, lower, tally (f k) (count_below f k), tally (g k) (count_below g k)))
  | inr d ↦
      let lower = count_below-swap f g m k (omega arith) (λ n lt ne. same n (omega arith) ne) in
      let top : from_bool (g k) ≡ from_bool (f k) = ap from_bool (same k (omega arith) (λ e. d (sym e))) in
      omega (arith, lower, top, tally (f k) (count_below f k), tally (g k) (count_below g k))
]

flag_le : (b : Bool) → from_bool b ≤ 1
flag_le true = omega arith
flag_le false = omega arith

pub count_below-le : (f : ℕ → Bool) (k : ℕ) → count_below f k ≤ k
count_below-le f zero = omega arith
count_below-le f (suc k) = omega (arith, count_below-le f k, tally (f k) (count_below f k), flag_le (f k))

pub count_below-has : (f : ℕ → Bool) (m k : ℕ) → m < k → from_bool (f m) ≤ count_below f k
count_below-has f m zero h = absurd (omega arith)
count_below-has f m (suc k) h = elim (same_or_not m k) [
  | inl e ↦ rw e (omega (arith, tally (f k) (count_below f k)))
  | inr d ↦ omega (arith, count_below-has f m k (omega arith), tally (f k) (count_below f k))
]

-- one page of the list is another

abbrev held_at : List Page → ℕ → ℕ → Bool
held_at pages node page = holds ((column_seen (slice_get pages page)).right node)

module _ (xs : List Page) (k : ℕ) (old new : Page) (was : slice_get xs k ≡ Some old) (inside : k < length xs) where
  before_at : (node : ℕ) → held_at xs node k ≡ holds ((page_column old).right node)
  before_at node = ap (λ o. holds ((column_seen o).right node)) was

  after_at : (node : ℕ) → held_at (set xs k new) node k ≡ holds ((page_column new).right node)
  after_at node = ap (λ o. holds ((column_seen o).right node)) (slice_get-set_same xs k new inside)

  -- the count goes from what the node had to what it has
  pub held_in-set : (node : ℕ) → held_in (set xs k new) node + from_bool (holds ((page_column old).right node)) ≡ held_in xs node + from_bool (holds ((page_column new).right node))
  held_in-set node =
      let swap = count_below-swap (held_at xs node) (held_at (set xs k new) node) k (length xs) inside
      (λ p lt d. ap (λ o. holds ((column_seen o).right node)) (slice_get-set_other xs k p new d)) in
      rw length-set (rw (← before_at node) (rw (← after_at node) swap))

  pub held_in-low : (node : ℕ) → held_in xs node ≤ length xs
  held_in-low node = count_below-le (held_at xs node) (length xs)

  pub held_in-has : (node : ℕ) → from_bool (holds ((page_column old).right node)) ≤ held_in xs node
  held_in-has node = rw (← before_at node) (count_below-has (held_at xs node) k (length xs) inside)

-- no step changes the right of another node
pub right_after-other : (right : ℕ → Right) (step : Step) (node : ℕ) → node ≢ node_of_step step → right_after right step node ≡ right node
right_after-other right Untouched node d = refl
right_after-other right (Reads n) node d = refl
right_after-other right (Writes n) node d = refl
right_after-other right (Grants n true) node d = updated-other right n Right.Write node d
right_after-other right (Grants n false) node d = updated-other right n Right.Read node d
right_after-other right (PagesOut n) node d = updated-other right n Right.Nothing node d
right_after-other right (Denies n) node d = updated-other right n Right.Read node d
right_after-other right (Pushes n) node d = refl
right_after-other right (Flushes n) node d = updated-other right n Right.Nothing node d
right_after-other right (Deletes n) node d = updated-other right n Right.Nothing node d

-- at the start the ground holds each page, and no other node one

count_below-all : (f : ℕ → Bool) (k : ℕ) → ((n : ℕ) → f n ≡ true) → count_below f k ≡ k
count_below-all f zero all = refl
count_below-all f (suc k) all = rw (all k) (omega (arith, count_below-all f k all))

ground_holds : (pages : List Page) → All IsFresh pages → (page : ℕ) → held_at pages 0 page ≡ true
ground_holds pages fresh page = ap (λ col. holds (col.right 0)) (fresh_columns pages fresh page)

none_else : (pages : List Page) (node : ℕ) → 0 < node → All IsFresh pages → (page : ℕ) → held_at pages node page ≡ false
none_else pages node above fresh page = ap (λ col. holds (col.right node)) (fresh_columns pages fresh page) ∙ ap holds (start_nothing node above)

pub fresh_ground : (pages : List Page) → All IsFresh pages → held_in pages 0 ≡ length pages
fresh_ground pages fresh = count_below-all (held_at pages 0) (length pages) (ground_holds pages fresh)

pub fresh_others : (pages : List Page) (node : ℕ) → 0 < node → All IsFresh pages → held_in pages node ≡ 0
fresh_others pages node above fresh = count_below-zero (held_at pages node) (length pages) (λ page inside. none_else pages node above fresh page)

-- the kept counts, after one page of the list is another

sum_le : (a b c : ℕ) → a ≡ b → b ≤ c → a ≤ c
sum_le a b c e le = omega arith

flag_same : (b c : Bool) (n : ℕ) → b ≡ c → from_bool c ≤ n → from_bool b ≤ n
flag_same b c n e le = rw e le

moved : (new old was is : ℕ) (had has b a : Bool) → new + from_bool had ≡ old + from_bool has → had ≡ b → has ≡ a → old ≡ was → is + from_bool b ≡ was + from_bool a → new ≡ is
moved new old was is had has b a step hb ha counted swap = omega (arith, step, ap from_bool hb, ap from_bool ha, counted, swap)

stays : (new old was is : ℕ) (b a : Bool) → new ≡ old → old ≡ was → a ≡ b → is + from_bool b ≡ was + from_bool a → new ≡ is
stays new old was is b a same counted flag swap = omega (arith, same, counted, ap from_bool flag, swap)

module _ (xs : List Page) (held : List ℕ) (counted : IsHeldCounted xs held) (k : ℕ) (old new : Page) (was : slice_get xs k ≡ Some old) (inside : k < length xs) where
  pub count_low : (node : ℕ) → node < length held → length xs ≤ 1024 → slice_index held node ≤ 1024
  count_low node lt few = sum_le (slice_index held node) (held_in xs node) 1024 (counted node lt) (le_trans (held_in-low xs k old new was inside node) few)

  pub count_has : (node : ℕ) (had : Bool) → node < length held → had ≡ holds ((page_column old).right node) → from_bool had ≤ slice_index held node
  count_has node had lt e = flag_same had (holds ((page_column old).right node)) (slice_index held node) e (rw (counted node lt) (held_in-has xs k old new was inside node))

  -- one node's count moves from what it had to what it has, and the others stay
  pub counted_after : (next : List ℕ) (node : ℕ) (had has : Bool) → length next ≡ length held → node < length held
      → had ≡ holds ((page_column old).right node) → has ≡ holds ((page_column new).right node)
      → slice_index next node + from_bool had ≡ slice_index held node + from_bool has
      → ((n : ℕ) → n ≢ node → slice_index next n ≡ slice_index held n)
      → ((n : ℕ) → n ≢ node → (page_column new).right n ≡ (page_column old).right n)
      → IsHeldCounted (set xs k new) next
  counted_after next node had has len lt was_held is_held step others rights n inside_n = elim (same_or_not n node) [
    | inl same ↦ subst (λ m. slice_index next m ≡ held_in (set xs k new) m) (sym same)
        (moved _ _ _ _ had has _ _ step was_held is_held (counted node lt) (held_in-set xs k old new was inside node))
    | inr d ↦ stays (slice_index next n) (slice_index held n) _ _ _ _ (others n d) (counted n (omega arith)) (ap holds (rights n d)) (held_in-set xs k old new was inside n)
  ]

-- the counts at the start
pub counted_at_start : (pages : List Page) (held : List ℕ) → All IsFresh pages → slice_index held 0 ≡ length pages → ((n : ℕ) → 0 < n → slice_index held n ≡ 0) → IsHeldCounted pages held
counted_at_start pages held fresh ground others node lt = elim (same_or_not node 0) [
  | inl same ↦ subst (λ m. slice_index held m ≡ held_in pages m) (sym same) (ground ∙ sym (fresh_ground pages fresh))
  | inr d ↦ others node (omega arith) ∙ sym (fresh_others pages node (omega arith) fresh)
]

-- the node of a step is one of the tree
pub step_inside : (shape : TreeShape) (step : Step) → 0 < nodes shape → IsStepOf shape step → node_of_step step < nodes shape
step_inside shape Untouched some un = some
step_inside shape (Reads n) some un = un.inside
step_inside shape (Writes n) some un = un.inside
step_inside shape (Grants n write) some un = un.inside
step_inside shape (PagesOut n) some un = un.inside
step_inside shape (Denies n) some un = un.inside
step_inside shape (Pushes n) some un = un.inside
step_inside shape (Flushes n) some un = un.inside
step_inside shape (Deletes n) some un = un.inside
