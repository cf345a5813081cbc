-- A grant brings its node the page as its parent showed it; a page's first grant brings the page of the file that the trail began with.
use Rattle.std.proofs.Common.{◌≡◌, ◌≢◌, ℕ, ◌<◌, ◌≤◌, ◌⊎◌, inl, inr, sym, ◌∙◌, ap, subst, refl, arith, Bool, true, false, ◌||◌, List, [], ◌∷◌, ◌++◌, length, Option, Some, append_assoc, append-nil}
use Rattle.std.proofs.lemmas.Bool.{eq-eqb}
use Rattle.std.proofs.lemmas.Bool.Decides.{eqb_tells}
use Rattle.hist_plain.specs.declared.event.Event.{Event}
use Rattle.hist_plain.specs.History.{IsZeroPage, page_in}
use Rattle.tower_core.specs.declared.right.Right.{Right}
use Rattle.tower_core.specs.declared.step.Step.{Step}
use Rattle.tower_core.specs.declared.step.Step.TheVariants.{Untouched, Reads, Writes, Grants, PagesOut, Denies, Pushes, Flushes, Deletes}
use Rattle.tower_core.specs.TreeShape.{TreeShape, IsTree, IsUpper, parent}
use Rattle.tower_core.specs.Column.{Column, MayStep, IsStepOf, newest_after}
use Rattle.tower_core.specs.Trail.{IsRun, State, at_of, newest_of, right_of, start, state_of, step_of}
use Rattle.tower_core.specs.Legal.{IsFilled, shown}
use Rattle.tower_core.proofs.Frames.{run_coherent}
use Rattle.tower_core.proofs.Legals.{run_snoc, state_of-snoc}
use Rattle.tower_core.proofs.Trails.{on_each_page, trail_len}
use Rattle.layer_laws.specs.Side.{Side, brought}
use Rattle.layer_laws.specs.Sent.{down_for, granted, page_above}
use Rattle.layer_laws.specs.Granted.{is_grant_of, is_granted_in}
use Rattle.layer_laws.proofs.Grants.{AllNothing, never_granted}
use Rattle.layer_laws.proofs.Newest.{page_at-newest}
use Rattle.page_exchange.specs.Steps.{IsSent}
use Rattle.tower_shows.specs.Began.{BeganWith, IsNextIn, IsTrueTo, ground_shown}

write_nothing : Right.Write ≢ Right.Nothing
write_nothing x = cc

granted_some : (write : Bool) → granted write ≢ Right.Nothing
granted_some true = write_nothing
granted_some false = λ x. cc

-- who grants has a right
pub granted_above : (shape : TreeShape) (col : Column) (node : ℕ) (write : Bool) → MayStep shape col (Grants node write) → col.right (parent shape node) ≢ Right.Nothing
granted_above shape col node true may = λ x. write_nothing (sym may.1 ∙ x)
granted_above shape col node false may = may.1

-- the parent is the ground, or a node of the tree
pub ground_or_upper : (shape : TreeShape) (node : ℕ) → IsTree shape → IsUpper shape node → (parent shape node ≡ 0) ⊎ IsUpper shape (parent shape node)
ground_or_upper shape node tree un = elim (eqb_tells (parent shape node) 0) [
  | inl e ↦ inl e.1
  | inr d ↦ inr (record { above = omega (arith, d.1); inside = let below : parent shape node < node = tree.ordered node un in omega (arith, below, un.inside) })
]

-- a page that was never granted was never written

first_part : (a b : Bool) → (a || b) ≡ false → (a ≡ false) × (b ≡ false)
first_part true b e = absurd cc
first_part false b e = (refl, e)

or_false : (a b : Bool) → a ≡ false → b ≡ false → (a || b) ≡ false
or_false a b e f = rw e f

not_before : (page : ℕ) (before events : List Event) → is_granted_in page (before ++ events) ≡ false → is_granted_in page before ≡ false
not_before page [] events e = refl
not_before page (event ∷ before) events e =
    let parts = first_part (is_grant_of page event) (is_granted_in page (before ++ events)) e in
    or_false (is_grant_of page event) (is_granted_in page before) parts.0 (not_before page before events parts.1)

no_write : (shape : TreeShape) (len newest : ℕ) (col : Column) (step : Step) → AllNothing shape col → IsStepOf shape step → MayStep shape col step → newest_after len newest step ≡ newest
no_write shape len newest col (Writes n) none of may = absurd (write_nothing (sym may.0 ∙ none n of))
no_write shape len newest col Untouched none of may = refl
no_write shape len newest col (Reads n) none of may = refl
no_write shape len newest col (Grants n write) none of may = refl
no_write shape len newest col (PagesOut n) none of may = refl
no_write shape len newest col (Denies n) none of may = refl
no_write shape len newest col (Pushes n) none of may = refl
no_write shape len newest col (Flushes n) none of may = refl
no_write shape len newest col (Deletes n) none of may = refl

unwritten_after : (shape : TreeShape) (pages page : ℕ) (before events : List Event) → IsTree shape → IsRun shape pages start before → IsRun shape pages (state_of shape before) events → is_granted_in page (before ++ events) ≡ false
    → newest_of shape before page ≡ 0 → newest_of shape (before ++ events) page ≡ 0
unwritten_after shape pages page before [] tree run after none zero = ap (λ (es : List Event). newest_of shape es page) (append-nil before) ∙ zero
unwritten_after shape pages page before (event ∷ events) tree run after none zero =
    let parts : (before ++ event ∷ []) ++ events ≡ before ++ (event ∷ events) = append_assoc before (event ∷ []) events in
    let may = on_each_page shape pages (state_of shape before) event tree after.0.upper after.0.line page in
    let nothing : AllNothing shape ((state_of shape before).column page) = λ n un. never_granted shape pages before page n tree run (not_before page before (event ∷ events) none) un in
    let here : newest_of shape (before ++ event ∷ []) page ≡ 0 =
    ap (λ (s : State). (s.column page).newest) (state_of-snoc shape before event)
    ∙ no_write shape (state_of shape before).len (newest_of shape before page) ((state_of shape before).column page) (step_of (state_of shape before).life page event) nothing may.0 may.1
    ∙ zero in
    ap (λ (es : List Event). newest_of shape es page) (sym parts)
    ∙ unwritten_after shape pages page (before ++ event ∷ []) events tree (run_snoc shape pages start before event run after.0) (subst (λ (s : State). IsRun shape pages s events) (sym (state_of-snoc shape before event)) after.1)
    (subst (λ (es : List Event). is_granted_in page es ≡ false) (sym parts) none) here

pub unwritten : (shape : TreeShape) (pages page : ℕ) (trail : List Event) → IsTree shape → IsRun shape pages start trail → is_granted_in page trail ≡ false → newest_of shape trail page ≡ 0
unwritten shape pages page trail tree run none = unwritten_after shape pages page [] trail tree tt run none refl

-- the first grant of a page is to a child of the ground
pub grant_first : (shape : TreeShape) (size pages : ℕ) (trail : List Event) (node page : ℕ) (write : Bool) (sides : ℕ → ℕ → Side) → IsTrueTo shape size pages trail sides → IsNextIn shape size pages trail (Event.PageIn node page write) →
    is_granted_in page trail ≡ false → (parent shape node ≡ 0) × (right_of shape trail node page ≡ Right.Nothing)
grant_first shape size pages trail node page write sides true_to next none =
    let un : IsUpper shape node = next.allowed.upper in
    let some : right_of shape trail (parent shape node) page ≢ Right.Nothing = granted_above shape ((state_of shape trail).column page) node write next.allowed.line.0 in (
      elim (ground_or_upper shape node true_to.tree un) [
        | inl e ↦ e
        | inr up ↦ absurd (some (never_granted shape pages trail page (parent shape node) true_to.tree true_to.run none up))
      ],
      never_granted shape pages trail page node true_to.tree true_to.run none un,
    )

module _ (shape : TreeShape) (size pages : ℕ) (opening : List ℕ) (trail : List Event) (node page : ℕ) (write : Bool) (old new : ℕ → ℕ → Side) (told : Option (List (List ℕ)))
    (true_to : IsTrueTo shape size pages trail old) (next : IsNextIn shape size pages trail (Event.PageIn node page write))
    (sent : IsSent shape told page (Grants node write) old new) (began : BeganWith shape size pages opening trail old told) where
  upper : IsUpper shape node
  upper = next.allowed.upper

  -- what the parent has
  above_is : page_above shape (old page) (ground_shown shape size opening trail page) node ≡ shown shape size opening trail (parent shape node) page
  above_is = elim (ground_or_upper shape node true_to.tree upper) [
    | inl e ↦ rw (eq-eqb (parent shape node) 0 e) (ap (λ (n : ℕ). shown shape size opening trail n page) (sym e))
    | inr up ↦ elim (eqb_tells (parent shape node) 0) [
      | inl e ↦ rw e.0 (ap (λ (n : ℕ). shown shape size opening trail n page) (sym e.1))
      | inr d ↦ rw d.0 ((began.copies page).copy (parent shape node) up (granted_above shape ((state_of shape trail).column page) node write next.allowed.line.0))
    ]
  ]

  -- where the node has nothing its copy is then what the parent showed
  pub copy_is : right_of shape trail node page ≡ Right.Nothing → (new page node).copy ≡ shown shape size opening trail (parent shape node) page
  copy_is none =
      let right : (old page node).right ≡ Right.Nothing = (true_to.rights page).right node upper ∙ none in
      let down : sent.brings ≡ down_for (old page node).right (page_above shape (old page) (ground_shown shape size opening trail page) node) = sent.brought (ground_shown shape size opening trail) [] (λ read. (began.is_told, began.ground)) in
      let whole : sent.brings ≡ Some (page_above shape (old page) (ground_shown shape size opening trail page) node) = down ∙ ap (λ (r : Right). down_for r (page_above shape (old page) (ground_shown shape size opening trail page) node)) right in
      let some : (sent.sent.to node).right ≢ Right.Nothing = λ x. granted_some write (sym (ap (λ (s : Side). s.right) sent.sent.here.own) ∙ x) in
      ap (λ (s : Side). s.copy) ((sent.sent.kept node).whole some)
      ∙ ap (λ (s : Side). s.copy) sent.sent.here.own
      ∙ ap (λ (b : Option (List ℕ)). brought b (old page node).copy) whole
      ∙ above_is

  pub grant_zeros : right_of shape trail node page ≡ Right.Nothing → IsZeroPage size (new page node).copy → IsFilled shape size opening trail (Event.ZeroFill node page write)
  grant_zeros none zeros = sym (copy_is none) ∙ zeros

  pub grant_others : (right_of shape trail node page ≡ Right.Nothing → IsZeroPage size (new page node).copy → ⊥) → IsFilled shape size opening trail (Event.PageIn node page write)
  grant_others never none zeros = never none (copy_is none ∙ zeros)

  pub grant_kept : is_granted_in page trail ≡ false → (new page node).copy ≡ page_in size opening page
  grant_kept none =
      let first = grant_first shape size pages trail node page write old true_to next none in
      let zero : newest_of shape trail page ≡ 0 = unwritten shape pages page trail true_to.tree true_to.run none in
      let placed : at_of shape trail (parent shape node) page ≤ (state_of shape trail).len = ((run_coherent shape pages trail true_to.tree true_to.run).columns page).placed (parent shape node) (let below : parent shape node < node = true_to.tree.ordered node upper in omega (arith, below, upper.inside)) in
      let len : (state_of shape trail).len ≡ length trail = trail_len shape trail in
      copy_is first.1
      ∙ page_at-newest shape size pages opening trail page (at_of shape trail (parent shape node) page) began.sized began.legal (omega (arith, zero)) (omega (arith, placed, len))
      ∙ sym (page_at-newest shape size pages opening trail page 0 began.sized began.legal (omega (arith, zero)) (omega arith))
