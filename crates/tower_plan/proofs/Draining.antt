-- A drain's next event is allowed and lowers the number of rights by one.
use Rattle.std.proofs.Common.{◌≡◌, ◌≢◌, ℕ, suc, zero, ◌+◌, ◌<◌, inl, inr, sym, ◌∙◌, ap, subst, refl, arith, Bool, true, false, ◌&&◌, ◌≤◌, ◌↔◌}
use Rattle.std.proofs.lemmas.Bool.{false≢true, true≢false}
use Rattle.hist_plain.specs.declared.event.Event.{Event}
use Rattle.tower_core.specs.declared.right.Right.{Right}
use Rattle.tower_core.specs.declared.step.Step.TheVariants.{Flushes, Deletes}
use Rattle.tower_core.specs.TreeShape.{TreeShape, nodes, is_within, IsUpper, IsChild, IsTree}
use Rattle.tower_core.specs.Count.{count_below}
use Rattle.tower_core.specs.Column.{Column, IsCoherent, strength}
use Rattle.tower_core.specs.Trail.{State, state_after, holds, IsAllowed, IsSubtreeEmpty}
use Rattle.tower_core.proofs.Paths.{le_on_path, up, is_within-same}
use Rattle.tower_core.proofs.Counts.{count_below-same, count_below-less, count_below-zero}
use Rattle.tower_plan.specs.declared.plan.Next.{Next}
use Rattle.tower_plan.specs.Plan.{revoking, IfDo}
use Rattle.tower_plan.specs.Drain.{is_held, rights_below, IsFirstHolder, NoHolder, Drain, IsDrainAnswer}
use Rattle.tower_plan.proofs.Rules.{same_or_not, true_or_false, depth_of-child, Changes, step_changes, is_nothing, path_has}

both : (a b : Bool) → (a && b) ≡ true → (a ≡ true) × (b ≡ true)
both true b h = (refl, h)
both false b h = absurd (false≢true h)

held_right : (r : Right) → holds r ≡ true → r ≢ Right.Nothing
held_right r h e = false≢true (ap holds (sym e) ∙ h)

module _ (shape : TreeShape) (tree : IsTree shape) (col : Column) (top : ℕ) (upper : IsUpper shape top) where
  holder_upper : (node : ℕ) → IsFirstHolder shape col top node → IsUpper shape node
  holder_upper node first =
      let low = le_on_path shape tree node top first.inside (both (is_within shape node top) (holds (col.right node)) first.held).0 in
      record { above = omega (arith, low, upper.above); inside = first.inside }

  holder_child : (node child : ℕ) → IsFirstHolder shape col top node → IsChild shape child node → col.right child ≡ Right.Nothing
  holder_child node child first ic = elim (true_or_false (holds (col.right child))) [
    | inl hit ↦
        let on = up shape tree child top ic.upper (subst (λ n. is_within shape n top ≡ true) (sym ic.hangs) (both (is_within shape node top) (holds (col.right node)) first.held).0) in
        let held : is_held shape col top child ≡ true = rw on hit in
        absurd (omega (arith, first.deepest child ic.upper.inside held, depth_of-child shape child node tree ic))
    | inr miss ↦ is_nothing (col.right child) miss
  ]

drain_allowed : (shape : TreeShape) (pages : ℕ) (s : State) (top page node : ℕ) (have : Right) → IsTree shape → IsUpper shape top → IsFirstHolder shape (s.column page) top node → (s.column page).right node ≡ have → IsAllowed shape pages s (revoking Right.Write have node page)
drain_allowed shape pages s top page node Right.Nothing tree upper first e =
    absurd (held_right ((s.column page).right node) (both (is_within shape node top) (holds ((s.column page).right node)) first.held).1 e)
drain_allowed shape pages s top page node Right.Read tree upper first e =
    record { upper = holder_upper shape tree (s.column page) top upper node first; line = (e, λ child ic. holder_child shape tree (s.column page) top upper node child first ic) }
drain_allowed shape pages s top page node Right.Write tree upper first e =
    record { upper = holder_upper shape tree (s.column page) top upper node first; line = (e, λ child ic. holder_child shape tree (s.column page) top upper node child first ic) }

-- the count of one page goes down by one, and the others stay

rights_below-same : (shape : TreeShape) (s t : State) (top k : ℕ) → ((page : ℕ) → page < k → (n : ℕ) → (t.column page).right n ≡ (s.column page).right n) → rights_below shape t top k ≡ rights_below shape s top k
rights_below-same shape s t top zero same = refl
rights_below-same shape s t top (suc k) same =
    let low = rights_below-same shape s t top k (λ page h. same page (omega arith)) in
    let one = count_below-same (is_held shape (s.column k) top) (is_held shape (t.column k) top) (nodes shape) (λ n h. ap (λ r. is_within shape n top && holds r) (same k (omega arith) n)) in
    rw low (rw one refl)

rights_below-less : (shape : TreeShape) (s t : State) (top page node k : ℕ) → Changes s t page node Right.Nothing → page < k → IsFirstHolder shape (s.column page) top node → rights_below shape t top k + 1 ≡ rights_below shape s top k
rights_below-less shape s t top page node zero change inside first = absurd (omega arith)
rights_below-less shape s t top page node (suc k) change inside first = elim (same_or_not k page) [
  | inl same ↦ subst (λ j. rights_below shape t top (suc j) + 1 ≡ rights_below shape s top (suc j)) (sym same) at_page
  | inr d ↦
      let low = rights_below-less shape s t top page node k change (omega arith) first in
      let one = count_below-same (is_held shape (s.column k) top) (is_held shape (t.column k) top) (nodes shape) (λ n h. ap (λ r. is_within shape n top && holds r) (change.elsewhere k n d)) in
      rw one (omega (arith, low))
]
  where
    and-false : (b : Bool) → (b && false) ≡ false
    and-false true = refl
    and-false false = refl

    gone : is_held shape (t.column page) top node ≡ false
    gone = ap (λ r. is_within shape node top && holds r) change.hit ∙ and-false (is_within shape node top)

    less : count_below (is_held shape (t.column page) top) (nodes shape) + 1 ≡ count_below (is_held shape (s.column page) top) (nodes shape)
    less = count_below-less (is_held shape (s.column page) top) (is_held shape (t.column page) top) node (nodes shape) first.inside first.held gone
        (λ n h d. ap (λ r. is_within shape n top && holds r) (change.beside n d))

    at_page : rights_below shape t top (suc page) + 1 ≡ rights_below shape s top (suc page)
    at_page = omega (arith, less, rights_below-same shape s t top page (λ p h n. change.elsewhere p n (omega arith)))

drain_cheaper : (shape : TreeShape) (pages : ℕ) (s : State) (top page node : ℕ) (have : Right) → page < pages → IsFirstHolder shape (s.column page) top node → (s.column page).right node ≡ have → rights_below shape (state_after shape s (revoking Right.Write have node page)) top pages + 1 ≡ rights_below shape s top pages
drain_cheaper shape pages s top page node Right.Nothing inside first e =
    absurd (held_right ((s.column page).right node) (both (is_within shape node top) (holds ((s.column page).right node)) first.held).1 e)
drain_cheaper shape pages s top page node Right.Read inside first e =
    let t = state_after shape s (Event.DeleteRange node page) in
    rights_below-less shape s t top page node pages (step_changes shape s t page node Right.Nothing (Deletes node) (λ p. refl) (λ r n. refl)) inside first
drain_cheaper shape pages s top page node Right.Write inside first e =
    let t = state_after shape s (Event.FlushBack node page) in
    rights_below-less shape s t top page node pages (step_changes shape s t page node Right.Nothing (Flushes node) (λ p. refl) (λ r n. refl)) inside first

-- what follows of any answer

pub drain_answer_allowed : (shape : TreeShape) (pages : ℕ) (s : State) (top : ℕ) (answer : Next) → IsTree shape → IsUpper shape top → IsDrainAnswer shape pages s top answer → IfDo answer (IsAllowed shape pages s)
drain_answer_allowed shape pages s top Next.Ready tree upper rule = tt
drain_answer_allowed shape pages s top (Next.Do event) tree upper (Drain page node inside lowest first) = drain_allowed shape pages s top page node ((s.column page).right node) tree upper first refl

pub drain_answer_cheaper : (shape : TreeShape) (pages : ℕ) (s : State) (top : ℕ) (answer : Next) → IsDrainAnswer shape pages s top answer → IfDo answer (λ event. rights_below shape (state_after shape s event) top pages + 1 ≡ rights_below shape s top pages)
drain_answer_cheaper shape pages s top Next.Ready rule = tt
drain_answer_cheaper shape pages s top (Next.Do event) (Drain page node inside lowest first) = drain_cheaper shape pages s top page node ((s.column page).right node) inside first refl

-- nothing is left exactly where the subtree is empty
pub drained : (shape : TreeShape) (pages : ℕ) (s : State) (top : ℕ) → ((page : ℕ) → page < pages → NoHolder shape (s.column page) top) → IsSubtreeEmpty shape pages s top
drained shape pages s top none node inside on page paged =
    is_nothing ((s.column page).right node) (let no_right : (is_within shape node top && holds ((s.column page).right node)) ≡ false = none page paged node inside in rw on at no_right)

pub empty_drained : (shape : TreeShape) (pages : ℕ) (s : State) (top : ℕ) → IsSubtreeEmpty shape pages s top → (page : ℕ) → page < pages → NoHolder shape (s.column page) top
empty_drained shape pages s top empty page paged node inside = elim (true_or_false (is_within shape node top)) [
  | inl on ↦ rw on (ap holds (empty node inside on page paged))
  | inr off ↦ rw off refl
]

-- where the top has no right no node below it has one
pub none_below : (shape : TreeShape) (len : ℕ) (col : Column) (top : ℕ) → IsTree shape → IsCoherent shape len col → col.right top ≡ Right.Nothing → NoHolder shape col top
none_below shape len col top tree coh none node inside = elim (true_or_false (is_within shape node top)) [
  | inl on ↦
      let low = path_has shape tree len col coh node top inside on in
      rw on (weak (col.right node) (omega (arith, low, ap strength none)))
  | inr off ↦ rw off refl
]
  where
    weak : (r : Right) → strength r ≤ 0 → holds r ≡ false
    weak Right.Nothing h = refl
    weak Right.Read h = absurd (omega arith)
    weak Right.Write h = absurd (omega arith)

-- the top itself has a right there
pub top_holds : (shape : TreeShape) (col : Column) (top : ℕ) → top < nodes shape → col.right top ≢ Right.Nothing → NoHolder shape col top → ⊥
top_holds shape col top inside some' none = held_some (col.right top) some' (rw (is_within-same shape top top refl) at (none top inside))
  where
    held_some : (r : Right) → r ≢ Right.Nothing → holds r ≡ false → ⊥
    held_some Right.Nothing d h = d refl
    held_some Right.Read d h = true≢false h
    held_some Right.Write d h = true≢false h

-- Ready means that the subtree is empty, and that no right is counted

rights_below-zero : (shape : TreeShape) (s : State) (top k : ℕ) → ((page : ℕ) → page < k → NoHolder shape (s.column page) top) → rights_below shape s top k ≡ 0
rights_below-zero shape s top zero none = refl
rights_below-zero shape s top (suc k) none =
    omega (arith, rights_below-zero shape s top k (λ page h. none page (omega arith)), count_below-zero (is_held shape (s.column k) top) (nodes shape) (none k (omega arith)))

do_is_not : (event : Event) → Next.Do event ≢ Next.Ready
do_is_not event e = cc

pub drain_answer_ready : (shape : TreeShape) (pages : ℕ) (s : State) (top : ℕ) (answer : Next) → IsDrainAnswer shape pages s top answer → answer ≡ Next.Ready ↔ IsSubtreeEmpty shape pages s top
drain_answer_ready shape pages s top Next.Ready rule = ((λ e. drained shape pages s top rule), λ empty. refl)
drain_answer_ready shape pages s top (Next.Do event) (Drain page node inside lowest first) =
    ((λ e. absurd (do_is_not event e)), λ empty. absurd (false≢true (sym (empty_drained shape pages s top empty page inside node first.inside) ∙ first.held)))

pub drain_answer_done : (shape : TreeShape) (pages : ℕ) (s : State) (top : ℕ) (answer : Next) → IsDrainAnswer shape pages s top answer → answer ≡ Next.Ready ↔ (rights_below shape s top pages ≡ 0)
drain_answer_done shape pages s top Next.Ready rule = ((λ e. rights_below-zero shape s top pages rule), λ z. refl)
drain_answer_done shape pages s top (Next.Do event) (Drain page node inside lowest first) =
    ((λ e. absurd (do_is_not event e)), λ z. absurd (omega (arith, z, drain_cheaper shape pages s top page node ((s.column page).right node) inside first refl)))
