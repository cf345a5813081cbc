-- What follows from the rules: the next event is allowed, and lowers the cost by one.
use Rattle.std.proofs.Common.{◌≡◌, ◌≢◌, ℕ, suc, zero, ◌+◌, ◌<◌, ◌≤◌, ◌⊎◌, inl, inr, sym, ◌∙◌, ap, subst, refl, arith, Bool, true, false, eqb, cond, leb, ◌↔◌, Option, Some, None, IfNone, IfSome, MatchOption}
use Rattle.std.proofs.lemmas.Bool.{leb-true, leb-false, eq-eqb, false≢true, true≢false}
use Rattle.std.proofs.lemmas.Bool.Decides.{eqb_tells, nat_tests}
use Rattle.hist_plain.specs.declared.event.Event.{Event}
use Rattle.tower_core.specs.declared.right.Right.{Right}
use Rattle.tower_core.specs.declared.step.Step.{Step}
use Rattle.tower_core.specs.declared.step.Step.TheVariants.{Reads, Writes, Grants, PagesOut, Denies, Flushes, Deletes}
use Rattle.tower_core.proofs.StepLaw.{updated-same, updated-other}
use Rattle.tower_core.specs.TreeShape.{TreeShape, parent, nodes, frames_of, is_within, IsUpper, IsChild, IsTree}
use Rattle.tower_core.specs.Count.{count_below}
use Rattle.tower_core.specs.Column.{Column, MayStep, column_after, right_after, updated, strength, IsCoherent}
use Rattle.tower_core.specs.Trail.{State, of_page, state_after, holds, held_below, HoldsNothing, IsOldest, IsAllowed}
use Rattle.tower_core.proofs.Paths.{ground_on_path, parent_on_path, child_on_path, one_child_on_path, le_on_path, down, up, above_other, is_within-same}
use Rattle.tower_core.proofs.Counts.{count_below-same, count_below-less, count_below-none, count_below-zero}
use Rattle.tower_plan.specs.Plan.{lacks, hinders, must_change, is_left, is_full, cost_of, depth_of, depth_within, IsHindrance, IsFirstHindrance, IsLacking, IsFirstLacking, NoHindrance, NoneLacks, revoking, is_write, IsNext, Revoke, Evict, Grant, IsReady, IsVictim, IsAnswer, IfDo, MayAccessFor}
use Rattle.tower_plan.specs.declared.plan.Next.{Next}

pub same_or_not : (a b : ℕ) → (a ≡ b) ⊎ (a ≢ b)
same_or_not a b = grind arith

pub true_or_false : (b : Bool) → (b ≡ true) ⊎ (b ≡ false)
true_or_false true = inl refl
true_or_false false = inr refl

-- depths

enough : (shape : TreeShape) (k j node : ℕ) → IsTree shape → node < nodes shape → node ≤ k → node ≤ j → depth_within shape k node ≡ depth_within shape j node
enough shape zero zero node tree inside hk hj = refl
enough shape zero (suc j) node tree inside hk hj = rw (eq-eqb node 0 (omega arith)) refl
enough shape (suc k) zero node tree inside hk hj = rw (eq-eqb node 0 (omega arith)) refl
enough shape (suc k) (suc j) node tree inside hk hj = elim (eqb_tells node 0) [
  | inl same ↦ rw same.0 refl
  | inr d ↦
      let below : parent shape node < node = tree.ordered node (record { above = omega (arith, d.1); inside = inside }) in
      rw d.0 (ap (λ n. n + 1) (enough shape k j (parent shape node) tree (omega arith) (omega arith) (omega arith)))
]

pub depth_of-child : (shape : TreeShape) (child node : ℕ) → IsTree shape → IsChild shape child node → depth_of shape child ≡ depth_of shape node + 1
depth_of-child shape zero node tree ic = absurd (omega (arith, ic.upper.above))
depth_of-child shape (suc n) node tree ic =
    let below : parent shape (suc n) < suc n = tree.ordered (suc n) ic.upper in
    let no : eqb (suc n) 0 ≡ false = grind (arith, nat_tests) in
    rw no (ap (λ k. k + 1) (enough shape n (parent shape (suc n)) (parent shape (suc n)) tree (omega (arith, ic.upper.inside)) (omega arith) (omega arith) ∙ ap (depth_of shape) ic.hangs))

-- rights that hinder or lack

hinders_reader : (r : Right) → hinders Right.Read r ≡ true → r ≡ Right.Write
hinders_reader Right.Nothing h = absurd (false≢true h)
hinders_reader Right.Read h = absurd (false≢true h)
hinders_reader Right.Write h = refl

free_for_writer : (r : Right) → hinders Right.Write r ≡ false → r ≡ Right.Nothing
free_for_writer Right.Nothing h = refl
free_for_writer Right.Read h = absurd (true≢false h)
free_for_writer Right.Write h = absurd (true≢false h)

reader_lacks : (r : Right) → lacks Right.Read r ≡ true → r ≡ Right.Nothing
reader_lacks Right.Nothing h = refl
reader_lacks Right.Read h = absurd (false≢true h)
reader_lacks Right.Write h = absurd (false≢true h)

reader_has : (r : Right) → lacks Right.Read r ≡ false → r ≢ Right.Nothing
reader_has Right.Nothing h e = true≢false h
reader_has Right.Read h e = cc
reader_has Right.Write h e = cc

writer_lacks : (r : Right) → lacks Right.Write r ≡ true → r ≢ Right.Write
writer_lacks Right.Nothing h e = cc
writer_lacks Right.Read h e = cc
writer_lacks Right.Write h e = false≢true h

writer_has : (r : Right) → lacks Right.Write r ≡ false → r ≡ Right.Write
writer_has Right.Nothing h = absurd (true≢false h)
writer_has Right.Read h = absurd (true≢false h)
writer_has Right.Write h = refl

-- the ground's right suffices
ground_lacks : (want r : Right) → r ≡ Right.Write → lacks want r ≡ false
ground_lacks Right.Nothing r e = refl
ground_lacks Right.Read r e = rw e refl
ground_lacks Right.Write r e = rw e refl

module _ (shape : TreeShape) (tree : IsTree shape) (col : Column) (node : ℕ) (upper : IsUpper shape node) (want : Right) where
  -- a node off the path is no ground
  off_upper : (other : ℕ) → IsHindrance shape col node want other → IsUpper shape other
  off_upper other h = elim (same_or_not other 0) [
    | inl same ↦ absurd (false≢true (sym h.off ∙ ap (λ n. is_within shape node n) same ∙ ground_on_path shape tree node upper.inside))
    | inr d ↦ record { above = omega arith; inside = h.inside }
  ]

  -- a child of a node off the path is off it
  off_child : (other child : ℕ) → is_within shape node other ≡ false → IsChild shape child other → is_within shape node child ≡ false
  off_child other child off ic = elim (true_or_false (is_within shape node child)) [
    | inl on ↦ absurd (false≢true (sym off ∙ ap (λ n. is_within shape node n) (sym ic.hangs) ∙ parent_on_path shape tree node child upper.inside ic.upper on))
    | inr off' ↦ off'
  ]

  -- no child of the deepest hindrance hinders
  deepest_child : (other child : ℕ) → IsFirstHindrance shape col node want other → IsChild shape child other → hinders want (col.right child) ≡ false
  deepest_child other child first ic = elim (true_or_false (hinders want (col.right child))) [
    | inl hit ↦
        let deep = first.deepest child (record { inside = ic.upper.inside; off = off_child other child first.is_one.off ic; hinders = hit }) in
        absurd (omega (arith, deep, depth_of-child shape child other tree ic))
    | inr miss ↦ miss
  ]

  -- the lowest node that lacks is no ground, and its parent has the right
  lowest_upper : (other : ℕ) → col.right 0 ≡ Right.Write → IsFirstLacking shape col node want other → IsUpper shape other
  lowest_upper other ground first = elim (same_or_not other 0) [
    | inl same ↦ absurd (false≢true (sym (ground_lacks want (col.right other) (ap col.right same ∙ ground)) ∙ first.is_one.lacks))
    | inr d ↦ record { above = omega arith; inside = first.is_one.inside }
  ]

  lowest_parent : (other : ℕ) → IsUpper shape other → IsFirstLacking shape col node want other → lacks want (col.right (parent shape other)) ≡ false
  lowest_parent other uo first =
      let below : parent shape other < other = tree.ordered other uo in
      elim (true_or_false (lacks want (col.right (parent shape other)))) [
        | inl hit ↦
            let low = first.lowest (parent shape other) (record { inside = omega (arith, uo.inside); on = parent_on_path shape tree node other upper.inside uo first.is_one.on; lacks = hit }) in
            absurd (omega arith)
        | inr miss ↦ miss
      ]

  -- where nothing hinders, another child of the lowest node's parent does not
  sibling_free : (other child : ℕ) → IsUpper shape other → is_within shape node other ≡ true → NoHindrance shape col node want → IsChild shape child (parent shape other) → child ≢ other → hinders want (col.right child) ≡ false
  sibling_free other child uo on free ic d = elim (true_or_false (is_within shape node child)) [
    | inl also ↦ absurd (d (one_child_on_path shape tree node child other upper.inside ic.upper uo ic.hangs also on))
    | inr off ↦ elim (true_or_false (hinders want (col.right child))) [
      | inl hit ↦ absurd (free child (record { inside = ic.upper.inside; off = off; hinders = hit }))
      | inr miss ↦ miss
    ]
  ]

-- THE NEXT EVENT IS ALLOWED

revoke_allowed : (shape : TreeShape) (pages : ℕ) (s : State) (node page : ℕ) (want have : Right) (other : ℕ) → IsTree shape → IsUpper shape node → IsFirstHindrance shape (s.column page) node want other → (s.column page).right other ≡ have → IsAllowed shape pages s (revoking want have other page)
revoke_allowed shape pages s node page Right.Nothing have other tree upper first e = absurd (false≢true first.is_one.hinders)
revoke_allowed shape pages s node page Right.Read have other tree upper first e =
    record {
      upper = off_upper shape tree (s.column page) node upper Right.Read other first.is_one;
      line = (
        hinders_reader ((s.column page).right other) first.is_one.hinders,
        λ child ic w. false≢true (sym (deepest_child shape tree (s.column page) node upper Right.Read other child first ic) ∙ rw w refl),
      );
    }
revoke_allowed shape pages s node page Right.Write Right.Nothing other tree upper first e = absurd (false≢true (ap (hinders Right.Write) (sym e) ∙ first.is_one.hinders))
revoke_allowed shape pages s node page Right.Write Right.Read other tree upper first e =
    record {
      upper = off_upper shape tree (s.column page) node upper Right.Write other first.is_one;
      line = (e, λ child ic. free_for_writer ((s.column page).right child) (deepest_child shape tree (s.column page) node upper Right.Write other child first ic));
    }
revoke_allowed shape pages s node page Right.Write Right.Write other tree upper first e =
    record {
      upper = off_upper shape tree (s.column page) node upper Right.Write other first.is_one;
      line = (e, λ child ic. free_for_writer ((s.column page).right child) (deepest_child shape tree (s.column page) node upper Right.Write other child first ic));
    }

-- what it means to be a full leaf, and not to be one

abbrev full_test : Bool → ℕ → ℕ → Bool
full_test has frames held = cond has false (cond (eqb frames 0) false (leb frames held))

full_means : (has : Bool) (frames held : ℕ) → full_test has frames held ≡ true → (has ≡ false) × (frames ≢ 0) × (frames ≤ held)
full_means true frames held full = absurd (false≢true full)
full_means false frames held full = elim (eqb_tells frames 0) [
  | inl none ↦ absurd (false≢true (rw none.0 at full))
  | inr some' ↦ (refl, some'.1, leb-true frames held (rw some'.0 at full))
]

roomy_means : (has : Bool) (frames held : ℕ) → full_test has frames held ≡ false → has ≡ false → frames ≢ 0 → held < frames
roomy_means true frames held roomy empty leaf = absurd (true≢false empty)
roomy_means false frames held roomy empty leaf = elim (eqb_tells frames 0) [
  | inl none ↦ absurd (leaf none.1)
  | inr some' ↦ leb-false frames held (rw some'.0 at roomy)
]

-- a leaf that holds fewer is not full
fewer_roomy : (has : Bool) (frames held : ℕ) → held < frames → full_test has frames held ≡ false
fewer_roomy true frames held h = refl
fewer_roomy false frames held h = elim (eqb_tells frames 0) [
  | inl none ↦ rw none.0 refl
  | inr some' ↦ rw some'.0 (let t : leb frames held ≡ false = grind (arith, nat_tests) in t)
]

holds_nothing : (r : Right) → r ≡ Right.Nothing → holds r ≡ false
holds_nothing r e = rw e refl

holds_some : (r : Right) → r ≢ Right.Nothing → holds r ≡ true
holds_some Right.Nothing d = absurd (d refl)
holds_some Right.Read d = refl
holds_some Right.Write d = refl

pub is_nothing : (r : Right) → holds r ≡ false → r ≡ Right.Nothing
is_nothing Right.Nothing h = refl
is_nothing Right.Read h = absurd (true≢false h)
is_nothing Right.Write h = absurd (true≢false h)

-- the grant of the lowest node leaves it within its frames: a leaf on the path is its end
grant_room : (shape : TreeShape) (pages : ℕ) (s : State) (node page other : ℕ) → IsTree shape → IsUpper shape node → is_within shape node other ≡ true → is_full shape pages s node page ≡ false → frames_of shape other ≢ 0 → (s.column page).right other ≡ Right.Nothing → held_below s other pages < frames_of shape other
grant_room shape pages s node page other tree upper on roomy leaf empty = elim (same_or_not node other) [
  | inl same ↦ subst (λ n. held_below s n pages < frames_of shape n) same
      (roomy_means (holds ((s.column page).right node)) (frames_of shape node) (held_below s node pages) roomy
      (holds_nothing ((s.column page).right node) (ap (s.column page).right same ∙ empty)) (subst (λ n. frames_of shape n ≢ 0) (sym same) leaf))
  | inr d ↦
      let low = child_on_path shape tree node other upper.inside d on in
      absurd (leaf (tree.leaves low.0 other low.1))
]

grant_allowed : (shape : TreeShape) (pages : ℕ) (s : State) (node page : ℕ) (want : Right) (other : ℕ) → IsTree shape → IsUpper shape node → (s.column page).right 0 ≡ Right.Write → NoHindrance shape (s.column page) node want → is_full shape pages s node page ≡ false → IsFirstLacking shape (s.column page) node want other → IsAllowed shape pages s (Event.PageIn other page (is_write want))
grant_allowed shape pages s node page Right.Nothing other tree upper ground free roomy first = absurd (false≢true first.is_one.lacks)
grant_allowed shape pages s node page Right.Read other tree upper ground free roomy first =
    let col = s.column page in
    let uo = lowest_upper shape tree col node upper Right.Read other ground first in
    let empty = reader_lacks (col.right other) first.is_one.lacks in
    record {
      upper = uo;
      line = (
        (
          empty,
          reader_has (col.right (parent shape other)) (lowest_parent shape tree col node upper Right.Read other uo first),
          λ child ic w. elim (same_or_not child other) [
            | inl same ↦ two (sym w ∙ ap col.right same ∙ empty)
            | inr d ↦ false≢true (sym (sibling_free shape tree col node upper Right.Read other child uo first.is_one.on free ic d) ∙ rw w refl)
          ],
        ),
        grant_room shape pages s node page other tree upper first.is_one.on roomy,
      );
    }
  where
    two : Right.Write ≢ Right.Nothing
    two e = cc
grant_allowed shape pages s node page Right.Write other tree upper ground free roomy first =
    let col = s.column page in
    let uo = lowest_upper shape tree col node upper Right.Write other ground first in
    record {
      upper = uo;
      line = (
        (
          writer_lacks (col.right other) first.is_one.lacks,
          writer_has (col.right (parent shape other)) (lowest_parent shape tree col node upper Right.Write other uo first),
          λ child ic d. free_for_writer (col.right child) (sibling_free shape tree col node upper Right.Write other child uo first.is_one.on free ic d),
        ),
        grant_room shape pages s node page other tree upper first.is_one.on roomy,
      );
    }

pub next_allowed : (shape : TreeShape) (pages : ℕ) (s : State) (node page : ℕ) (want : Right) (event : Event) → IsTree shape → IsUpper shape node → (s.column page).right 0 ≡ Right.Write → IsNext shape pages s node page want event → IsAllowed shape pages s event
next_allowed shape pages s node page want event tree upper ground (Revoke other first) = revoke_allowed shape pages s node page want ((s.column page).right other) other tree upper first refl
next_allowed shape pages s node page want event tree upper ground (Evict victim free gone) =
    record {
      upper = upper;
      line = ((full_means (holds ((s.column page).right node)) (frames_of shape node) (held_below s node pages) gone.full).1, gone.oldest.held, gone.oldest.first);
    }
next_allowed shape pages s node page want event tree upper ground (Grant other free roomy first) = grant_allowed shape pages s node page want other tree upper ground free roomy first

-- THE NEXT EVENT LOWERS THE COST BY ONE

-- from s to t the node's right on the page becomes another, and no other right changes
pub record Changes (s t : State) (page node : ℕ) (right : Right) : Type 0 where
  pub hit : (t.column page).right node ≡ right
  pub beside : (n : ℕ) → n ≢ node → (t.column page).right n ≡ (s.column page).right n
  pub elsewhere : (p n : ℕ) → p ≢ page → (t.column p).right n ≡ (s.column p).right n

-- a step that is one right's change
pub step_changes : (shape : TreeShape) (s t : State) (page node : ℕ) (right : Right) (step : Step) → ((p : ℕ) → t.column p ≡ column_after shape s.len (s.column p) (of_page p page step)) → ((r : ℕ → Right) (n : ℕ) → right_after r step n ≡ updated r node right n) → Changes s t page node right
step_changes shape s t page node right step is after = record {
  hit = here node ∙ updated-same (s.column page).right node right;
  beside = λ n d. here n ∙ updated-other (s.column page).right node right n d;
  elsewhere = λ p n d. ap (λ c. c.right n) (is p) ∙ off p n d;
}
  where
    on : (n : ℕ) → (column_after shape s.len (s.column page) (of_page page page step)).right n ≡ right_after (s.column page).right step n
    on n = rw (eq-eqb page page refl) refl

    here : (n : ℕ) → (t.column page).right n ≡ updated (s.column page).right node right n
    here n = ap (λ c. c.right n) (is page) ∙ on n ∙ after (s.column page).right n

    off : (p n : ℕ) → p ≢ page → (column_after shape s.len (s.column p) (of_page p page step)).right n ≡ (s.column p).right n
    off p n d = elim (eqb_tells page p) [ inl same ↦ absurd (d (sym same.1)) | inr e ↦ rw e.0 refl ]

module _ (shape : TreeShape) (pages : ℕ) (s t : State) (node page : ℕ) (want : Right) where
  -- another node's right on each page is as it was
  same_right : (p m n : ℕ) (right : Right) → Changes s t page m right → n ≢ m → (t.column p).right n ≡ (s.column p).right n
  same_right p m n right change d = elim (same_or_not p page) [
    | inl same ↦ subst (λ q. (t.column q).right n ≡ (s.column q).right n) (sym same) (change.beside n d)
    | inr e ↦ change.elsewhere p n e
  ]

  same_held : ((p : ℕ) → (t.column p).right node ≡ (s.column p).right node) → held_below t node pages ≡ held_below s node pages
  same_held same = count_below-same (λ p. holds ((s.column p).right node)) (λ p. holds ((t.column p).right node)) pages (λ p h. ap holds (same p))

  same_full : ((p : ℕ) → (t.column p).right node ≡ (s.column p).right node) → is_full shape pages t node page ≡ is_full shape pages s node page
  same_full same = rw (same page) (ap (full_test (holds ((s.column page).right node)) (frames_of shape node)) (same_held same))

  -- the one node that was left is left no more
  one_less : (m : ℕ) (right : Right) → Changes s t page m right → m < nodes shape → is_left shape (s.column page) node want m ≡ true → is_left shape (t.column page) node want m ≡ false → count_below (is_left shape (t.column page) node want) (nodes shape) + 1 ≡ count_below (is_left shape (s.column page) node want) (nodes shape)
  one_less m right change inside was is = count_below-less (is_left shape (s.column page) node want) (is_left shape (t.column page) node want) m (nodes shape) inside was is
      (λ n h d. ap (λ r. must_change want (is_within shape node n) r) (change.beside n d))

  add_up : (a b : ℕ) (x y : Bool) → a + 1 ≡ b → x ≡ y → a + cond x 1 0 + 1 ≡ b + cond y 1 0
  add_up a b x y e f = rw f (omega (arith, e))

  -- a node off the path that hindered does so no more
  off_cheaper : (m : ℕ) (right : Right) → IsUpper shape node → Changes s t page m right → IsHindrance shape (s.column page) node want m → hinders want right ≡ false → cost_of shape pages t node page want + 1 ≡ cost_of shape pages s node page want
  off_cheaper m right upper change hindrance free =
      let was : is_left shape (s.column page) node want m ≡ true = rw hindrance.off hindrance.hinders in
      let is : is_left shape (t.column page) node want m ≡ false = rw hindrance.off (ap (hinders want) change.hit ∙ free) in
      let other : node ≢ m = λ e. true≢false (sym (is_within-same shape node m e) ∙ hindrance.off) in
      add_up _ _ (is_full shape pages t node page) (is_full shape pages s node page) (one_less m right change hindrance.inside was is)
      (same_full (λ p. same_right p m node right change other))

  -- a node on the path that lacked the right has it
  on_cheaper : (m : ℕ) (right : Right) → Changes s t page m right → IsLacking shape (s.column page) node want m → lacks want right ≡ false → holds right ≡ true → is_full shape pages s node page ≡ false → cost_of shape pages t node page want + 1 ≡ cost_of shape pages s node page want
  on_cheaper m right change lacking has some' roomy =
      let was : is_left shape (s.column page) node want m ≡ true = rw lacking.on lacking.lacks in
      let is : is_left shape (t.column page) node want m ≡ false = rw lacking.on (ap (lacks want) change.hit ∙ has) in
      add_up _ _ (is_full shape pages t node page) (is_full shape pages s node page) (one_less m right change lacking.inside was is)
      (still (same_or_not node m) ∙ sym roomy)
    where
      still : (node ≡ m) ⊎ (node ≢ m) → is_full shape pages t node page ≡ false
      still (inl same) = rw (ap (λ n. holds ((t.column page).right n)) same ∙ ap holds change.hit ∙ some') refl
      still (inr d) = same_full (λ p. same_right p m node right change d) ∙ roomy

-- the leaf gives back another page than the one that it wants
evict_cheaper : (shape : TreeShape) (pages : ℕ) (s t : State) (node page : ℕ) (want : Right) (victim : ℕ) → Changes s t victim node Right.Nothing → victim < pages → page ≢ victim → (s.column victim).right node ≢ Right.Nothing → is_full shape pages s node page ≡ true → held_below s node pages ≤ frames_of shape node → cost_of shape pages t node page want + 1 ≡ cost_of shape pages s node page want
evict_cheaper shape pages s t node page want victim change inside other held full framed =
    let fewer : held_below t node pages + 1 ≡ held_below s node pages = count_below-less (λ p. holds ((s.column p).right node)) (λ p. holds ((t.column p).right node)) victim pages inside
    (holds_some ((s.column victim).right node) held) (ap holds change.hit) (λ p h d. ap holds (change.elsewhere p node d)) in
    let roomy : is_full shape pages t node page ≡ false = fewer_roomy (holds ((t.column page).right node)) (frames_of shape node) (held_below t node pages) (omega (arith, fewer, framed)) in
    let same : count_below (is_left shape (t.column page) node want) (nodes shape) ≡ count_below (is_left shape (s.column page) node want) (nodes shape) = count_below-same (is_left shape (s.column page) node want) (is_left shape (t.column page) node want) (nodes shape)
    (λ n h. ap (λ r. must_change want (is_within shape node n) r) (change.elsewhere page n other)) in
    rw roomy (rw full (rw same (omega arith)))

revoke_cheaper : (shape : TreeShape) (pages : ℕ) (s : State) (node page : ℕ) (want have : Right) (other : ℕ) → IsUpper shape node → IsFirstHindrance shape (s.column page) node want other → (s.column page).right other ≡ have → cost_of shape pages (state_after shape s (revoking want have other page)) node page want + 1 ≡ cost_of shape pages s node page want
revoke_cheaper shape pages s node page Right.Nothing have other upper first e = absurd (false≢true first.is_one.hinders)
revoke_cheaper shape pages s node page Right.Read have other upper first e =
    let t = state_after shape s (Event.DenyWrites other page) in
    off_cheaper shape pages s t node page Right.Read other Right.Read upper (step_changes shape s t page other Right.Read (Denies other) (λ p. refl) (λ r n. refl)) first.is_one refl
revoke_cheaper shape pages s node page Right.Write Right.Nothing other upper first e = absurd (false≢true (ap (hinders Right.Write) (sym e) ∙ first.is_one.hinders))
revoke_cheaper shape pages s node page Right.Write Right.Read other upper first e =
    let t = state_after shape s (Event.DeleteRange other page) in
    off_cheaper shape pages s t node page Right.Write other Right.Nothing upper (step_changes shape s t page other Right.Nothing (Deletes other) (λ p. refl) (λ r n. refl)) first.is_one refl
revoke_cheaper shape pages s node page Right.Write Right.Write other upper first e =
    let t = state_after shape s (Event.FlushBack other page) in
    off_cheaper shape pages s t node page Right.Write other Right.Nothing upper (step_changes shape s t page other Right.Nothing (Flushes other) (λ p. refl) (λ r n. refl)) first.is_one refl

grant_cheaper : (shape : TreeShape) (pages : ℕ) (s : State) (node page : ℕ) (want : Right) (other : ℕ) → is_full shape pages s node page ≡ false → IsFirstLacking shape (s.column page) node want other → cost_of shape pages (state_after shape s (Event.PageIn other page (is_write want))) node page want + 1 ≡ cost_of shape pages s node page want
grant_cheaper shape pages s node page Right.Nothing other roomy first = absurd (false≢true first.is_one.lacks)
grant_cheaper shape pages s node page Right.Read other roomy first =
    let t = state_after shape s (Event.PageIn other page false) in
    on_cheaper shape pages s t node page Right.Read other Right.Read (step_changes shape s t page other Right.Read (Grants other false) (λ p. refl) (λ r n. refl)) first.is_one refl refl roomy
grant_cheaper shape pages s node page Right.Write other roomy first =
    let t = state_after shape s (Event.PageIn other page true) in
    on_cheaper shape pages s t node page Right.Write other Right.Write (step_changes shape s t page other Right.Write (Grants other true) (λ p. refl) (λ r n. refl)) first.is_one refl refl roomy

pub next_cheaper : (shape : TreeShape) (pages : ℕ) (s : State) (node page : ℕ) (want : Right) (event : Event) → IsUpper shape node → (frames_of shape node ≢ 0 → held_below s node pages ≤ frames_of shape node) → IsNext shape pages s node page want event → cost_of shape pages (state_after shape s event) node page want + 1 ≡ cost_of shape pages s node page want
next_cheaper shape pages s node page want event upper framed (Revoke other first) = revoke_cheaper shape pages s node page want ((s.column page).right other) other upper first refl
next_cheaper shape pages s node page want event upper framed (Evict victim free gone) =
    let t = state_after shape s (Event.PageOut node victim) in
    let parts = full_means (holds ((s.column page).right node)) (frames_of shape node) (held_below s node pages) gone.full in
    let other : page ≢ victim = λ e. gone.oldest.held (ap (λ p. (s.column p).right node) (sym e) ∙ is_nothing ((s.column page).right node) parts.0) in
    evict_cheaper shape pages s t node page want victim (step_changes shape s t victim node Right.Nothing (PagesOut node) (λ p. refl) (λ r n. refl)) gone.oldest.inside other gone.oldest.held gone.full (framed parts.1)
next_cheaper shape pages s node page want event upper framed (Grant other free roomy first) = grant_cheaper shape pages s node page want other roomy first

-- NOTHING IS LEFT EXACTLY WHERE THE COST IS 0

pub ready_cost : (shape : TreeShape) (pages : ℕ) (s : State) (node page : ℕ) (want : Right) → IsReady shape pages s node page want → cost_of shape pages s node page want ≡ 0
ready_cost shape pages s node page want ready = rw ready.roomy (omega (arith, none))
  where
    here : (n : ℕ) → n < nodes shape → (b : Bool) → is_within shape node n ≡ b → must_change want b ((s.column page).right n) ≡ false
    here n h true e = elim (true_or_false (lacks want ((s.column page).right n))) [
      | inl hit ↦ absurd (ready.complete n (record { inside = h; on = e; lacks = hit }))
      | inr miss ↦ miss
    ]
    here n h false e = elim (true_or_false (hinders want ((s.column page).right n))) [
      | inl hit ↦ absurd (ready.free n (record { inside = h; off = e; hinders = hit }))
      | inr miss ↦ miss
    ]

    none : count_below (is_left shape (s.column page) node want) (nodes shape) ≡ 0
    none = count_below-zero (is_left shape (s.column page) node want) (nodes shape) (λ n h. here n h (is_within shape node n) refl)

pub cost_ready : (shape : TreeShape) (pages : ℕ) (s : State) (node page : ℕ) (want : Right) → cost_of shape pages s node page want ≡ 0 → IsReady shape pages s node page want
cost_ready shape pages s node page want none = record {
  free = λ n h. true≢false (sym (rw h.off h.hinders) ∙ clear n h.inside);
  roomy = full_zero (is_full shape pages s node page) (omega (arith, none));
  complete = λ n h. true≢false (sym (rw h.on h.lacks) ∙ clear n h.inside);
}
  where
    full_zero : (b : Bool) → ◌≡◌ {A = ℕ} (cond b 1 0) 0 → b ≡ false
    full_zero true e = absurd (omega (arith, e))
    full_zero false e = refl

    clear : (n : ℕ) → n < nodes shape → is_left shape (s.column page) node want n ≡ false
    clear = count_below-none (is_left shape (s.column page) node want) (nodes shape) (omega (arith, none))

-- where nothing is left, the access may be made

child_off : (shape : TreeShape) (node child : ℕ) → IsTree shape → IsUpper shape node → IsChild shape child node → is_within shape node child ≡ false
child_off shape node child tree upper ic = elim (true_or_false (is_within shape node child)) [
  | inl on ↦ absurd (omega (arith, le_on_path shape tree node child upper.inside on, tree.ordered child ic.upper, ic.hangs))
  | inr off ↦ off
]

pub ready_reads : (shape : TreeShape) (pages : ℕ) (s : State) (node page : ℕ) → IsTree shape → IsUpper shape node → IsReady shape pages s node page Right.Read → MayStep shape (s.column page) (Reads node)
ready_reads shape pages s node page tree upper ready = (
  (λ e. ready.complete node (record { inside = upper.inside; on = is_within-same shape node node refl; lacks = rw e refl })),
  λ child ic w. ready.free child (record { inside = ic.upper.inside; off = child_off shape node child tree upper ic; hinders = rw w refl }),
)

pub ready_writes : (shape : TreeShape) (pages : ℕ) (s : State) (node page : ℕ) → IsTree shape → IsUpper shape node → IsReady shape pages s node page Right.Write → MayStep shape (s.column page) (Writes node)
ready_writes shape pages s node page tree upper ready = (
  elim (true_or_false (lacks Right.Write ((s.column page).right node))) [
    | inl hit ↦ absurd (ready.complete node (record { inside = upper.inside; on = is_within-same shape node node refl; lacks = hit }))
    | inr miss ↦ writer_has ((s.column page).right node) miss
  ],
  λ child ic. elim (true_or_false (hinders Right.Write ((s.column page).right child))) [
    | inl hit ↦ absurd (ready.free child (record { inside = ic.upper.inside; off = child_off shape node child tree upper ic; hinders = hit }))
    | inr miss ↦ free_for_writer ((s.column page).right child) miss
  ],
)

-- and where the column is coherent, nothing is left where the access may be made

module _ (shape : TreeShape) (tree : IsTree shape) (len : ℕ) (col : Column) (coh : IsCoherent shape len col) where
  -- on a path no node has less than the end
  path_within : (k node m : ℕ) → node < k → node < nodes shape → is_within shape node m ≡ true → strength (col.right node) ≤ strength (col.right m)
  path_within zero node m h inside on = absurd (omega arith)
  path_within (suc k) node m h inside on = elim (same_or_not node m) [
    | inl same ↦ subst (λ n. strength (col.right node) ≤ strength (col.right n)) same (omega arith)
    | inr d ↦
        let un : IsUpper shape node = record { above = above_other shape node m d on; inside = inside } in
        let below : parent shape node < node = tree.ordered node un in
        omega (arith, coh.capped node un, path_within k (parent shape node) m (omega arith) (omega arith) (down shape tree node m un d on))
  ]

  pub path_has : (node m : ℕ) → node < nodes shape → is_within shape node m ≡ true → strength (col.right node) ≤ strength (col.right m)
  path_has node m inside on = path_within (suc node) node m (omega arith) inside on

  abbrev OnOnePath : ℕ → ℕ → Type 0
  OnOnePath n m = (is_within shape n m ≡ true) ⊎ (is_within shape m n ≡ true)

  -- a node that has Write and one that has a right are on one path, if both are below k
  abbrev AreComparable : ℕ → Type 0
  AreComparable k = (n m : ℕ) → n < k → m < k → n < nodes shape → m < nodes shape → col.right n ≡ Right.Write → 0 < strength (col.right m) → OnOnePath n m

  strong : (r : Right) → 2 ≤ strength r → r ≡ Right.Write
  strong Right.Nothing h = absurd (omega arith)
  strong Right.Read h = absurd (omega arith)
  strong Right.Write h = refl

  writer_lower : (k n m : ℕ) → AreComparable k → n < m → m < suc k → n < nodes shape → IsUpper shape m → col.right n ≡ Right.Write → 0 < strength (col.right m) → OnOnePath n m
  writer_lower k n m ih less hm nN um wn rm =
      let q : ℕ = parent shape m in
      let below : q < m = tree.ordered m um in
      let rq : 0 < strength (col.right q) = omega (arith, coh.capped m um) in
      elim (same_or_not n q) [
        | inl same ↦ inr (up shape tree m n um (is_within-same shape q n (sym same)))
        | inr d ↦ elim (ih n q (omega arith) (omega arith) nN (omega (arith, um.inside)) wn rq) [
          | inl on ↦ by_child d on
          | inr on ↦ inr (up shape tree m n um on)
        ]
      ]
    where
      by_child : n ≢ parent shape m → is_within shape n (parent shape m) ≡ true → OnOnePath n m
      by_child d on =
          let low = child_on_path shape tree n (parent shape m) nN d on in
          let w : col.right low.0 ≡ Right.Write = strong (col.right low.0) (omega (arith, path_has n low.0 nN low.2, ap strength wn)) in
          elim (same_or_not m low.0) [
            | inl same ↦ inl (subst (λ c. is_within shape n c ≡ true) (sym same) low.2)
            | inr other ↦
                let none = coh.alone low.0 low.1.upper w m (record { upper = um; hangs = sym low.1.hangs }) other in
                absurd (omega (arith, rm, ap strength none))
          ]

  holder_lower : (k n m : ℕ) → AreComparable k → m < n → n < suc k → IsUpper shape n → m < nodes shape → col.right n ≡ Right.Write → 0 < strength (col.right m) → OnOnePath n m
  holder_lower k n m ih less hn un mN wn rm =
      let q : ℕ = parent shape n in
      let below : q < n = tree.ordered n un in
      let wq : col.right q ≡ Right.Write = strong (col.right q) (omega (arith, coh.capped n un, ap strength wn)) in
      elim (same_or_not m q) [
        | inl same ↦ inl (up shape tree n m un (is_within-same shape q m (sym same)))
        | inr d ↦ elim (ih q m (omega arith) (omega arith) (omega (arith, un.inside)) mN wq rm) [
          | inl on ↦ inl (up shape tree n m un on)
          | inr on ↦ by_child d on
        ]
      ]
    where
      by_child : m ≢ parent shape n → is_within shape m (parent shape n) ≡ true → OnOnePath n m
      by_child d on =
          let low = child_on_path shape tree m (parent shape n) mN d on in
          elim (same_or_not low.0 n) [
            | inl same ↦ inr (subst (λ c. is_within shape m c ≡ true) same low.2)
            | inr other ↦
                let none = coh.alone n un wn low.0 low.1 other in
                absurd (omega (arith, rm, path_has m low.0 mN low.2, ap strength none))
          ]

  comparable_below : (k : ℕ) → AreComparable k
  comparable_below zero n m hn hm nN mN wn rm = absurd (omega arith)
  comparable_below (suc k) n m hn hm nN mN wn rm = elim (less_same_more n m) [
    | inl less ↦ writer_lower k n m (comparable_below k) less hm nN (record { above = omega arith; inside = mN }) wn rm
    | inr rest ↦ elim rest [
      | inl same ↦ inl (is_within-same shape n m same)
      | inr more ↦ holder_lower k n m (comparable_below k) more hn (record { above = omega arith; inside = nN }) mN wn rm
    ]
  ]
    where
      less_same_more : (a b : ℕ) → (a < b) ⊎ ((a ≡ b) ⊎ (b < a))
      less_same_more a b = grind arith

  pub comparable : (n m : ℕ) → n < nodes shape → m < nodes shape → col.right n ≡ Right.Write → 0 < strength (col.right m) → OnOnePath n m
  comparable n m nN mN wn rm = comparable_below (nodes shape) n m nN mN nN mN wn rm

has_right : (r : Right) → r ≢ Right.Nothing → 0 < strength r
has_right Right.Nothing d = absurd (d refl)
has_right Right.Read d = omega arith
has_right Right.Write d = omega arith

lacks_none : (want r : Right) → strength want ≤ strength r → lacks want r ≡ false
lacks_none Right.Nothing r h = refl
lacks_none Right.Read Right.Nothing h = absurd (omega arith)
lacks_none Right.Read Right.Read h = refl
lacks_none Right.Read Right.Write h = refl
lacks_none Right.Write Right.Nothing h = absurd (omega arith)
lacks_none Right.Write Right.Read h = absurd (omega arith)
lacks_none Right.Write Right.Write h = refl

-- a node that has the right finds its path complete, and no room is wanted
path_complete : (shape : TreeShape) (pages : ℕ) (s : State) (node page : ℕ) (want : Right) (len : ℕ) → IsTree shape → IsUpper shape node → IsCoherent shape len (s.column page) → strength want ≤ strength ((s.column page).right node) → NoneLacks shape (s.column page) node want
path_complete shape pages s node page want len tree upper coh enough' other h =
    let has = path_has shape tree len (s.column page) coh node other upper.inside h.on in
    true≢false (sym h.lacks ∙ lacks_none want ((s.column page).right other) (omega (arith, has, enough')))

pub reads_ready : (shape : TreeShape) (pages : ℕ) (s : State) (node page : ℕ) (len : ℕ) → IsTree shape → IsUpper shape node → IsCoherent shape len (s.column page) → MayStep shape (s.column page) (Reads node) → IsReady shape pages s node page Right.Read
reads_ready shape pages s node page len tree upper coh may = record {
  free = λ other h.
      let col = s.column page in
      let w = hinders_reader (col.right other) h.hinders in
      let d : other ≢ node = λ e. true≢false (sym (is_within-same shape node other (sym e)) ∙ h.off) in
      elim (comparable shape tree len col coh other node h.inside upper.inside w (has_right (col.right node) may.0)) [
        | inl on ↦
            let low = child_on_path shape tree other node h.inside d on in
            may.1 low.0 low.1 (strong_write (col.right low.0) (omega (arith, path_has shape tree len col coh other low.0 h.inside low.2, ap strength w)))
        | inr on ↦ true≢false (sym on ∙ h.off)
      ];
  roomy = rw (holds_some ((s.column page).right node) may.0) refl;
  complete = path_complete shape pages s node page Right.Read len tree upper coh (has_right ((s.column page).right node) may.0);
}
  where
    strong_write : (r : Right) → 2 ≤ strength r → r ≡ Right.Write
    strong_write Right.Nothing h = absurd (omega arith)
    strong_write Right.Read h = absurd (omega arith)
    strong_write Right.Write h = refl

pub writes_ready : (shape : TreeShape) (pages : ℕ) (s : State) (node page : ℕ) (len : ℕ) → IsTree shape → IsUpper shape node → IsCoherent shape len (s.column page) → MayStep shape (s.column page) (Writes node) → IsReady shape pages s node page Right.Write
writes_ready shape pages s node page len tree upper coh may = record {
  free = λ other h.
      let col = s.column page in
      let has : 0 < strength (col.right other) = hindering (col.right other) h.hinders in
      let d : other ≢ node = λ e. true≢false (sym (is_within-same shape node other (sym e)) ∙ h.off) in
      elim (comparable shape tree len col coh node other upper.inside h.inside may.0 has) [
        | inl on ↦ true≢false (sym on ∙ h.off)
        | inr on ↦
            let low = child_on_path shape tree other node h.inside d on in
            absurd (omega (arith, has, path_has shape tree len col coh other low.0 h.inside low.2, ap strength (may.1 low.0 low.1)))
      ];
  roomy = rw (ap holds may.0) refl;
  complete = path_complete shape pages s node page Right.Write len tree upper coh (omega (arith, ap strength may.0));
}
  where
    hindering : (r : Right) → hinders Right.Write r ≡ true → 0 < strength r
    hindering Right.Nothing h = absurd (false≢true h)
    hindering Right.Read h = omega arith
    hindering Right.Write h = omega arith

-- a full leaf holds a page
held_none : (pages : ℕ) (s : State) (node : ℕ) → HoldsNothing pages s node → held_below s node pages ≡ 0
held_none pages s node none = count_below-zero (λ p. holds ((s.column p).right node)) pages (λ p h. holds_nothing ((s.column p).right node) (none p h))

pub full_holds : (shape : TreeShape) (pages : ℕ) (s : State) (node page : ℕ) → is_full shape pages s node page ≡ true → HoldsNothing pages s node → ⊥
full_holds shape pages s node page full none =
    let parts = full_means (holds ((s.column page).right node)) (frames_of shape node) (held_below s node pages) full in
    parts.1 (omega (arith, parts.2, held_none pages s node none))

-- what follows of any answer

pub answer_allowed : (shape : TreeShape) (pages : ℕ) (s : State) (node page : ℕ) (want : Right) (answer : Next) → IsTree shape → IsUpper shape node → (s.column page).right 0 ≡ Right.Write → IsAnswer shape pages s node page want answer → IfDo answer (IsAllowed shape pages s)
answer_allowed shape pages s node page want Next.Ready tree upper ground rule = tt
answer_allowed shape pages s node page want (Next.Do event) tree upper ground rule = next_allowed shape pages s node page want event tree upper ground rule

pub answer_cheaper : (shape : TreeShape) (pages : ℕ) (s : State) (node page : ℕ) (want : Right) (answer : Next) → IsUpper shape node → (frames_of shape node ≢ 0 → held_below s node pages ≤ frames_of shape node) → IsAnswer shape pages s node page want answer → IfDo answer (λ event. cost_of shape pages (state_after shape s event) node page want + 1 ≡ cost_of shape pages s node page want)
answer_cheaper shape pages s node page want Next.Ready upper framed rule = tt
answer_cheaper shape pages s node page want (Next.Do event) upper framed rule = next_cheaper shape pages s node page want event upper framed rule

pub answer_ready : (shape : TreeShape) (pages : ℕ) (s : State) (node page : ℕ) (want : Right) (answer : Next) → IsUpper shape node → (frames_of shape node ≢ 0 → held_below s node pages ≤ frames_of shape node) → IsAnswer shape pages s node page want answer → answer ≡ Next.Ready ↔ (cost_of shape pages s node page want ≡ 0)
answer_ready shape pages s node page want Next.Ready upper framed rule = ((λ e. ready_cost shape pages s node page want rule), λ z. refl)
answer_ready shape pages s node page want (Next.Do event) upper framed rule =
    ((λ e. absurd (other e)), λ z. absurd (omega (arith, z, next_cheaper shape pages s node page want event upper framed rule)))
  where
    other : Next.Do event ≢ Next.Ready
    other e = cc

-- what the oldest page of a full leaf is
pub victim_answer : (shape : TreeShape) (pages : ℕ) (s : State) (node page : ℕ) (oldest : Option ℕ) → IfNone oldest (HoldsNothing pages s node) → IfSome oldest (IsOldest pages s node) → is_full shape pages s node page ≡ true → MatchOption oldest (is_full shape pages s node page ≡ false) (IsVictim shape pages s node page)
victim_answer shape pages s node page None none some' full = absurd (full_holds shape pages s node page full none)
victim_answer shape pages s node page (Some victim) none some' full = record { full = full; oldest = some' }

-- a node that has the right, none of whose children hinders, has nothing left to do
pub at_once : (shape : TreeShape) (pages : ℕ) (s : State) (node page : ℕ) (want : Right) (len : ℕ) → IsTree shape → IsUpper shape node → IsCoherent shape len (s.column page) → want ≢ Right.Nothing
    → lacks want ((s.column page).right node) ≡ false → ((child : ℕ) → IsChild shape child node → hinders want ((s.column page).right child) ≡ false) → IsReady shape pages s node page want
at_once shape pages s node page Right.Nothing len tree upper coh wanted has free = absurd (wanted refl)
at_once shape pages s node page Right.Read len tree upper coh wanted has free =
    reads_ready shape pages s node page len tree upper coh (reader ((s.column page).right node) has, λ child is. calm ((s.column page).right child) (free child is))
  where
    reader : (r : Right) → lacks Right.Read r ≡ false → r ≢ Right.Nothing
    reader Right.Nothing h = λ e. true≢false h
    reader Right.Read h = λ e. cc
    reader Right.Write h = λ e. cc

    calm : (r : Right) → hinders Right.Read r ≡ false → r ≢ Right.Write
    calm Right.Nothing h = λ e. cc
    calm Right.Read h = λ e. cc
    calm Right.Write h = λ e. true≢false h
at_once shape pages s node page Right.Write len tree upper coh wanted has free =
    writes_ready shape pages s node page len tree upper coh (writer ((s.column page).right node) has, λ child is. calm ((s.column page).right child) (free child is))
  where
    writer : (r : Right) → lacks Right.Write r ≡ false → r ≡ Right.Write
    writer Right.Nothing h = absurd (true≢false h)
    writer Right.Read h = absurd (true≢false h)
    writer Right.Write h = refl

    calm : (r : Right) → hinders Right.Write r ≡ false → r ≡ Right.Nothing
    calm Right.Nothing h = refl
    calm Right.Read h = absurd (true≢false h)
    calm Right.Write h = absurd (true≢false h)

-- where nothing is left no rule fits
not_both : (shape : TreeShape) (pages : ℕ) (s : State) (node page : ℕ) (want : Right) (event : Event) → IsReady shape pages s node page want → IsNext shape pages s node page want event → ⊥
not_both shape pages s node page want event ready (Revoke other first) = ready.free other first.is_one
not_both shape pages s node page want event ready (Evict victim free gone) = true≢false (sym gone.full ∙ ready.roomy)
not_both shape pages s node page want event ready (Grant other free roomy first) = ready.complete other first.is_one

-- whether the access that wants this right may be made
pub answer_may : (shape : TreeShape) (pages : ℕ) (s : State) (node page : ℕ) (want : Right) (answer : Next) → IsTree shape → IsUpper shape node → IsCoherent shape s.len (s.column page) → IsAnswer shape pages s node page want answer → want ≢ Right.Nothing → answer ≡ Next.Ready ↔ MayAccessFor shape (s.column page) node want
answer_may shape pages s node page want (Next.Do event) tree upper coh rule wanted = ((λ e. absurd (other e)), λ may. absurd (unready want wanted may rule))
  where
    other : Next.Do event ≢ Next.Ready
    other e = cc

    busy : (w : Right) → IsReady shape pages s node page w → IsNext shape pages s node page w event → ⊥
    busy w ready next = not_both shape pages s node page w event ready next

    unready : (w : Right) → w ≢ Right.Nothing → MayAccessFor shape (s.column page) node w → IsNext shape pages s node page w event → ⊥
    unready Right.Nothing d may next = d refl
    unready Right.Read d may next = busy Right.Read (reads_ready shape pages s node page s.len tree upper coh may) next
    unready Right.Write d may next = busy Right.Write (writes_ready shape pages s node page s.len tree upper coh may) next
answer_may shape pages s node page want Next.Ready tree upper coh rule wanted = ((λ e. by_want want wanted rule), λ may. refl)
  where
    by_want : (w : Right) → w ≢ Right.Nothing → IsReady shape pages s node page w → MayAccessFor shape (s.column page) node w
    by_want Right.Nothing d ready = absurd (d refl)
    by_want Right.Read d ready = ready_reads shape pages s node page tree upper ready
    by_want Right.Write d ready = ready_writes shape pages s node page tree upper ready

-- the cost is at most the number of nodes: the ground is never left

count_below-le : (f : ℕ → Bool) (k : ℕ) → count_below f k ≤ k
count_below-le f zero = omega arith
count_below-le f (suc k) = one (f k) (count_below-le f k)
  where
    one : (b : Bool) → count_below f k ≤ k → cond b (count_below f k + 1) (count_below f k) ≤ suc k
    one true le = omega arith
    one false le = omega arith

count_below-lt : (f : ℕ → Bool) (k : ℕ) → 0 < k → f 0 ≡ false → count_below f k < k
count_below-lt f zero some' none = absurd (omega arith)
count_below-lt f (suc zero) some' none = rw none (omega arith)
count_below-lt f (suc (suc k)) some' none = one (f (suc k)) (count_below-lt f (suc k) (omega arith) none)
  where
    one : (b : Bool) → count_below f (suc k) < suc k → cond b (count_below f (suc k) + 1) (count_below f (suc k)) < suc (suc k)
    one true le = omega arith
    one false le = omega arith

pub cost_of-le : (shape : TreeShape) (pages : ℕ) (s : State) (node page : ℕ) (want : Right) → IsTree shape → IsUpper shape node → (s.column page).right 0 ≡ Right.Write → cost_of shape pages s node page want ≤ nodes shape
cost_of-le shape pages s node page want tree upper ground =
    at_most (is_full shape pages s node page) (count_below-lt (is_left shape (s.column page) node want) (nodes shape) tree.grounded
    (rw (ground_on_path shape tree node upper.inside) (ground_lacks want ((s.column page).right 0) ground)))
  where
    at_most : (b : Bool) → count_below (is_left shape (s.column page) node want) (nodes shape) < nodes shape → count_below (is_left shape (s.column page) node want) (nodes shape) + cond b 1 0 ≤ nodes shape
    at_most true lt = omega arith
    at_most false lt = omega arith

pub strong_right : (r : Right) → 2 ≤ strength r → r ≡ Right.Write
strong_right Right.Nothing h = absurd (omega arith)
strong_right Right.Read h = absurd (omega arith)
strong_right Right.Write h = refl
