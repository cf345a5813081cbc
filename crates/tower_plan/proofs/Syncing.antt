-- A sync's next event is allowed, and lowers the page's cost by one.
use Rattle.std.proofs.Common.{◌≡◌, ◌≢◌, ℕ, suc, zero, ◌+◌, ◌<◌, ◌≤◌, ◌⊎◌, inl, inr, sym, ◌∙◌, ap, subst, refl, arith, Bool, true, false, ◌↔◌}
use Rattle.std.proofs.lemmas.Bool.{eq-eqb}
use Rattle.hist_plain.specs.declared.event.Keep.{Keep}
use Rattle.tower_core.specs.declared.right.Right.{Right}
use Rattle.tower_core.specs.declared.step.Step.{Step}
use Rattle.tower_core.specs.declared.step.Step.TheVariants.{Pushes, Denies}
use Rattle.tower_core.specs.TreeShape.{TreeShape, parent, nodes, is_within, IsUpper, IsChild, IsTree}
use Rattle.tower_core.specs.Column.{Column, IsCoherent, NoChildWrites, column_after, strength}
use Rattle.tower_core.specs.Trail.{State, state_after, of_page, IsAllowed, IsSettled}
use Rattle.tower_core.proofs.StepLaw.{updated-same, updated-other}
use Rattle.tower_core.proofs.Paths.{down, above_other}
use Rattle.tower_plan.specs.declared.plan.Next.{Next}
use Rattle.tower_plan.specs.Plan.{depth_of, IfDo}
use Rattle.tower_plan.specs.Sync.{IsPusher, IsDeepestPusher, NoPusher, pushing, IsUnsettled, Push, IsSyncAnswer, IsSyncCost, IsOneLess, Settled, Left}
use Rattle.tower_plan.proofs.Rules.{same_or_not, depth_of-child, comparable, strong_right}

is_write_or_not : (r : Right) → (r ≡ Right.Write) ⊎ (r ≢ Right.Write)
is_write_or_not Right.Nothing = inr (λ e. cc)
is_write_or_not Right.Read = inr (λ e. cc)
is_write_or_not Right.Write = inl refl

module _ (shape : TreeShape) (tree : IsTree shape) (len : ℕ) (col : Column) (coh : IsCoherent shape len col) where
  -- a child with Write, or none below the bound
  search_child : (k node : ℕ) → ((c : ℕ) × IsChild shape c node × (col.right c ≡ Right.Write)) ⊎ ((c : ℕ) → c < k → IsChild shape c node → col.right c ≢ Right.Write)
  search_child zero node = inr (λ c h ic. absurd (omega arith))
  search_child (suc k) node = elim (search_child k node) [
    | inl found ↦ inl found
    | inr none ↦ at_k none (below_or_not k (nodes shape)) (same_or_not (parent shape k) node) (is_write_or_not (col.right k)) (same_or_not k 0)
  ]
    where
      below_or_not : (a b : ℕ) → (a < b) ⊎ (b ≤ a)
      below_or_not a b = grind arith

      Goal : Type 0
      Goal = ((c : ℕ) × IsChild shape c node × (col.right c ≡ Right.Write)) ⊎ ((c : ℕ) → c < suc k → IsChild shape c node → col.right c ≢ Right.Write)

      extend : ((c : ℕ) → c < k → IsChild shape c node → col.right c ≢ Right.Write) → (IsChild shape k node → col.right k ≢ Right.Write) → Goal
      extend none here = inr (λ c h ic. elim (same_or_not c k) [
        | inl same ↦ subst (λ n. col.right n ≢ Right.Write) (sym same) (here (subst (λ n. IsChild shape n node) same ic))
        | inr d ↦ none c (omega arith) ic
      ])

      at_k : ((c : ℕ) → c < k → IsChild shape c node → col.right c ≢ Right.Write) → (k < nodes shape) ⊎ (nodes shape ≤ k) → (parent shape k ≡ node) ⊎ (parent shape k ≢ node) → (col.right k ≡ Right.Write) ⊎ (col.right k ≢ Right.Write) → (k ≡ 0) ⊎ (k ≢ 0) → Goal
      at_k none (inl inside) (inl hangs) (inl w) (inr d) = inl (k, record { upper = record { above = omega arith; inside = inside }; hangs = hangs }, w)
      at_k none (inl inside) (inl hangs) (inl w) (inl z) = extend none (λ ic. absurd (omega (arith, ic.upper.above)))
      at_k none (inl inside) (inl hangs) (inr nw) z = extend none (λ ic. nw)
      at_k none (inl inside) (inr off) w z = extend none (λ ic. absurd (off ic.hangs))
      at_k none (inr out) p w z = extend none (λ ic. absurd (omega (arith, ic.upper.inside)))

  -- a node's children that write: one, or none
  writing_child : (node : ℕ) → ((c : ℕ) × IsChild shape c node × (col.right c ≡ Right.Write)) ⊎ NoChildWrites shape col node
  writing_child node = elim (search_child (nodes shape) node) [ inl found ↦ inl found | inr none ↦ inr (λ c ic. none c ic.upper.inside ic) ]

  -- below a writer there is a writer that no child writes below, and what passes from writer to child holds of it
  descend : (P : ℕ → Type 0) → ((x c : ℕ) → P x → IsChild shape c x → col.right c ≡ Right.Write → P c) → (k m : ℕ) → nodes shape ≤ m + k → m < nodes shape → col.right m ≡ Right.Write → P m → (d : ℕ) × (d < nodes shape) × (col.right d ≡ Right.Write) × NoChildWrites shape col d × P d
  descend P pass zero m far inside w p = absurd (omega arith)
  descend P pass (suc k) m far inside w p = elim (writing_child m) [
    | inl found ↦
        let below : m < found.0 = omega (arith, tree.ordered found.0 found.1.upper, found.1.hangs) in
        descend P pass k found.0 (omega arith) found.1.upper.inside found.2 (pass m found.0 p found.1 found.2)
    | inr none ↦ (m, inside, w, none, p)
  ]

  -- the bytes of a writer below which nothing is changed are the newest
  newest_at : (P : ℕ → Type 0) → ((x c : ℕ) → P x → IsChild shape c x → col.right c ≡ Right.Write → P c) → ((x c : ℕ) → P x → IsChild shape c x → col.right c ≡ Right.Write → col.at c ≡ col.at x) → (m : ℕ) → m < nodes shape → col.right m ≡ Right.Write → P m → col.newest ≤ col.at m
  newest_at P pass same m inside w p =
      let end = descend (λ x. P x × (col.at x ≡ col.at m)) (λ x c q ic wc. (pass x c q.0 ic wc, same x c q.0 ic wc ∙ q.1)) (nodes shape) m (omega arith) inside w (p, refl) in
      omega (arith, coh.current end.0 end.1 (λ e. nothing_is_not (sym e ∙ end.2)) end.3, end.4.1)
    where
      nothing_is_not : Right.Nothing ≢ Right.Write
      nothing_is_not e = cc

  -- where nobody pushes the ground shows the newest bytes
  changed_or_not : (node : ℕ) → (col.at node ≡ col.at (parent shape node)) ⊎ (col.at node ≢ col.at (parent shape node))
  changed_or_not node = same_or_not (col.at node) (col.at (parent shape node))

  idle_child : (keep : Keep) → NoPusher shape col keep → (x c : ℕ) → IsChild shape c x → col.right c ≡ Right.Write → col.at c ≡ col.at x
  idle_child keep none x c ic w = elim (changed_or_not c) [
    | inl same ↦ same ∙ ap col.at ic.hangs
    | inr d ↦ absurd (none c (record { upper = ic.upper; writes = w; changed = λ k. d }))
  ]

  pub idle_newest : (keep : Keep) → col.right 0 ≡ Right.Write → NoPusher shape col keep → col.newest ≤ col.at 0
  idle_newest keep ground none = newest_at (λ x. Unit {0}) (λ x c p ic w. tt) (λ x c p ic w. idle_child keep none x c ic w) 0 tree.grounded ground tt

  -- below the deepest node that pushes nothing is changed, so it shows the newest bytes
  deeper_child : (keep : Keep) (m x c : ℕ) → IsDeepestPusher shape col keep m → depth_of shape m ≤ depth_of shape x → IsChild shape c x → col.right c ≡ Right.Write → col.at c ≡ col.at x
  deeper_child keep m x c first deep ic w = elim (changed_or_not c) [
    | inl same ↦ same ∙ ap col.at ic.hangs
    | inr d ↦
        let low = first.deepest c (record { upper = ic.upper; writes = w; changed = λ k. d }) in
        absurd (omega (arith, low, depth_of-child shape c x tree ic))
  ]

  pusher_newest : (keep : Keep) (m : ℕ) → IsDeepestPusher shape col keep m → col.newest ≤ col.at m
  pusher_newest keep m first =
      newest_at (λ x. depth_of shape m ≤ depth_of shape x)
      (λ x c p ic w. omega (arith, p, depth_of-child shape c x tree ic))
      (λ x c p ic w. deeper_child keep m x c first p ic w)
      m first.is_one.upper.inside first.is_one.writes (omega arith)

  -- on a path depths fall
  depth_falls_within : (k node c : ℕ) → node < k → node < nodes shape → node ≢ c → is_within shape node c ≡ true → depth_of shape c < depth_of shape node
  depth_falls_within zero node c h inside d on = absurd (omega arith)
  depth_falls_within (suc k) node c h inside d on =
      let un : IsUpper shape node = record { above = above_other shape node c d on; inside = inside } in
      let below : parent shape node < node = tree.ordered node un in
      let step = depth_of-child shape node (parent shape node) tree (record { upper = un; hangs = refl }) in
      elim (same_or_not (parent shape node) c) [
        | inl same ↦ omega (arith, step, ap (depth_of shape) same)
        | inr e ↦ omega (arith, step, depth_falls_within k (parent shape node) c (omega arith) (omega arith) e (down shape tree node c un d on))
      ]

  -- two writers of one depth are one
  one_writer : (m o : ℕ) → IsUpper shape m → IsUpper shape o → col.right m ≡ Right.Write → col.right o ≡ Right.Write → depth_of shape m ≡ depth_of shape o → m ≡ o
  one_writer m o um uo wm wo same = elim (same_or_not m o) [
    | inl e ↦ e
    | inr d ↦ elim (comparable shape tree len col coh m o um.inside uo.inside wm (omega (arith, ap strength wo))) [
      | inl on ↦ absurd (omega (arith, depth_falls_within (suc m) m o (omega arith) um.inside d on))
      | inr on ↦ absurd (omega (arith, depth_falls_within (suc o) o m (omega arith) uo.inside (λ e. d (sym e)) on))
    ]
  ]

  parent_writes : (m : ℕ) → IsUpper shape m → col.right m ≡ Right.Write → col.right (parent shape m) ≡ Right.Write
  parent_writes m um w = strong_right (col.right (parent shape m)) (omega (arith, coh.capped m um, ap strength w))

-- a push: the parent shows what the node does, and the node keeps Write or Read
record Pushed (shape : TreeShape) (old new : Column) (keep : Keep) (m : ℕ) : Type 0 where
  above : new.at (parent shape m) ≡ old.at m
  others : (n : ℕ) → n ≢ parent shape m → new.at n ≡ old.at n
  rights : (n : ℕ) → n ≢ m → new.right n ≡ old.right n
  kept : keep ≡ Keep.Write → new.right m ≡ Right.Write
  left : keep ≡ Keep.Read → new.right m ≡ Right.Read
  newest : new.newest ≡ old.newest

keep_is : (keep : Keep) → (keep ≡ Keep.Write) ⊎ (keep ≡ Keep.Read)
keep_is Keep.Write = inl refl
keep_is Keep.Read = inr refl

module _ (shape : TreeShape) (tree : IsTree shape) (len : ℕ) (old new : Column) (coh : IsCoherent shape len old) (from : ℕ) (keep : Keep) (m : ℕ) (unsettled : IsUnsettled from old) (first : IsDeepestPusher shape old keep m) (push : Pushed shape old new keep m) where
  um : IsUpper shape m
  um = first.is_one.upper

  below : parent shape m < m
  below = tree.ordered m um

  step : depth_of shape m ≡ depth_of shape (parent shape m) + 1
  step = depth_of-child shape m (parent shape m) tree (record { upper = um; hangs = refl })

  -- the last push settles the page
  settles : parent shape m ≡ 0 → IsSettled from new
  settles z = inr (omega (arith, push.newest, push.above, ap new.at z, pusher_newest shape tree len old coh keep m first))

  -- another does not
  still_unsettled : parent shape m ≢ 0 → IsUnsettled from new
  still_unsettled nz settled =
      let same : new.at 0 ≡ old.at 0 = push.others 0 (λ e. nz (sym e)) in
      unsettled (elim settled [ inl late ↦ inl (omega (arith, late, same)) | inr fresh ↦ inr (omega (arith, fresh, same, push.newest)) ])

  upper_parent : parent shape m ≢ 0 → IsUpper shape (parent shape m)
  upper_parent nz = record { above = omega arith; inside = omega (arith, um.inside) }

  parent_pushes : parent shape m ≢ 0 → IsPusher shape new keep (parent shape m)
  parent_pushes nz =
      let uq = upper_parent nz in
      let wq = parent_writes shape tree len old coh m um first.is_one.writes in
      let lower : parent shape (parent shape m) < parent shape m = tree.ordered (parent shape m) uq in
      record {
        upper = uq;
        writes = push.rights (parent shape m) (omega arith) ∙ wq;
        changed = λ k e. first.is_one.changed k (omega (
          arith,
          e,
          push.above,
          push.others (parent shape (parent shape m)) (omega arith),
          coh.writing m um first.is_one.writes,
          coh.writing (parent shape m) uq wq,
        ));
      }

  -- who pushes then has pushed before, and was not as deep
  was_pusher : (o : ℕ) → o ≢ m → o ≢ parent shape m → IsPusher shape new keep o → IsPusher shape old keep o
  was_pusher o d dq p =
      let w : old.right o ≡ Right.Write = sym (push.rights o d) ∙ p.writes in
      record {
        upper = p.upper;
        writes = w;
        changed = λ k e. p.changed k (push.others o dq ∙ e ∙ sym (push.others (parent shape o) (λ same. sibling same w)));
      }
    where
      nothing_is_not : Right.Nothing ≢ Right.Write
      nothing_is_not e = cc

      sibling : parent shape o ≡ parent shape m → old.right o ≢ Right.Write
      sibling same w = nothing_is_not (sym (coh.alone m um first.is_one.writes o (record { upper = p.upper; hangs = same }) d) ∙ w)

  not_again : IsPusher shape new keep m → ⊥
  not_again p = elim (keep_is keep) [
    | inl k ↦ p.changed k (push.others m (omega (arith, below)) ∙ sym push.above)
    | inr k ↦ read_is_not (sym (push.left k) ∙ p.writes)
  ]
    where
      read_is_not : Right.Read ≢ Right.Write
      read_is_not e = cc

  parent_deepest : parent shape m ≢ 0 → IsDeepestPusher shape new keep (parent shape m)
  parent_deepest nz = record {
    is_one = parent_pushes nz;
    deepest = λ o p. elim (same_or_not o m) [
      | inl same ↦ absurd (not_again (subst (λ n. IsPusher shape new keep n) same p))
      | inr d ↦ elim (same_or_not o (parent shape m)) [
        | inl same ↦ omega (arith, ap (depth_of shape) same)
        | inr dq ↦
            let before = was_pusher o d dq p in
            let low = first.deepest o before in
            elim (same_or_not (depth_of shape m) (depth_of shape o)) [
              | inl equal ↦ absurd (d (sym (one_writer shape tree len old coh m o um before.upper first.is_one.writes before.writes equal)))
              | inr less ↦ omega (arith, low, step)
            ]
      ]
    ];
  }

  -- from a cost to one less
  cheaper : (n : ℕ) → depth_of shape m ≡ n + 1 → IsSyncCost shape new from keep n
  cheaper n e = elim (same_or_not (parent shape m) 0) [
    | inl z ↦
        let none : 0 ≡ n = omega (arith, step, e, ap (depth_of shape) z) in
        subst (IsSyncCost shape new from keep) none (Settled (settles z))
    | inr nz ↦
        let there : depth_of shape (parent shape m) ≡ n = omega (arith, step, e) in
        subst (IsSyncCost shape new from keep) there (Left (parent shape m) (still_unsettled nz) (parent_deepest nz))
  ]

-- the table's pushes are such

pushes : (shape : TreeShape) (len : ℕ) (old : Column) (m : ℕ) → parent shape m < m → old.right m ≡ Right.Write → Pushed shape old (column_after shape len old (Pushes m)) Keep.Write m
pushes shape len old m low w = record {
  above = updated-same old.at (parent shape m) (old.at m);
  others = λ n d. updated-other old.at (parent shape m) (old.at m) n d;
  rights = λ n d. refl;
  kept = λ k. w;
  left = λ k. absurd (write_is_not k);
  newest = refl;
}
  where
    write_is_not : Keep.Write ≢ Keep.Read
    write_is_not e = cc

denies : (shape : TreeShape) (len : ℕ) (old : Column) (m : ℕ) → parent shape m < m → Pushed shape old (column_after shape len old (Denies m)) Keep.Read m
denies shape len old m low = record {
  above = updated-same old.at (parent shape m) (old.at m);
  others = λ n d. updated-other old.at (parent shape m) (old.at m) n d;
  rights = λ n d. updated-other old.right m Right.Read n d;
  kept = λ k. absurd (read_is_not k);
  left = λ k. updated-same old.right m Right.Read;
  newest = refl;
}
  where
    read_is_not : Keep.Read ≢ Keep.Write
    read_is_not e = cc

-- on the page itself the event is its step
on_own_page : (shape : TreeShape) (len : ℕ) (col : Column) (page : ℕ) (step : Step) → column_after shape len col step ≡ column_after shape len col (of_page page page step)
on_own_page shape len col page step = rw (eq-eqb page page refl) refl

pushed : (shape : TreeShape) (s : State) (page m : ℕ) (keep : Keep) (on : Bool) → parent shape m < m → (s.column page).right m ≡ Right.Write → Pushed shape (s.column page) ((state_after shape s (pushing keep on m page)).column page) keep m
pushed shape s page m Keep.Write true low w = subst (λ c. Pushed shape (s.column page) c Keep.Write m) (on_own_page shape s.len (s.column page) page (Pushes m)) (pushes shape s.len (s.column page) m low w)
pushed shape s page m Keep.Write false low w = subst (λ c. Pushed shape (s.column page) c Keep.Write m) (on_own_page shape s.len (s.column page) page (Pushes m)) (pushes shape s.len (s.column page) m low w)
pushed shape s page m Keep.Read true low w = subst (λ c. Pushed shape (s.column page) c Keep.Read m) (on_own_page shape s.len (s.column page) page (Denies m)) (denies shape s.len (s.column page) m low)
pushed shape s page m Keep.Read false low w = subst (λ c. Pushed shape (s.column page) c Keep.Read m) (on_own_page shape s.len (s.column page) page (Denies m)) (denies shape s.len (s.column page) m low)

-- no child of the deepest writer writes
deepest_alone : (shape : TreeShape) (col : Column) (m : ℕ) → IsTree shape → IsDeepestPusher shape col Keep.Read m → NoChildWrites shape col m
deepest_alone shape col m tree first child ic w =
    let low = first.deepest child (record { upper = ic.upper; writes = w; changed = λ k. absurd (read_is_not k) }) in
    absurd (omega (arith, low, depth_of-child shape child m tree ic))
  where
    read_is_not : Keep.Read ≢ Keep.Write
    read_is_not e = cc

push_allowed : (shape : TreeShape) (pages : ℕ) (s : State) (page m : ℕ) (keep : Keep) (on : Bool) → IsTree shape → IsDeepestPusher shape (s.column page) keep m → IsAllowed shape pages s (pushing keep on m page)
push_allowed shape pages s page m Keep.Write true tree first = record { upper = first.is_one.upper; line = first.is_one.writes }
push_allowed shape pages s page m Keep.Write false tree first = record { upper = first.is_one.upper; line = first.is_one.writes }
push_allowed shape pages s page m Keep.Read true tree first = record { upper = first.is_one.upper; line = (first.is_one.writes, deepest_alone shape (s.column page) m tree first) }
push_allowed shape pages s page m Keep.Read false tree first = record { upper = first.is_one.upper; line = (first.is_one.writes, deepest_alone shape (s.column page) m tree first) }

-- two deepest nodes that push are equally deep
same_depth : (shape : TreeShape) (col : Column) (keep : Keep) (m o : ℕ) → IsDeepestPusher shape col keep m → IsDeepestPusher shape col keep o → depth_of shape m ≡ depth_of shape o
same_depth shape col keep m o fm fo = omega (arith, fm.deepest o fo.is_one, fo.deepest m fm.is_one)

-- a page has one cost
pub one_cost : (shape : TreeShape) (col : Column) (from : ℕ) (keep : Keep) (m n : ℕ) → IsSyncCost shape col from keep m → IsSyncCost shape col from keep n → m ≡ n
one_cost shape col from keep m n (Settled a) (Settled b) = refl
one_cost shape col from keep m n (Settled a) (Left other u first) = absurd (u a)
one_cost shape col from keep m n (Left other u first) (Settled b) = absurd (u b)
one_cost shape col from keep m n (Left one u fo) (Left other v ft) = same_depth shape col keep one other fo ft

-- what follows of any answer

pub sync_answer_allowed : (shape : TreeShape) (pages : ℕ) (s : State) (page node from : ℕ) (keep : Keep) (answer : Next) → IsTree shape → IsSyncAnswer shape s page node from keep answer → IfDo answer (IsAllowed shape pages s)
sync_answer_allowed shape pages s page node from keep Next.Ready tree rule = tt
sync_answer_allowed shape pages s page node from keep (Next.Do event) tree (Push other unsettled first) = push_allowed shape pages s page other keep (is_within shape node other) tree first

pub sync_answer_cheaper : (shape : TreeShape) (s : State) (page node from : ℕ) (keep : Keep) (answer : Next) → IsTree shape → IsCoherent shape s.len (s.column page) → IsSyncAnswer shape s page node from keep answer → IfDo answer (λ event. IsOneLess (IsSyncCost shape (s.column page) from keep) (IsSyncCost shape ((state_after shape s event).column page) from keep))
sync_answer_cheaper shape s page node from keep Next.Ready tree coh rule = tt
sync_answer_cheaper shape s page node from keep (Next.Do event) tree coh (Push other unsettled first) =
    let um = first.is_one.upper in
    let step = depth_of-child shape other (parent shape other) tree (record { upper = um; hangs = refl }) in
    record {
      left = depth_of shape (parent shape other);
      cost_before = subst (IsSyncCost shape (s.column page) from keep) step (Left other unsettled first);
      cost_after = cheaper shape tree s.len (s.column page) ((state_after shape s (pushing keep (is_within shape node other) other page)).column page) coh from keep other unsettled first
          (pushed shape s page other keep (is_within shape node other) (tree.ordered other um) first.is_one.writes)
          (depth_of shape (parent shape other)) step;
    }

pub sync_answer_ready : (shape : TreeShape) (s : State) (page node from : ℕ) (keep : Keep) (answer : Next) → IsSyncAnswer shape s page node from keep answer → answer ≡ Next.Ready ↔ IsSettled from (s.column page)
sync_answer_ready shape s page node from keep Next.Ready rule = ((λ e. rule), λ settled. refl)
sync_answer_ready shape s page node from keep (Next.Do event) (Push other unsettled first) = ((λ e. absurd (differ e)), λ settled. absurd (unsettled settled))
  where
    differ : Next.Do event ≢ Next.Ready
    differ e = cc
