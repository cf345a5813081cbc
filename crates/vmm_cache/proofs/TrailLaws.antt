-- The list of uses along a trail.
use Rattle.std.specs.Prelude.{nat_eq, ◌↔◌, ◌||◌}
use Rattle.std.proofs.Common.{◌≡◌, ◌≢◌, ℕ, ◌+◌, ◌<◌, ◌≤◌, sym, ◌∙◌, ap, subst, refl, arith, inl, inr, ◌⊎◌, Bool, true, false, cond, List, [], ◌∷◌, ◌++◌, length, get_or, All, Contains}
use Rattle.std.specs.List.{AllPairs, list_any, fold}
use Rattle.std.proofs.lemmas.Bool.Decides.{eqb_tells}
use Rattle.std.proofs.lemmas.List.{get_or_append_left, get_or_push, length_push}
use Rattle.std.proofs.lemmas.List.Elements.{Contains-push, Contains-push_cases, Contains-append_left, Contains-get_or, All-contains, filter_passes}
use Rattle.std.proofs.lemmas.List.Kept.{AllPairs-filter}
use Rattle.std.proofs.lemmas.Map.Keys.{IsDistinct-from_apart}
use Rattle.lru.proofs.Splits.{Contains-head, Contains-tail, Contains-cons, Contains-nil}
use Rattle.hist_plain.specs.declared.event.Event.{Event}
use Rattle.tower_core.specs.declared.right.Right.{Right}
use Rattle.tower_core.specs.declared.step.Step.{Step}
use Rattle.tower_core.specs.declared.step.Step.TheVariants.{Untouched, Reads, Writes, Grants, PagesOut, Denies, Pushes, Flushes, Deletes}
use Rattle.tower_core.specs.TreeShape.{TreeShape, IsTree}
use Rattle.tower_core.specs.Column.{Column, is_use, used_after, right_after, MayStep, node_of_step}
use Rattle.tower_core.specs.Trail.{State, state_of, state_after, start, step_of, of_page, holds, IsAllowed, held_below}
use Rattle.tower_core.proofs.Held.{right_after-other}
use Rattle.tower_core.proofs.Legals.{state_of-snoc}
use Rattle.tower_core.proofs.Trails.{on_each_page}
use Rattle.page_messages.proofs.NodeSets.{same_or_not}
use Rattle.page_messages.proofs.KeptLaws.{write_some}
use Rattle.vmm_cache.specs.Uses.{without, used_last}
use Rattle.vmm_cache.specs.Used.{is_loss, uses_after, AreUses}
use Rattle.vmm_cache.proofs.Sides.{counted}
use Rattle.vmm_cache.proofs.Listing.{is_other, other_same, other_apart, eq_same, eq_apart}

-- what a list has without one of its pages
kept_other : (page : ℕ) (xs : List ℕ) (x : ℕ) → Contains xs x → x ≢ page → Contains (without page xs) x
kept_other page [] x c d = absurd (Contains-nil x c)
kept_other page (y ∷ xs) x c d = elim (Contains-cons y xs x c) [
  | inl e ↦ subst (λ (b : Bool). Contains (cond b (y ∷ without page xs) (without page xs)) x) (sym (ap (is_other page) e ∙ other_apart page x d)) (subst (Contains (y ∷ without page xs)) e (Contains-head y (without page xs)))
  | inr r ↦ more (is_other page y) (kept_other page xs x r d)
]
  where
    more : (b : Bool) → Contains (without page xs) x → Contains (cond b (y ∷ without page xs) (without page xs)) x
    more true h = Contains-tail y (without page xs) x h
    more false h = h

was_there : (page : ℕ) (xs : List ℕ) (x : ℕ) → Contains (without page xs) x → Contains xs x
was_there page [] x c = c
was_there page (y ∷ xs) x c = back (is_other page y) (was_there page xs x) c
  where
    back : (b : Bool) → (Contains (without page xs) x → Contains xs x) → Contains (cond b (y ∷ without page xs) (without page xs)) x → Contains (y ∷ xs) x
    back true rest h = elim (Contains-cons y (without page xs) x h) [ inl e ↦ subst (Contains (y ∷ xs)) e (Contains-head y xs) | inr r ↦ Contains-tail y xs x (rest r) ]
    back false rest h = Contains-tail y xs x (rest h)

not_it : (page : ℕ) (xs : List ℕ) (x : ℕ) → Contains (without page xs) x → x ≢ page
not_it page xs x c e =
    let passes : is_other page x ≡ true = All-contains (λ y. is_other page y ≡ true) (without page xs) x (filter_passes (is_other page) xs) c in
    let clash : true ≡ false = sym passes ∙ ap (is_other page) e ∙ other_same page in cc

-- pairs of a list with one more at its end
pairs_push : (R : ℕ → ℕ → Type 0) (xs : List ℕ) (x : ℕ) → AllPairs R xs → ((y : ℕ) → Contains xs y → R y x) → AllPairs R (xs ++ x ∷ [])
pairs_push R xs x pairs last i j d lt inside =
    elim (same_or_not j (length xs)) [
      | inl e ↦
          let low : i < length xs = omega (arith, lt, e) in
          subst (λ (a : ℕ). R a (get_or (xs ++ x ∷ []) j d)) (sym (get_or_append_left xs (x ∷ []) d i low))
          (subst (λ (b : ℕ). R (get_or xs i d) b) (sym (get_or_push xs x d j (sym e))) (last (get_or xs i d) (Contains-get_or xs i d low)))
      | inr n ↦
          let high : j < length xs = omega (arith, inside, n, length_push xs x) in
          let low : i < length xs = omega (arith, lt, high) in
          subst (λ (a : ℕ). R a (get_or (xs ++ x ∷ []) j d)) (sym (get_or_append_left xs (x ∷ []) d i low))
          (subst (λ (b : ℕ). R (get_or xs i d) b) (sym (get_or_append_left xs (x ∷ []) d j high)) (pairs i j d lt high))
    ]

pairs_as : (R Q : ℕ → ℕ → Type 0) (xs : List ℕ) → ((x y : ℕ) → Contains xs x → Contains xs y → R x y → Q x y) → AllPairs R xs → AllPairs Q xs
pairs_as R Q xs f pairs i j d lt inside =
    let low : i < length xs = omega (arith, lt, inside) in
    f (get_or xs i d) (get_or xs j d) (Contains-get_or xs i d low) (Contains-get_or xs j d inside) (pairs i j d lt inside)

-- what a step makes of the node's right
record Moves (uses loses : Bool) (old new : Right) : Type 0 where
  used : uses ≡ true → new ≢ Right.Nothing
  lost : uses ≡ false → loses ≡ true → new ≡ Right.Nothing
  kept : uses ≡ false → loses ≡ false → (new ≢ Right.Nothing) ↔ (old ≢ Right.Nothing)

as_used : (old new : Right) → new ≢ Right.Nothing → Moves true false old new
as_used old new some = record { used = λ _. some; lost = λ e. absurd (let f : ⊥ = cc in f); kept = λ e. absurd (let f : ⊥ = cc in f) }

as_lost : (old new : Right) → new ≡ Right.Nothing → Moves false true old new
as_lost old new none = record { used = λ e. absurd (let f : ⊥ = cc in f); lost = λ _ _. none; kept = λ _ e. absurd (let f : ⊥ = cc in f) }

as_kept : (old new : Right) → ((new ≢ Right.Nothing) ↔ (old ≢ Right.Nothing)) → Moves false false old new
as_kept old new both = record { used = λ e. absurd (let f : ⊥ = cc in f); lost = λ _ e. absurd (let f : ⊥ = cc in f); kept = λ _ _. both }

same_right : (old new : Right) → new ≡ old → (new ≢ Right.Nothing) ↔ (old ≢ Right.Nothing)
same_right old new e = (λ some n. some (e ∙ n), λ some n. some (sym e ∙ n))

module _ (shape : TreeShape) (col : Column) (node : ℕ) where
  moves_here : (step : Step) → node ≡ node_of_step step → step ≢ Untouched → MayStep shape col step → Moves (is_use node step) (is_loss node step) (col.right node) (right_after col.right step node)
  moves_here Untouched e d may = absurd (d refl)
  moves_here (Reads n) e d may = rw (e, eq_same n) (as_used (col.right n) (col.right n) may.0)
  moves_here (Writes n) e d may = rw (e, eq_same n) (as_used (col.right n) (col.right n) (write_some (col.right n) may.0))
  moves_here (Grants n true) e d may = rw (e, eq_same n) (as_used (col.right n) Right.Write (λ x. let f : ⊥ = cc in f))
  moves_here (Grants n false) e d may = rw (e, eq_same n) (as_used (col.right n) Right.Read (λ x. let f : ⊥ = cc in f))
  moves_here (PagesOut n) e d may = rw (e, eq_same n) (as_lost (col.right n) Right.Nothing refl)
  moves_here (Denies n) e d may = rw (e, eq_same n) (as_kept (col.right n) Right.Read (λ x. write_some (col.right n) may.0, λ x y. let f : ⊥ = cc in f))
  moves_here (Pushes n) e d may = rw e (as_kept (col.right n) (col.right n) (same_right (col.right n) (col.right n) refl))
  moves_here (Flushes n) e d may = rw (e, eq_same n) (as_lost (col.right n) Right.Nothing refl)
  moves_here (Deletes n) e d may = rw (e, eq_same n) (as_lost (col.right n) Right.Nothing refl)

  no_use : (step : Step) → node ≢ node_of_step step → is_use node step ≡ false
  no_use Untouched d = refl
  no_use (Reads n) d = eq_apart node n d
  no_use (Writes n) d = eq_apart node n d
  no_use (Grants n write) d = eq_apart node n d
  no_use (PagesOut n) d = refl
  no_use (Denies n) d = refl
  no_use (Pushes n) d = refl
  no_use (Flushes n) d = refl
  no_use (Deletes n) d = refl

  no_loss : (step : Step) → node ≢ node_of_step step → is_loss node step ≡ false
  no_loss Untouched d = refl
  no_loss (Reads n) d = refl
  no_loss (Writes n) d = refl
  no_loss (Grants n write) d = refl
  no_loss (PagesOut n) d = eq_apart node n d
  no_loss (Denies n) d = refl
  no_loss (Pushes n) d = refl
  no_loss (Flushes n) d = eq_apart node n d
  no_loss (Deletes n) d = eq_apart node n d

  touched : (step : Step) → (step ≡ Untouched) ⊎ (step ≢ Untouched)
  touched Untouched = inl refl
  touched (Reads n) = inr (λ e. let f : ⊥ = cc in f)
  touched (Writes n) = inr (λ e. let f : ⊥ = cc in f)
  touched (Grants n write) = inr (λ e. let f : ⊥ = cc in f)
  touched (PagesOut n) = inr (λ e. let f : ⊥ = cc in f)
  touched (Denies n) = inr (λ e. let f : ⊥ = cc in f)
  touched (Pushes n) = inr (λ e. let f : ⊥ = cc in f)
  touched (Flushes n) = inr (λ e. let f : ⊥ = cc in f)
  touched (Deletes n) = inr (λ e. let f : ⊥ = cc in f)

  moves : (step : Step) → MayStep shape col step → Moves (is_use node step) (is_loss node step) (col.right node) (right_after col.right step node)
  moves step may = elim (touched step) [
    | inl none ↦ rw none (as_kept (col.right node) (col.right node) (same_right (col.right node) (col.right node) refl))
    | inr some ↦ elim (same_or_not node (node_of_step step)) [
      | inl here ↦ moves_here step here some may
      | inr d ↦ rw (no_use step d, no_loss step d) (as_kept (col.right node) (right_after col.right step node) (same_right (col.right node) (right_after col.right step node) (right_after-other col.right step node d)))
    ]
  ]

-- no use is yet to come
abbrev IsPast : State → Type 0
IsPast s = (page node : ℕ) → s.used page node ≤ s.len

past_after : (shape : TreeShape) (s : State) (event : Event) → IsPast s → IsPast (state_after shape s event)
past_after shape s event past page node = bound (is_use node (step_of s.life page event))
  where
    bound : (b : Bool) → cond b (s.len + 1) (s.used page node) ≤ s.len + 1
    bound true = omega arith
    bound false = omega (arith, past page node)

past_run : (shape : TreeShape) (s : State) (trail : List Event) → IsPast s → IsPast (fold (state_after shape) s trail)
past_run shape s [] past = past
past_run shape s (event ∷ events) past = past_run shape (state_after shape s event) events (past_after shape s event past)

pub trail_past : (shape : TreeShape) (trail : List Event) → IsPast (state_of shape trail)
trail_past shape trail = past_run shape start trail (λ page node. omega arith)

same_page : (page : ℕ) (step : Step) → of_page page page step ≡ step
same_page page step = rw (eq_same page) refl

other_page : (p page : ℕ) (step : Step) → p ≢ page → of_page p page step ≡ Untouched
other_page p page step d = rw (eq_apart page p (λ e. d (sym e))) refl

-- THE LIST AFTER AN EVENT
module _ (shape : TreeShape) (s : State) (event : Event) (node page : ℕ) (step : Step) (uses : List ℕ) (past : IsPast s) (is : (p : ℕ) → step_of s.life p event ≡ of_page p page step) (may : MayStep shape (s.column page) step) (was : AreUses s node uses) where
  abbrev next : State
  next = state_after shape s event

  abbrev Earlier : State → ℕ → ℕ → Type 0
  Earlier t a b = t.used a node < t.used b node

  right_here : (next.column page).right node ≡ right_after (s.column page).right step node
  right_here = ap (λ (st : Step). right_after (s.column page).right st node) (is page ∙ same_page page step)

  right_there : (q : ℕ) → q ≢ page → (next.column q).right node ≡ (s.column q).right node
  right_there q d = ap (λ (st : Step). right_after (s.column q).right st node) (is q ∙ other_page q page step d)

  used_here : next.used page node ≡ cond (is_use node step) (s.len + 1) (s.used page node)
  used_here = ap (λ (st : Step). used_after s.len (s.used page) st node) (is page ∙ same_page page step)

  used_there : (q : ℕ) → q ≢ page → next.used q node ≡ s.used q node
  used_there q d = ap (λ (st : Step). used_after s.len (s.used q) st node) (is q ∙ other_page q page step d)

  right_moves : Moves (is_use node step) (is_loss node step) ((s.column page).right node) ((next.column page).right node)
  right_moves = subst (λ (r : Right). Moves (is_use node step) (is_loss node step) ((s.column page).right node) r) (sym right_here) (moves shape (s.column page) node step may)

  held_other : (q : ℕ) → q ≢ page → Contains uses q ↔ ((next.column q).right node ≢ Right.Nothing)
  held_other q d = (λ c n. (was.held q).0 c (sym (right_there q d) ∙ n), λ some. (was.held q).1 (λ n. some (right_there q d ∙ n)))

  ordered_rest : AllPairs (Earlier next) (without page uses)
  ordered_rest = pairs_as (Earlier s) (Earlier next) (without page uses)
      (λ x y cx cy lt. let a = used_there x (not_it page uses x cx) in let b = used_there y (not_it page uses y cy) in omega (arith, lt, a, b))
      (AllPairs-filter (Earlier s) (is_other page) uses was.ordered)

  when_used : is_use node step ≡ true → AreUses next node (used_last page uses)
  when_used u = record {
    held = λ q. (
      λ c. elim (Contains-push_cases (without page uses) page q c) [
        | inl d ↦ (held_other q (not_it page uses q d)).0 (was_there page uses q d)
        | inr e ↦ subst (λ (p : ℕ). (next.column p).right node ≢ Right.Nothing) e (right_moves.used u)
      ],
      λ some. elim (same_or_not q page) [
        | inl e ↦ subst (Contains (used_last page uses)) (sym e) (Contains-push (without page uses) page)
        | inr d ↦ Contains-append_left (without page uses) (page ∷ []) q (kept_other page uses q ((held_other q d).1 some) d)
      ],
    );
    ordered = pairs_push (Earlier next) (without page uses) page ordered_rest
        (λ y c. let a = used_there y (not_it page uses y c) in let b : next.used page node ≡ s.len + 1 = used_here ∙ ap (λ (x : Bool). cond x (s.len + 1) (s.used page node)) u in let p = past y node in omega (arith, a, b, p));
  }

  when_lost : is_use node step ≡ false → is_loss node step ≡ true → AreUses next node (without page uses)
  when_lost u l = record {
    held = λ q. (
      λ c. (held_other q (not_it page uses q c)).0 (was_there page uses q c),
      λ some. elim (same_or_not q page) [
        | inl e ↦ absurd (some (subst (λ (p : ℕ). (next.column p).right node ≡ Right.Nothing) (sym e) (right_moves.lost u l)))
        | inr d ↦ kept_other page uses q ((held_other q d).1 some) d
      ],
    );
    ordered = ordered_rest;
  }

  used_still : is_use node step ≡ false → (q : ℕ) → next.used q node ≡ s.used q node
  used_still u q = elim (same_or_not q page) [
    | inl e ↦ subst (λ (p : ℕ). next.used p node ≡ s.used p node) (sym e) (used_here ∙ ap (λ (x : Bool). cond x (s.len + 1) (s.used page node)) u)
    | inr d ↦ used_there q d
  ]

  when_kept : is_use node step ≡ false → is_loss node step ≡ false → AreUses next node uses
  when_kept u l = record {
    held = λ q. elim (same_or_not q page) [
      | inl e ↦ subst (λ (p : ℕ). Contains uses p ↔ ((next.column p).right node ≢ Right.Nothing)) (sym e)
          (let both = right_moves.kept u l in (λ c. both.1 ((was.held page).0 c), λ some. (was.held page).1 (both.0 some)))
      | inr d ↦ held_other q d
    ];
    ordered = pairs_as (Earlier s) (Earlier next) uses (λ x y cx cy lt. let a = used_still u x in let b = used_still u y in omega (arith, lt, a, b)) was.ordered;
  }

  by_kind : (u l : Bool) → is_use node step ≡ u → is_loss node step ≡ l → AreUses next node (cond u (used_last page uses) (cond l (without page uses) uses))
  by_kind true l e f = when_used e
  by_kind false true e f = when_lost e f
  by_kind false false e f = when_kept e f

  pub uses_next : AreUses (state_after shape s event) node (uses_after node step page uses)
  uses_next = by_kind (is_use node step) (is_loss node step) refl refl

pub uses_follow : (shape : TreeShape) (pages : ℕ) (trail : List Event) (event : Event) (node page : ℕ) (step : Step) (uses : List ℕ) → IsTree shape → IsAllowed shape pages (state_of shape trail) event → ((p : ℕ) → step_of (state_of shape trail).life p event ≡ of_page p page step) → AreUses (state_of shape trail) node uses → AreUses (state_of shape (trail ++ event ∷ [])) node (uses_after node step page uses)
uses_follow shape pages trail event node page step uses tree ok is was =
    let may = subst (MayStep shape ((state_of shape trail).column page)) (is page ∙ same_page page step) (on_each_page shape pages (state_of shape trail) event tree ok.upper ok.line page).1 in
    rw (state_of-snoc shape trail event) (uses_next shape (state_of shape trail) event node page step uses (trail_past shape trail) is may was)

-- AS MANY PAGES as the node holds
any_there : (xs : List ℕ) (x : ℕ) → Contains xs x → list_any (nat_eq x) xs ≡ true
any_there [] x c = absurd (Contains-nil x c)
any_there (y ∷ xs) x c = elim (eqb_tells x y) [
  | inl e ↦ rw e.0 refl
  | inr n ↦ rw n.0 (elim (Contains-cons y xs x c) [ inl e ↦ absurd (n.1 (sym e)) | inr d ↦ any_there xs x d ])
]

there_any : (xs : List ℕ) (x : ℕ) → list_any (nat_eq x) xs ≡ true → Contains xs x
there_any [] x t = absurd (let f : ⊥ = cc in f)
there_any (y ∷ xs) x t = elim (eqb_tells x y) [
  | inl e ↦ subst (Contains (y ∷ xs)) (sym e.1) (Contains-head y xs)
  | inr n ↦ Contains-tail y xs x (there_any xs x (subst (λ (b : Bool). (b || list_any (nat_eq x) xs) ≡ true) n.0 t))
]

holds_is : (right : Right) (b : Bool) → (right ≢ Right.Nothing → b ≡ true) → (b ≡ true → right ≢ Right.Nothing) → holds right ≡ b
holds_is Right.Nothing true f g = absurd (g refl refl)
holds_is Right.Nothing false f g = refl
holds_is Right.Read b f g = sym (f (λ e. let n : ⊥ = cc in n))
holds_is Right.Write b f g = sym (f (λ e. let n : ⊥ = cc in n))

pub many_held : (s : State) (pages node : ℕ) (uses : List ℕ) → AreUses s node uses → All (λ page. page < pages) uses → held_below s node pages ≡ length uses
many_held s pages node uses are inside =
    counted uses pages (λ page. holds ((s.column page).right node))
    (IsDistinct-from_apart nat_eq uses (λ i j d lt high. eq_apart (get_or uses i d) (get_or uses j d) (λ e. let l = are.ordered i j d lt high in let same = ap (λ (p : ℕ). s.used p node) e in omega (arith, l, same))))
    (λ x c. All-contains (λ page. page < pages) uses x inside c)
    (λ x. holds_is ((s.column x).right node) (list_any (nat_eq x) uses) (λ some. any_there uses x ((are.held x).1 some)) (λ t. (are.held x).0 (there_any uses x t)))
