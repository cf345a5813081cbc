-- Each step keeps the rule.
use Rattle.std.proofs.Common.{◌≡◌, ◌≢◌, ◌⊎◌, ℕ, ◌+◌, ◌%◌, ◌^◌, ◌<◌, ◌≤◌, Bool, true, false, eqb, List, [], ◌∷◌, ◌++◌, length, length-set, set, get_or, Option, Some, None, refl, sym, ap, subst, ◌∙◌, append_assoc, mod-eq_of_lt, inl, inr, ⊎_elim, arith, zero, suc}
use mathlib.Core.Option.{some, none, some-injective, some-ne-none}
use mathlib.Core.Option as maybe
use mathlib.Core.Logic.{dite}
use native.Mathlib.Decide.{ℕ_discrete}
use prog.Atomic.{either}
use lib.ListN.{get_elem?}
use Rattle.std.proofs.lemmas.Bool.{or_left, or_right}
use Rattle.std.proofs.lemmas.List.{append-nil}
use Rattle.atomic_table.specs.Table.{State, Act, keeps, takes, gives, step, Allows, Splits, Joins, opening, Final, Seen, Valid, homes_after, carried_after}
use Rattle.atomic_table.proofs.Lists.{at_set, set_here, set_else, set_again, at_longer, exchanged}
use Rattle.hist_lock.specs.declared.view.View.{View}
use Rattle.hist_lock.specs.declared.view.Deed.{Deed}
use Rattle.hist_lock.specs.declared.view.Stage.{Stage}
use Rattle.hist_lock.specs.declared.view.Stage.TheVariants.{Idle, Waits, Holds, Noted, Met}
use Rattle.hist_lock.specs.Ranges.{in_range, may_add, Follows, longer, Grows, Added}
use Rattle.hist_lock.specs.Rule.{ticket, number, has_slot, Standing, Apart, own, Sits, Seats, Placed, Kept, starting}
use Rattle.hist_lock.specs.Steps.{Mine, with_stage, with_seen, waiting, Draws, Takes, Looks, Notes, Passes, Rings, Settles, below, above, both, spent}
use Rattle.hist_lock.proofs.Lists.{each_append, follows_self, joined, whole_longer, lt_or_le, quiet_none, each_as, each_quiet, follows_more, follows_as, apart_in, wider, within_in, joined_in}

at_length : {A : Type 0} (l : List A) (i : ℕ) (a : A) → get_elem? l i ≡ some a → i < length l
at_length [] i a e = absurd (some-ne-none a (sym e))
at_length (x ∷ xs) zero a e = omega arith
at_length (x ∷ xs) (suc i) a e = omega (arith, at_length xs i a e)

at_end : {A : Type 0} (l : List A) (a b : A) (j : ℕ) → get_elem? (l ++ a ∷ []) j ≡ some b → (get_elem? l j ≡ some b) ⊎ ((j ≡ length l) × (a ≡ b))
at_end [] a b zero e = inr (refl, some-injective a b e)
at_end [] a b (suc j) e = absurd (some-ne-none b (sym e))
at_end (x ∷ xs) a b zero e = inl e
at_end (x ∷ xs) a b (suc j) e = ⊎_elim (λ o. inl o) (λ n. let k = n.0 in inr (omega arith, n.1)) (at_end xs a b j e)

bool_cases : (b : Bool) → (b ≡ true) ⊎ (b ≡ false)
bool_cases true = inl refl
bool_cases false = inr refl

true_false : (b : Bool) → b ≡ true → b ≡ false → ⊥
true_false b e f = cc (sym e ∙ f)

some_same : {A : Type 0} {x y : A} → Some x ≡ Some y → x ≡ y
some_same e = cc e

is_false : (b : Bool) → (b ≡ true → ⊥) → b ≡ false
is_false true h = absurd (h refl)
is_false false h = refl

some_none : (t : ℕ) → Some t ≡ None → ⊥
some_none t e = cc e

some_is : (k t : ℕ) → Some k ≡ Some t → k ≡ t
some_is k t e = cc e

module _ {E F : Type 0} where
  standing_later : (caller : E → Option ℕ) (served drawn drawn' : ℕ) (log : List E) (v : View E F) (g : Stage E) → drawn ≤ drawn' → Standing caller served drawn log v g → Standing caller served drawn' log v g
  standing_later caller served drawn drawn' log v Idle le st = tt
  standing_later caller served drawn drawn' log v (Waits t) le st = (st.0, st.1, omega arith)
  standing_later caller served drawn drawn' log v (Holds t) le st = (st.0, st.1, omega arith, st.3)
  standing_later caller served drawn drawn' log v (Noted t) le st = (st.0, st.1, omega arith, st.3)
  standing_later caller served drawn drawn' log v (Met at xs ys) le st = st

  standing_log : (caller : E → Option ℕ) (served drawn : ℕ) (log log' : List E) (v : View E F) (g : Stage E) → (has_slot g ≡ true → ⊥) → Standing caller served drawn log v g → Standing caller served drawn log' v g
  standing_log caller served drawn log log' v Idle free st = tt
  standing_log caller served drawn log log' v (Waits t) free st = st
  standing_log caller served drawn log log' v (Holds t) free st = absurd (free refl)
  standing_log caller served drawn log log' v (Noted t) free st = absurd (free refl)
  standing_log caller served drawn log log' v (Met at xs ys) free st = st

  standing_next : (caller : E → Option ℕ) (served drawn : ℕ) (log : List E) (v : View E F) (g : Stage E) → (has_slot g ≡ true → ⊥) → (ticket g ≡ Some served → ⊥) → Standing caller served drawn log v g → Standing caller (served + 1) drawn log v g
  standing_next caller served drawn log v Idle free ne st = tt
  standing_next caller served drawn log v (Waits t) free ne st = let apart : t ≡ served → ⊥ = λ e. ne (ap Some e) in (st.0, omega arith, st.2)
  standing_next caller served drawn log v (Holds t) free ne st = absurd (free refl)
  standing_next caller served drawn log v (Noted t) free ne st = absurd (free refl)
  standing_next caller served drawn log v (Met at xs ys) free ne st = st

  slot_ticket : (caller : E → Option ℕ) (served drawn : ℕ) (log : List E) (v : View E F) (g : Stage E) → Standing caller served drawn log v g → has_slot g ≡ true → ticket g ≡ Some served
  slot_ticket caller served drawn log v Idle st e = absurd (true_false false e refl)
  slot_ticket caller served drawn log v (Waits t) st e = absurd (true_false false e refl)
  slot_ticket caller served drawn log v (Holds t) st e = ap Some st.1
  slot_ticket caller served drawn log v (Noted t) st e = ap Some st.1
  slot_ticket caller served drawn log v (Met at xs ys) st e = absurd (true_false false e refl)

  slot_range : (caller : E → Option ℕ) (served drawn : ℕ) (log : List E) (v : View E F) (g : Stage E) → Standing caller served drawn log v g → has_slot g ≡ true → v.first < v.end
  slot_range caller served drawn log v Idle st e = absurd (true_false false e refl)
  slot_range caller served drawn log v (Waits t) st e = absurd (true_false false e refl)
  slot_range caller served drawn log v (Holds t) st e = st.0
  slot_range caller served drawn log v (Noted t) st e = st.0
  slot_range caller served drawn log v (Met at xs ys) st e = absurd (true_false false e refl)

  one_at : (v : View E F) (j : ℕ) (u : View E F) → get_elem? (v ∷ []) j ≡ some u → v ≡ u
  one_at v zero u e = some-injective v u e
  one_at v (suc j) u e = absurd (some-ne-none u (sym e))

  one_index : (v : View E F) (j : ℕ) (u : View E F) → get_elem? (v ∷ []) j ≡ some u → j ≡ 0
  one_index v zero u e = refl
  one_index v (suc j) u e = absurd (some-ne-none u (sym e))

  below_drawn : (caller : E → Option ℕ) (served drawn : ℕ) (log : List E) (v : View E F) (g : Stage E) (t : ℕ) → Standing caller served drawn log v g → ticket g ≡ Some t → drawn ≤ t → ⊥
  below_drawn caller served drawn log v Idle t st e le = some_none t (sym e)
  below_drawn caller served drawn log v (Waits k) t st e le = let is : k ≡ t = cc e in omega arith
  below_drawn caller served drawn log v (Holds k) t st e le = let is : k ≡ t = cc e in omega arith
  below_drawn caller served drawn log v (Noted k) t st e le = let is : k ≡ t = cc e in omega arith
  below_drawn caller served drawn log v (Met at xs ys) t st e le = some_none t (sym e)

module _ {T E F : Type 0} (entries : T → List E) (caller : E → Option ℕ) (fixed : T → F) where
  fresh : (d : Deed T) (served drawn : ℕ) (log : List E) (views : List (View E F)) → Seats entries caller fixed d served drawn log views
      → (j : ℕ) (u : View E F) → get_elem? views j ≡ some u → (t : ℕ) → ticket u.stage ≡ Some t → drawn ≤ t → ⊥
  fresh d served drawn log views seats j u au t tu le = below_drawn caller served drawn log u u.stage t (seats.sits j u au).standing tu le

  -- the view i becomes w, with the range that it had
  abbrev pub Changes : Deed T → ℕ → ℕ → List E → ℕ → ℕ → List E → List (View E F) → ℕ → View E F → View E F → Type 0
  Changes d served drawn log served' drawn' log' views i v w =
      ((j : ℕ) (u : View E F) → j ≢ i → get_elem? views j ≡ some u → Sits entries caller fixed d served drawn log u → Sits entries caller fixed d served' drawn' log' u)
      × ((t : ℕ) (j : ℕ) (u : View E F) → ticket w.stage ≡ Some t → j ≢ i → get_elem? views j ≡ some u → ticket u.stage ≡ Some t → ⊥)
      × ((t : ℕ) → served' ≤ t → t < drawn' → (ticket w.stage ≡ Some t) ⊎ ((served ≤ t) × (t < drawn) × (ticket v.stage ≡ Some t → ⊥)))
      × (((w.first < w.end) × (w.seen ≡ log')) ⊎ ((log' ≡ log) × (w.seen ≡ v.seen)))
      × (((w.first < w.end) × (w.drew ≡ true)) ⊎ ((drawn' ≡ drawn) × (w.drew ≡ v.drew)))

  pub reseat : (d : Deed T) (served drawn : ℕ) (log : List E) (served' drawn' : ℕ) (log' : List E) (views : List (View E F)) (i : ℕ) (v w : View E F)
      → Seats entries caller fixed d served drawn log views → get_elem? views i ≡ some v → w.first ≡ v.first → w.end ≡ v.end
      → Sits entries caller fixed d served' drawn' log' w → Changes d served drawn log served' drawn' log' views i v w
      → Seats entries caller fixed d served' drawn' log' (set views i w)
  reseat d served drawn log served' drawn' log' views i v w old at same_first same_end sits ch =
      let here : get_elem? (set views i w) i ≡ some w = set_here views i w (at_length views i v at) in
      let Old : ℕ → View E F → Type 0 = λ j x. (y : View E F) × (get_elem? views j ≡ some y) × (x.first ≡ y.first) × (x.end ≡ y.end) in
      let was : (j : ℕ) (x : View E F) → get_elem? (set views i w) j ≡ some x → Old j x =
      λ j x e. ⊎_elim (λ s. (v, ap (λ k. get_elem? views k) s.0 ∙ at, sym (ap (λ u. u.first) s.1) ∙ same_first, sym (ap (λ u. u.end) s.1) ∙ same_end)) (λ o. (x, o.1, refl, refl)) (at_set views i j w x e) in
      record {
        sits = λ j x e. ⊎_elim (λ s. subst (λ (u : View E F). Sits entries caller fixed d served' drawn' log' u) s.1 sits) (λ o. ch.0 j x o.0 o.1 (old.sits j x o.1)) (at_set views i j w x e);
        apart = λ j k x y ex ey ne c a b a' b'.
            let p = was j x ex in let q = was k y ey in
            old.apart j k p.0 q.0 p.1 q.1 ne c (omega arith) (omega arith) (omega arith) (omega arith);
        once = λ j k x y t ex ey tx ty.
            ⊎_elim
            (λ s. ⊎_elim (λ s'. s.0 ∙ sym s'.0) (λ o'. absurd (ch.1 t k y (ap (λ u. ticket u.stage) s.1 ∙ tx) o'.0 o'.1 ty)) (at_set views i k w y ey))
            (λ o. ⊎_elim (λ s'. absurd (ch.1 t j x (ap (λ u. ticket u.stage) s'.1 ∙ ty) o.0 o.1 tx)) (λ o'. old.once j k x y t o.1 o'.1 tx ty) (at_set views i k w y ey))
            (at_set views i j w x ex);
        held = λ t lo hi. ⊎_elim
            (λ e. (i, w, here, e))
            (λ p. let h = old.held t p.0 p.1 in dite (ℕ_discrete h.0 i)
            (λ e. absurd (p.2 (ap (λ u. ticket u.stage) (some-injective v h.1 (sym at ∙ (ap (λ k. get_elem? views k) (sym e) ∙ h.2))) ∙ h.3)))
            (λ ne. (h.0, h.1, set_else views i h.0 w ne ∙ h.2, h.3)))
            (ch.2 t lo hi);
        whole = ⊎_elim
            (λ p. (i, w, here, p.0, p.1))
            (λ p. let h = old.whole in dite (ℕ_discrete h.0 i)
            (λ e. let is : v ≡ h.1 = some-injective v h.1 (sym at ∙ (ap (λ k. get_elem? views k) (sym e) ∙ h.2)) in
            let a : v.first ≡ h.1.first = ap (λ u. u.first) is in let b : v.end ≡ h.1.end = ap (λ u. u.end) is in let lt = h.3 in
            (i, w, here, omega arith, p.1 ∙ (ap (λ u. u.seen) is ∙ (h.4 ∙ sym p.0))))
            (λ ne. (h.0, h.1, set_else views i h.0 w ne ∙ h.2, h.3, h.4 ∙ sym p.0)))
            ch.3;
        told = λ some_drawn. ⊎_elim
            (λ p. (i, w, here, p.0, p.1))
            (λ p. let h = old.told (subst (λ n. 0 < n) p.0 some_drawn) in dite (ℕ_discrete h.0 i)
            (λ e. let is : v ≡ h.1 = some-injective v h.1 (sym at ∙ (ap (λ k. get_elem? views k) (sym e) ∙ h.2)) in
            let a : v.first ≡ h.1.first = ap (λ u. u.first) is in let b : v.end ≡ h.1.end = ap (λ u. u.end) is in let lt = h.3 in
            (i, w, here, omega arith, p.1 ∙ (ap (λ u. u.drew) is ∙ h.4)))
            (λ ne. (h.0, h.1, set_else views i h.0 w ne ∙ h.2, h.3, h.4)))
            ch.4;
      }

  -- a view that has no slot becomes one that has none
  placed_stays : (d : Deed T) (log : List E) (homes : List (maybe.Option (Option T))) (views : List (View E F)) (i : ℕ) (v w : View E F)
      → get_elem? views i ≡ some v → has_slot v.stage ≡ false → has_slot w.stage ≡ false
      → Placed entries caller fixed d log homes views → Placed entries caller fixed d log homes (set views i w)
  placed_stays d log homes views i v w at fv fw = ⊎_elim
      (λ h. inl (
        h.0,
        record {
          free = λ j u e. ⊎_elim (λ s. ap (λ (x : View E F). has_slot x.stage) (sym s.1) ∙ fw) (λ o. h.1.free j u o.1) (at_set views i j w u e);
          lies = h.1.lies;
          list = h.1.list;
          part = h.1.part;
        },
      ))
      (λ o. inr (
        o.0,
        o.1,
        record {
          empty = o.2.empty;
          at = set_else views i o.0 w (λ e. true_false (has_slot v.stage) (ap (λ (x : View E F). has_slot x.stage) (some-injective v o.1 (sym at ∙ (ap (λ k. get_elem? views k) (sym e) ∙ o.2.at))) ∙ o.2.has) fv) ∙ o.2.at;
          has = o.2.has;
        },
      ))

  -- the view whose ticket is served is the only one that may have the slot
  only : (d : Deed T) (served drawn : ℕ) (log : List E) (views : List (View E F)) (i : ℕ) (v : View E F)
      → Seats entries caller fixed d served drawn log views → get_elem? views i ≡ some v → ticket v.stage ≡ Some served
      → (j : ℕ) (u : View E F) → get_elem? views j ≡ some u → has_slot u.stage ≡ true → j ≡ i
  only d served drawn log views i v seats at tv j u au has = seats.once j i u v served au at (slot_ticket caller served drawn log u u.stage ((seats.sits j u au).standing) has) tv

  -- the rule where the words are m, n and k, and the bells
  abbrev Holds3 : Deed T → List ℕ → ℕ → ℕ → ℕ → List (maybe.Option (Option T)) → List (View E F) → Type 0
  Holds3 d bells m n k homes views = Kept entries caller fixed d record { words = m ∷ n ∷ k ∷ bells; homes = homes; views = views }

  -- nothing changes but bells
  rung : (d : Deed T) (s : State (Option T) (View E F)) (i : ℕ) (v : View E F) (kept : Kept entries caller fixed d s) → get_elem? s.views i ≡ some v
      → (bells : List ℕ) → length bells ≡ 16 → Holds3 d bells kept.drawn kept.served (length kept.log) s.homes (set s.views i v)
  rung d s i v kept at bells many = subst (λ (vs : List (View E F)). Holds3 d bells kept.drawn kept.served (length kept.log) s.homes vs) (sym (set_again s.views i v at)) record {
    drawn = kept.drawn;
    served = kept.served;
    log = kept.log;
    added = kept.added;
    bells = bells;
    words = refl;
    many = many;
    order = kept.order;
    small = kept.small;
    opened = kept.opened;
    callers = kept.callers;
    slot = kept.slot;
    untouched = kept.untouched;
    seats = kept.seats;
  }

  -- nothing changes
  stays : (d : Deed T) (s : State (Option T) (View E F)) (i : ℕ) (v : View E F) (kept : Kept entries caller fixed d s) → get_elem? s.views i ≡ some v
      → Holds3 d kept.bells kept.drawn kept.served (length kept.log) s.homes (set s.views i v)
  stays d s i v kept at = rung d s i v kept at kept.bells kept.many

  -- a bell is rung
  rings_at : (d : Deed T) (n i : ℕ) (me : Mine T E F) (k : ℕ) → k < 16
      → Allows (Kept entries caller fixed d) n i me (suc (suc (suc k))) (λ m. (m + 1) % 2 ^ 64) (Rings (step n (suc (suc (suc k))) 1 0 none) me)
  rings_at d n i me k low s kept wide at small =
      let P : List ℕ → Type 0 = λ ws. (w : View E F) × (a : Act (Option T)) × Valid s.homes me.1 a
      × Kept entries caller fixed d record { words = set ws (suc (suc (suc k))) ((get_or ws (suc (suc (suc k))) 0 + 1) % 2 ^ 64); homes = homes_after s.homes me.1 a; views = set s.views i w }
      × Rings (step n (suc (suc (suc k))) 1 0 none) me (get_or ws (suc (suc (suc k))) 0) (w, carried_after me.1 a) in
      let bells : List ℕ = set kept.bells k ((get_or kept.bells k 0 + 1) % 2 ^ 64) in
      subst P (sym kept.words) (me.0, keeps, tt, rung d s i me.0 kept at bells (length-set kept.bells k ((get_or kept.bells k 0 + 1) % 2 ^ 64) ∙ kept.many), refl)

  pub rings : (d : Deed T) (n i : ℕ) (me : Mine T E F) (bell k : ℕ) → k < 16 → bell ≡ 3 + k
      → Allows (Kept entries caller fixed d) n i me bell (λ m. (m + 1) % 2 ^ 64) (Rings (step n bell 1 0 none) me)
  rings d n i me bell k low is =
      let at : suc (suc (suc k)) ≡ bell = omega (arith, is) in
      subst (λ b. Allows (Kept entries caller fixed d) n i me b (λ m. (m + 1) % 2 ^ 64) (Rings (step n b 1 0 none) me)) at (rings_at d n i me k low)

  -- a ticket is drawn
  draws_hit : (d : Deed T) (s : State (Option T) (View E F)) (i : ℕ) (v : View E F) (kept : Kept entries caller fixed d s) → get_elem? s.views i ≡ some v
      → v.stage ≡ Idle → v.first < v.end → kept.drawn + 1 < 18446744073709551616
      → Holds3 d kept.bells (kept.drawn + 1) kept.served (length kept.log) s.homes (set s.views i (waiting v kept.drawn))
  draws_hit d s i v kept at idle lt fits =
      let w : View E F = waiting v kept.drawn in
      let was = kept.seats.sits i v at in
      let order = kept.order in
      record {
        drawn = kept.drawn + 1;
        served = kept.served;
        log = kept.log;
        added = kept.added;
        bells = kept.bells;
        words = refl;
        many = kept.many;
        order = omega arith;
        small = fits;
        opened = kept.opened;
        callers = kept.callers;
        slot = placed_stays d kept.log s.homes s.views i v w at (ap has_slot idle) refl kept.slot;
        untouched = λ e. absurd (omega (arith, e));
        seats = reseat d kept.served kept.drawn kept.log kept.served (kept.drawn + 1) kept.log s.views i v w kept.seats at refl refl
            record { follows = was.follows; within = was.within; part = was.part; standing = (lt, order, omega arith) } (
              (λ j u ne au sits. record { follows = sits.follows; within = sits.within; part = sits.part; standing = standing_later caller kept.served kept.drawn (kept.drawn + 1) kept.log u u.stage (omega arith) sits.standing }),
              (λ t j u e ne au tu. fresh d kept.served kept.drawn kept.log s.views kept.seats j u au t tu (omega (arith, some_is kept.drawn t e))),
              (λ t lo hi. dite (ℕ_discrete t kept.drawn) (λ e. inl (ap Some (sym e))) (λ ne. inr (lo, omega arith, (λ e. some_none t (sym e ∙ ap ticket idle))))),
              inr (refl, refl),
              inl (lt, refl),
            );
      }

  pub draws : (d : Deed T) (n i : ℕ) (me : Mine T E F) (g : ℕ) → me.0.stage ≡ Idle → me.0.first < me.0.end → g + 1 < 18446744073709551616
      → Allows (Kept entries caller fixed d) n i me 0 (λ k. either (eqb k g) (g + 1) k) (Draws (step n 0 g (g + 1) none) me)
  draws d n i me g idle lt fits s kept wide at small =
      let Goal : List ℕ → ℕ → Type 0 = λ ws m.
      (w : View E F) × (a : Act (Option T)) × Valid s.homes me.1 a × Kept entries caller fixed d record { words = set ws 0 m; homes = homes_after s.homes me.1 a; views = set s.views i w }
      × Draws (step n 0 g (g + 1) none) me kept.drawn (w, carried_after me.1 a) in
      let P : List ℕ → Type 0 = λ ws. (w : View E F) × (a : Act (Option T)) × Valid s.homes me.1 a
      × Kept entries caller fixed d record { words = set ws 0 (either (eqb (get_or ws 0 0) g) (g + 1) (get_or ws 0 0)); homes = homes_after s.homes me.1 a; views = set s.views i w }
      × Draws (step n 0 g (g + 1) none) me (get_or ws 0 0) (w, carried_after me.1 a) in
      subst P (sym kept.words) (exchanged kept.drawn g (g + 1) (λ m. Goal (kept.drawn ∷ kept.served ∷ length kept.log ∷ kept.bells) m)
      (λ e. (
        waiting me.0 kept.drawn,
        keeps,
        tt,
        subst (λ m. Holds3 d kept.bells m kept.served (length kept.log) s.homes (set s.views i (waiting me.0 kept.drawn))) (ap (λ m. m + 1) e)
            (draws_hit d s i me.0 kept at idle lt (omega arith)),
        ((λ e'. refl), (λ ne. absurd (ne e))),
      ))
      (λ ne. (me.0, keeps, tt, stays d s i me.0 kept at, ((λ e. absurd (ne e)), (λ ne'. refl)))))

  -- the slot is taken at the own turn
  looks_hit : (d : Deed T) (s : State (Option T) (View E F)) (i : ℕ) (v : View E F) (kept : Kept entries caller fixed d s) → get_elem? s.views i ≡ some v
      → (c : List (ℕ × Option T)) → v.stage ≡ Waits kept.served
      → (w : View E F) × (a : Act (Option T)) × Valid s.homes c a
      × Holds3 d kept.bells kept.drawn kept.served (length kept.log) (homes_after s.homes c a) (set s.views i w)
      × Takes entries caller fixed (v, c) kept.served (w, carried_after c a)
  looks_hit d s i v kept at c waits =
      let was = kept.seats.sits i v at in
      let turn : Standing caller kept.served kept.drawn kept.log v (Waits kept.served) = subst (λ (g : Stage E). Standing caller kept.served kept.drawn kept.log v g) waits was.standing in
      let mine : ticket v.stage ≡ Some kept.served = ap ticket waits in
      ⊎_elim
      (λ h. let x : T = h.0 in
      let w : View E F = with_seen v (entries x) (Holds kept.served) in
      let list = h.1.list in (
        w,
        takes 0 (Some x),
        ap (λ (hs : List (maybe.Option (Option T))). get_elem? hs 0) h.1.lies,
        record {
          drawn = kept.drawn;
          served = kept.served;
          log = kept.log;
          added = kept.added;
          bells = kept.bells;
          words = refl;
          many = kept.many;
          order = kept.order;
          small = kept.small;
          opened = kept.opened;
          callers = kept.callers;
          slot = inr (i, w, record { empty = ap (λ (hs : List (maybe.Option (Option T))). set hs 0 none) h.1.lies; at = set_here s.views i w (at_length s.views i v at); has = refl });
          untouched = λ e. let low = turn.2 in absurd (omega (arith, e));
          seats = reseat d kept.served kept.drawn kept.log kept.served kept.drawn kept.log s.views i v w kept.seats at refl refl
              record { follows = follows_self (own caller w) (entries x) kept.log list; within = was.within; part = was.part; standing = (turn.0, refl, turn.2, list) } (
                (λ j u ne au sits. sits),
                (λ t j u e ne au tu. ne (kept.seats.once j i u v t au at tu (mine ∙ e))),
                (λ t lo hi. dite (ℕ_discrete t kept.served) (λ e. inl (ap Some (sym e))) (λ ne. inr (lo, hi, (λ e. ne (some_is t kept.served (sym e ∙ mine)))))),
                inl (turn.0, list),
                inr (refl, refl),
              );
        },
        (x, refl, subst (λ (l : List E). Follows (own caller v) v.seen l) (sym list) was.follows, was.part turn.0 ∙ ap Some (sym h.1.part)),
      ))
      (λ o. absurd (true_false (has_slot v.stage)
      (let j = only d kept.served kept.drawn kept.log s.views i v kept.seats at mine o.0 o.1 o.2.at o.2.has in
      ap (λ (x : View E F). has_slot x.stage) (some-injective v o.1 (sym at ∙ (ap (λ k. get_elem? s.views k) (sym j) ∙ o.2.at))) ∙ o.2.has)
      (ap has_slot waits)))
      kept.slot

  pub looks : (d : Deed T) (n i : ℕ) (me : Mine T E F) (t : ℕ) → me.0.stage ≡ Waits t
      → Allows (Kept entries caller fixed d) n i me 1 (λ k. k) (Looks entries caller fixed (step n 1 0 0 none) me)
  looks d n i me t waits s kept wide at small =
      let is : number me.0.stage ≡ t = ap number waits in
      let P : List ℕ → Type 0 = λ ws. (w : View E F) × (a : Act (Option T)) × Valid s.homes me.1 a
      × Kept entries caller fixed d record { words = set ws 1 (get_or ws 1 0); homes = homes_after s.homes me.1 a; views = set s.views i w }
      × Looks entries caller fixed (step n 1 0 0 none) me (get_or ws 1 0) (w, carried_after me.1 a) in
      subst P (sym kept.words) (dite (ℕ_discrete kept.served t)
      (λ e. let r = looks_hit d s i me.0 kept at me.1 (waits ∙ ap Waits (sym e)) in (r.0, r.1, r.2, r.3, ((λ e'. r.4), (λ ne. absurd (ne (e ∙ sym is))))))
      (λ ne. (me.0, keeps, tt, stays d s i me.0 kept at, ((λ e. absurd (ne (e ∙ is))), (λ ne'. refl)))))

  -- the list grows by what the holder's range may add
  grown : (d : Deed T) (s : State (Option T) (View E F)) (i : ℕ) (v : View E F) (kept : Kept entries caller fixed d s) → get_elem? s.views i ≡ some v
      → (y : T) → v.stage ≡ Holds kept.served → Grows caller v.first v.end v.seen (entries y)
      → Holds3 d kept.bells kept.drawn kept.served (length (entries y)) s.homes (set s.views i (with_seen v (entries y) (Noted kept.served)))
  grown d s i v kept at y holds grows =
      let was = kept.seats.sits i v at in
      let w : View E F = with_seen v (entries y) (Noted kept.served) in
      let turn : Standing caller kept.served kept.drawn kept.log v (Holds kept.served) = subst (λ (g : Stage E). Standing caller kept.served kept.drawn kept.log v g) holds was.standing in
      let mine : ticket v.stage ≡ Some kept.served = ap ticket holds in
      let range = was.within turn.0 in
      let longer_list : entries y ≡ kept.log ++ grows.added = grows.whole ∙ ap (λ l. l ++ grows.added) turn.3 in
      record {
        drawn = kept.drawn;
        served = kept.served;
        log = entries y;
        added = kept.added ++ grows.added;
        bells = kept.bells;
        words = refl;
        many = kept.many;
        order = kept.order;
        small = kept.small;
        opened = longer_list ∙ (ap (λ l. l ++ grows.added) kept.opened ∙ append_assoc (entries d.value.value) kept.added grows.added);
        callers = each_append (λ e. may_add d.first d.end (caller e)) kept.added grows.added kept.callers
            (each_as (λ e. may_add v.first v.end (caller e)) (λ e. may_add d.first d.end (caller e)) (λ e h. wider v.first v.end d.first d.end (caller e) range.0 range.1 h) grows.added grows.callers);
        slot = ⊎_elim
            (λ h. absurd (true_false (has_slot v.stage) (ap has_slot holds) (h.1.free i v at)))
            (λ o. inr (i, w, record { empty = o.2.empty; at = set_here s.views i w (at_length s.views i v at); has = refl }))
            kept.slot;
        untouched = kept.untouched;
        seats = reseat d kept.served kept.drawn kept.log kept.served kept.drawn (entries y) s.views i v w kept.seats at refl refl
            record { follows = follows_self (own caller w) (entries y) (entries y) refl; within = was.within; part = was.part; standing = (turn.0, refl, turn.2, refl) } (
              (λ j u ne au sits. record {
                follows = subst (λ (l : List E). Follows (own caller u) u.seen l) (sym longer_list)
                    (follows_more (own caller u) u.seen kept.log grows.added sits.follows
                    (each_quiet (λ e. may_add v.first v.end (caller e)) (own caller u)
                    (λ e h. apart_in v.first v.end u.first u.end (caller e) (kept.seats.apart j i u v au at ne) h) grows.added grows.callers));
                within = sits.within;
                part = sits.part;
                standing = standing_log caller kept.served kept.drawn kept.log (entries y) u u.stage (λ has. ne (only d kept.served kept.drawn kept.log s.views i v kept.seats at mine j u au has)) sits.standing;
              }),
              (λ t j u e ne au tu. ne (kept.seats.once j i u v t au at tu (mine ∙ e))),
              (λ t lo hi. dite (ℕ_discrete t kept.served) (λ e. inl (ap Some (sym e))) (λ ne. inr (lo, hi, (λ e. ne (some_is t kept.served (sym e ∙ mine)))))),
              inl (turn.0, refl),
              inr (refl, refl),
            );
      }

  pub notes : (d : Deed T) (n i : ℕ) (me : Mine T E F) (t k : ℕ) (y : T) → me.0.stage ≡ Holds t → (told : Option T) → told ≡ Some y
      → Grows caller me.0.first me.0.end me.0.seen (entries y) → k ≡ length (entries y)
      → Allows (Kept entries caller fixed d) n i me 2 (λ _. k) (λ _. Notes entries told (step n 2 k 0 none) me k)
  notes d n i me t k y holds told has grows is s kept wide at small =
      let was = kept.seats.sits i me.0 at in
      let turn : Standing caller kept.served kept.drawn kept.log me.0 (Holds t) = subst (λ (g : Stage E). Standing caller kept.served kept.drawn kept.log me.0 g) holds was.standing in
      let holds' : me.0.stage ≡ Holds kept.served = holds ∙ ap Holds turn.1 in
      let w : View E F = with_seen me.0 (entries y) (Noted kept.served) in
      let P : List ℕ → Type 0 = λ ws. (w : View E F) × (a : Act (Option T)) × Valid s.homes me.1 a
      × Kept entries caller fixed d record { words = set ws 2 k; homes = homes_after s.homes me.1 a; views = set s.views i w }
      × Notes entries told (step n 2 k 0 none) me k (w, carried_after me.1 a) in
      subst P (sym kept.words) (
        w,
        keeps,
        tt,
        subst (λ m. Holds3 d kept.bells kept.drawn kept.served m s.homes (set s.views i w)) (sym is) (grown d s i me.0 kept at y holds' grows),
        (y, has, ap (λ g. (with_seen me.0 (entries y) (Noted g), me.1)) (sym (ap number holds'))),
      )

  -- the turn is passed on, and the slot comes home
  passed : (d : Deed T) (s : State (Option T) (View E F)) (i : ℕ) (v : View E F) (kept : Kept entries caller fixed d s) → get_elem? s.views i ≡ some v
      → (y : T) → v.stage ≡ Noted kept.served → entries y ≡ v.seen → v.fixed ≡ Some (fixed y)
      → Holds3 d kept.bells kept.drawn (kept.served + 1) (length kept.log) (set s.homes 0 (some (Some y))) (set s.views i (with_stage v Idle))
  passed d s i v kept at y noted list part =
      let was = kept.seats.sits i v at in
      let w : View E F = with_stage v Idle in
      let turn : Standing caller kept.served kept.drawn kept.log v (Noted kept.served) = subst (λ (g : Stage E). Standing caller kept.served kept.drawn kept.log v g) noted was.standing in
      let mine : ticket v.stage ≡ Some kept.served = ap ticket noted in
      let others : (j : ℕ) (u : View E F) → j ≢ i → get_elem? s.views j ≡ some u → has_slot u.stage ≡ true → ⊥ = λ j u ne au has. ne (only d kept.served kept.drawn kept.log s.views i v kept.seats at mine j u au has) in
      record {
        drawn = kept.drawn;
        served = kept.served + 1;
        log = kept.log;
        added = kept.added;
        bells = kept.bells;
        words = refl;
        many = kept.many;
        order = let lt = turn.2 in omega arith;
        small = kept.small;
        opened = kept.opened;
        callers = kept.callers;
        slot = inl (
          y,
          record {
            free = λ j u e. ⊎_elim (λ s'. ap (λ (x : View E F). has_slot x.stage) (sym s'.1)) (λ o. is_false (has_slot u.stage) (others j u o.0 o.1)) (at_set s.views i j w u e);
            lies = ⊎_elim
                (λ h. absurd (true_false (has_slot v.stage) (ap has_slot noted) (h.1.free i v at)))
                (λ o. ap (λ (hs : List (maybe.Option (Option T))). set hs 0 (some (Some y))) o.2.empty)
                kept.slot;
            list = list ∙ turn.3;
            part = some_same (sym part ∙ was.part turn.0);
          },
        );
        untouched = λ e. let low = turn.2 in absurd (omega (arith, e));
        seats = reseat d kept.served kept.drawn kept.log (kept.served + 1) kept.drawn kept.log s.views i v w kept.seats at refl refl
            record { follows = was.follows; within = was.within; part = was.part; standing = tt } (
              (λ j u ne au sits. record {
                follows = sits.follows;
                within = sits.within;
                part = sits.part;
                standing = standing_next caller kept.served kept.drawn kept.log u u.stage (others j u ne au) (λ tu. ne (kept.seats.once j i u v kept.served au at tu mine)) sits.standing;
              }),
              (λ t j u e ne au tu. some_none t (sym e)),
              (λ t lo hi. inr (omega arith, hi, (λ e. let same : t ≡ kept.served = some_is t kept.served (sym e ∙ mine) in omega arith))),
              inr (refl, refl),
              inr (refl, refl),
            );
      }

  pub passes : (d : Deed T) (n i : ℕ) (me : Mine T E F) (t : ℕ) (y : T) → me.0.stage ≡ Noted t → me.1 ≡ (0, Some y) ∷ [] → entries y ≡ me.0.seen → me.0.fixed ≡ Some (fixed y)
      → Allows (Kept entries caller fixed d) n i me 1 (λ k. (k + 1) % 2 ^ 64) (Passes (step n 1 1 0 none) me)
  passes d n i me t y noted has list part s kept wide at small =
      let was = kept.seats.sits i me.0 at in
      let turn : Standing caller kept.served kept.drawn kept.log me.0 (Noted t) = subst (λ (g : Stage E). Standing caller kept.served kept.drawn kept.log me.0 g) noted was.standing in
      let noted' : me.0.stage ≡ Noted kept.served = noted ∙ ap Noted turn.1 in
      let w : View E F = with_stage me.0 Idle in
      let fits = kept.small in
      let lt = turn.2 in
      let same = turn.1 in
      let next : (kept.served + 1) % 2 ^ 64 ≡ kept.served + 1 = mod-eq_of_lt (omega arith) in
      let P : List ℕ → Type 0 = λ ws. (w : View E F) × (a : Act (Option T)) × Valid s.homes me.1 a
      × Kept entries caller fixed d record { words = set ws 1 ((get_or ws 1 0 + 1) % 2 ^ 64); homes = homes_after s.homes me.1 a; views = set s.views i w }
      × Passes (step n 1 1 0 none) me (get_or ws 1 0) (w, carried_after me.1 a) in
      subst P (sym kept.words) (
        w,
        gives,
        tt,
        subst (λ (c : List (ℕ × Option T)). Holds3 d kept.bells kept.drawn ((kept.served + 1) % 2 ^ 64) (length kept.log) (homes_after s.homes c gives) (set s.views i w)) (sym has)
            (subst (λ m. Holds3 d kept.bells kept.drawn m (length kept.log) (set s.homes 0 (some (Some y))) (set s.views i w)) (sym next) (passed d s i me.0 kept at y noted' list part)),
        (refl, omega arith),
      )

  -- a look after two views were joined: one of the two prefixes is all that is seen, and the other begins it
  pub settles : (d : Deed T) (n i : ℕ) (me : Mine T E F) (mid : ℕ) (xs ys : List E) → me.0.stage ≡ Met mid xs ys
      → Allows (Kept entries caller fixed d) n i me 1 (λ k. k) (Settles caller (step n 1 0 0 none) me)
  settles d n i me mid xs ys met s kept wide at small =
      let was = kept.seats.sits i me.0 at in
      let w : View E F = with_stage me.0 Idle in
      let told : Standing caller kept.served kept.drawn kept.log me.0 (Met mid xs ys) = subst (λ (g : Stage E). Standing caller kept.served kept.drawn kept.log me.0 g) met was.standing in
      let P : List ℕ → Type 0 = λ ws. (w : View E F) × (a : Act (Option T)) × Valid s.homes me.1 a
      × Kept entries caller fixed d record { words = set ws 1 (get_or ws 1 0); homes = homes_after s.homes me.1 a; views = set s.views i w }
      × Settles caller (step n 1 0 0 none) me (get_or ws 1 0) (w, carried_after me.1 a) in
      subst P (sym kept.words) (
        w,
        keeps,
        tt,
        record {
          drawn = kept.drawn;
          served = kept.served;
          log = kept.log;
          added = kept.added;
          bells = kept.bells;
          words = refl;
          many = kept.many;
          order = kept.order;
          small = kept.small;
          opened = kept.opened;
          callers = kept.callers;
          slot = placed_stays d kept.log s.homes s.views i me.0 w at (ap has_slot met) refl kept.slot;
          untouched = kept.untouched;
          seats = reseat d kept.served kept.drawn kept.log kept.served kept.drawn kept.log s.views i me.0 w kept.seats at refl refl
              record { follows = was.follows; within = was.within; part = was.part; standing = tt } (
                (λ j u ne au sits. sits),
                (λ t j u e ne au tu. some_none t (sym e)),
                (λ t lo hi. inr (lo, hi, (λ e. some_none t (sym e ∙ ap ticket met)))),
                inr (refl, refl),
                inr (refl, refl),
              );
        },
        (refl, (mid, xs, ys, met, told.0, told.1)),
      )

  -- what each view of the list after a cut was before
  abbrev Cut : List (View E F) → ℕ → View E F → ℕ → ℕ → View E F → Type 0
  Cut views i v at j x = ((j ≢ i) × (get_elem? views j ≡ some x)) ⊎ ((j ≡ i) × (below at v ≡ x)) ⊎ ((j ≡ length views) × (above at v ≡ x))

  -- the range of a cut view lies within the range before, and no view of it holds a ticket
  relate : (views : List (View E F)) (i : ℕ) (v : View E F) (at j : ℕ) (x : View E F) → Cut views i v at j x → ((j ≢ i) × (get_elem? views j ≡ some x)) ⊎ ((below at v ≡ x) ⊎ (above at v ≡ x))
  relate views i v at j x c = ⊎_elim (λ o. inl o) (⊎_elim (λ b. inr (inl b.1)) (λ b. inr (inr b.1))) c

  cut_idle : (v : View E F) (at : ℕ) (x : View E F) (t : ℕ) → (below at v ≡ x) ⊎ (above at v ≡ x) → ticket x.stage ≡ Some t → ⊥
  cut_idle v at x t b e = ⊎_elim (λ l. some_none t (sym e ∙ ap (λ (u : View E F). ticket u.stage) (sym l))) (λ r. some_none t (sym e ∙ ap (λ (u : View E F). ticket u.stage) (sym r))) b

  cut_apart : (views : List (View E F)) (i : ℕ) (v : View E F) (at : ℕ)
      → ((j k : ℕ) (v w : View E F) → get_elem? views j ≡ some v → get_elem? views k ≡ some w → j ≢ k → Apart v w) → get_elem? views i ≡ some v
      → (j k : ℕ) (x y : View E F) → Cut views i v at j x → Cut views i v at k y → j ≢ k → v.first < at → at < v.end → Apart x y
  cut_apart views i v at apart seat j k x y cx cy ne lo hi = ⊎_elim
      (λ o. ⊎_elim
      (λ o'. apart j k x y o.1 o'.1 ne)
      (⊎_elim
      (λ b. subst (λ (z : View E F). Apart x z) b.1 (λ c p q p' q'. apart j i x v o.1 seat o.0 c p q p' (omega arith)))
      (λ b. subst (λ (z : View E F). Apart x z) b.1 (λ c p q p' q'. apart j i x v o.1 seat o.0 c p q (omega arith) q')))
      cy)
      (⊎_elim
      (λ b. subst (λ (z : View E F). Apart z y) b.1 (⊎_elim
      (λ o'. λ c p q p' q'. apart i k v y seat o'.1 (λ e. o'.0 (sym e)) c p (omega arith) p' q')
      (⊎_elim
      (λ b'. absurd (ne (b.0 ∙ sym b'.0)))
      (λ b'. subst (λ (z : View E F). Apart (below at v) z) b'.1 (λ c p q p' q'. omega arith)))
      cy))
      (λ b. subst (λ (z : View E F). Apart z y) b.1 (⊎_elim
      (λ o'. λ c p q p' q'. apart i k v y seat o'.1 (λ e. o'.0 (sym e)) c (omega arith) q p' q')
      (⊎_elim
      (λ b'. subst (λ (z : View E F). Apart (above at v) z) b'.1 (λ c p q p' q'. omega arith))
      (λ b'. absurd (ne (b.0 ∙ sym b'.0))))
      cy)))
      cx

  cut_was : (views : List (View E F)) (i : ℕ) (v : View E F) (at j : ℕ) (x : View E F) → get_elem? (set views i (below at v) ++ above at v ∷ []) j ≡ some x → Cut views i v at j x
  cut_was views i v at j x e = ⊎_elim
      (λ old. ⊎_elim (λ s. inr (inl s)) (λ o. inl o) (at_set views i j (below at v) x old))
      (λ new. inr (inr (new.0 ∙ length-set views i (below at v), new.1)))
      (at_end (set views i (below at v)) (above at v) x j e)

  pub cuts : (d : Deed T) (i : ℕ) (v : View E F) (at : ℕ) → v.stage ≡ Idle → v.first < at → at < v.end
      → Splits (Kept entries caller fixed d) i v (below at v) (above at v)
  cuts d i v at idle lo hi s kept seat =
      let was = kept.seats.sits i v seat in
      let l : View E F = below at v in let r : View E F = above at v in
      let new : List (View E F) = set s.views i l ++ r ∷ [] in
      let long = at_length s.views i v seat in
      let part = was.part (omega arith) in
      let range = was.within (omega arith) in
      let stays_at : (j : ℕ) (u : View E F) → j ≢ i → get_elem? s.views j ≡ some u → get_elem? new j ≡ some u = λ j u ne e. at_longer (set s.views i l) (r ∷ []) j u (set_else s.views i j l ne ∙ e) in
      let idle_left : get_elem? new i ≡ some l = at_longer (set s.views i l) (r ∷ []) i l (set_here s.views i l long) in
      let sits_l : Sits entries caller fixed d kept.served kept.drawn kept.log l = record {
        follows = follows_as (own caller v) (own caller l) (λ e h. within_in v.first v.end v.first at (caller e) (omega arith) (omega arith) h) v.seen kept.log was.follows;
        within = λ h. (range.0, omega arith);
        part = λ h. part;
        standing = tt;
      } in
      let sits_r : Sits entries caller fixed d kept.served kept.drawn kept.log r = record {
        follows = follows_as (own caller v) (own caller r) (λ e h. within_in v.first v.end at v.end (caller e) (omega arith) (omega arith) h) v.seen kept.log was.follows;
        within = λ h. (omega arith, range.1);
        part = λ h. part;
        standing = tt;
      } in
      -- each view lies within one that stood there before
      let Old : ℕ → View E F → Type 0 = λ j x. (k : ℕ) × (y : View E F) × (get_elem? s.views k ≡ some y) × (y.first ≤ x.first) × (x.end ≤ y.end) in
      record {
        drawn = kept.drawn;
        served = kept.served;
        log = kept.log;
        added = kept.added;
        bells = kept.bells;
        words = kept.words;
        many = kept.many;
        order = kept.order;
        small = kept.small;
        opened = kept.opened;
        callers = kept.callers;
        slot = ⊎_elim
            (λ h. inl (
              h.0,
              record {
                free = λ j u e. ⊎_elim (λ o. h.1.free j u o.1) (⊎_elim (λ b. ap (λ (x : View E F). has_slot x.stage) (sym b.1)) (λ b. ap (λ (x : View E F). has_slot x.stage) (sym b.1))) (cut_was s.views i v at j u e);
                lies = h.1.lies;
                list = h.1.list;
                part = h.1.part;
              },
            ))
            (λ o. inr (
              o.0,
              o.1,
              record {
                empty = o.2.empty;
                at = stays_at o.0 o.1 (λ e. true_false (has_slot v.stage) (ap (λ (x : View E F). has_slot x.stage) (some-injective v o.1 (sym seat ∙ (ap (λ k. get_elem? s.views k) (sym e) ∙ o.2.at))) ∙ o.2.has) (ap has_slot idle)) o.2.at;
                has = o.2.has;
              },
            ))
            kept.slot;
        untouched = kept.untouched;
        seats = record {
          sits = λ j u e. ⊎_elim (λ o. kept.seats.sits j u o.1)
              (⊎_elim (λ b. subst (λ (x : View E F). Sits entries caller fixed d kept.served kept.drawn kept.log x) b.1 sits_l) (λ b. subst (λ (x : View E F). Sits entries caller fixed d kept.served kept.drawn kept.log x) b.1 sits_r))
              (cut_was s.views i v at j u e);
          apart = λ j k x y ex ey ne. cut_apart s.views i v at kept.seats.apart seat j k x y (cut_was s.views i v at j x ex) (cut_was s.views i v at k y ey) ne lo hi;
          once = λ j k x y t ex ey tx ty. ⊎_elim
              (λ o. ⊎_elim (λ o'. kept.seats.once j k x y t o.1 o'.1 tx ty) (λ b. absurd (cut_idle v at y t b ty)) (relate s.views i v at k y (cut_was s.views i v at k y ey)))
              (λ b. absurd (cut_idle v at x t b tx))
              (relate s.views i v at j x (cut_was s.views i v at j x ex));
          held = λ t low high. let h = kept.seats.held t low high in
              (h.0, h.1, stays_at h.0 h.1 (λ e. some_none t (sym h.3 ∙ (ap (λ (x : View E F). ticket x.stage) (sym (some-injective v h.1 (sym seat ∙ (ap (λ k. get_elem? s.views k) (sym e) ∙ h.2)))) ∙ ap ticket idle))) h.2, h.3);
          whole = let h = kept.seats.whole in dite (ℕ_discrete h.0 i)
              (λ e. (i, l, idle_left, lo, ap (λ u. u.seen) (some-injective v h.1 (sym seat ∙ (ap (λ k. get_elem? s.views k) (sym e) ∙ h.2))) ∙ h.4))
              (λ ne. (h.0, h.1, stays_at h.0 h.1 ne h.2, h.3, h.4));
          told = λ some_drawn. let h = kept.seats.told some_drawn in dite (ℕ_discrete h.0 i)
              (λ e. (i, l, idle_left, lo, ap (λ u. u.drew) (some-injective v h.1 (sym seat ∙ (ap (λ k. get_elem? s.views k) (sym e) ∙ h.2))) ∙ h.4))
              (λ ne. (h.0, h.1, stays_at h.0 h.1 ne h.2, h.3, h.4));
        };
      }

  -- what each view of the list after a join was before
  abbrev Joined : List (View E F) → ℕ → ℕ → View E F → View E F → ℕ → View E F → Type 0
  Joined views i o v w j x = ((j ≢ i) × (j ≢ o) × (get_elem? views j ≡ some x)) ⊎ ((j ≡ i) × (both v w ≡ x)) ⊎ ((j ≡ o) × (spent ≡ x))

  joined_was : (views : List (View E F)) (i o : ℕ) (v w : View E F) (j : ℕ) (x : View E F) → get_elem? (set (set views i (both v w)) o spent) j ≡ some x → Joined views i o v w j x
  joined_was views i o v w j x e = ⊎_elim
      (λ s. inr (inr s))
      (λ n. ⊎_elim (λ s. inr (inl s)) (λ m. inl (m.0, n.0, m.1)) (at_set views i j (both v w) x n.1))
      (at_set (set views i (both v w)) o j spent x e)

  joined_idle : (views : List (View E F)) (i o : ℕ) (v w : View E F) (j : ℕ) (x : View E F) → Joined views i o v w j x → (get_elem? views j ≡ some x) ⊎ (ticket x.stage ≡ None)
  joined_idle views i o v w j x c = ⊎_elim (λ n. inl n.2) (⊎_elim (λ b. inr (ap (λ (u : View E F). ticket u.stage) (sym b.1))) (λ b. inr (ap (λ (u : View E F). ticket u.stage) (sym b.1)))) c

  joined_apart : (views : List (View E F)) (i o : ℕ) (v w : View E F)
      → ((j k : ℕ) (x y : View E F) → get_elem? views j ≡ some x → get_elem? views k ≡ some y → j ≢ k → Apart x y) → get_elem? views i ≡ some v → get_elem? views o ≡ some w → v.end ≡ w.first
      → (j k : ℕ) (x y : View E F) → Joined views i o v w j x → Joined views i o v w k y → j ≢ k → Apart x y
  joined_apart views i o v w apart ev ew next j k x y cx cy ne =
      let outside : (k : ℕ) (y : View E F) → k ≢ i → k ≢ o → get_elem? views k ≡ some y → Apart (both v w) y = λ k y ni no' ey c p q p' q'.
      ⊎_elim (λ lt. apart i k v y ev ey (λ e. ni (sym e)) c p lt p' q') (λ le. apart o k w y ew ey (λ e. no' (sym e)) c (omega arith) q p' q') (lt_or_le c v.end) in
      ⊎_elim
      (λ n. ⊎_elim
      (λ n'. apart j k x y n.2 n'.2 ne)
      (⊎_elim
      (λ b. subst (λ (z : View E F). Apart x z) b.1 (λ c p q p' q'. outside j x n.0 n.1 n.2 c p' q' p q))
      (λ b. subst (λ (z : View E F). Apart x z) b.1 (λ c p q p' q'. omega arith)))
      cy)
      (⊎_elim
      (λ b. subst (λ (z : View E F). Apart z y) b.1 (⊎_elim
      (λ n'. outside k y n'.0 n'.1 n'.2)
      (⊎_elim
      (λ b'. absurd (ne (b.0 ∙ sym b'.0)))
      (λ b'. subst (λ (z : View E F). Apart (both v w) z) b'.1 (λ c p q p' q'. omega arith)))
      cy))
      (λ b. subst (λ (z : View E F). Apart z y) b.1 (λ c p q p' q'. omega arith)))
      cx

  pub joins : (d : Deed T) (i : ℕ) (v : View E F) (o : ℕ) (w : View E F) → v.stage ≡ Idle → w.stage ≡ Idle → v.first < v.end → v.end ≡ w.first → w.first < w.end
      → Joins (Kept entries caller fixed d) i v o w (both v w) spent
  joins d i v o w idle idle' some_v next some_w s kept ev diff at =
      let ew : get_elem? s.views o ≡ some w = sym (set_else s.views i o (both v w) diff) ∙ at in
      let b : View E F = both v w in
      let new : List (View E F) = set (set s.views i b) o spent in
      let sv = kept.seats.sits i v ev in let sw = kept.seats.sits o w ew in
      let part = sv.part some_v in let low = sv.within some_v in let high = sw.within some_w in
      let told = joined (own caller v) (own caller w) (own caller b)
      (λ e h k. joined_in v.first v.end w.end (caller e) h (subst (λ m. in_range m w.end (caller e) ≡ false) (sym next) k)) v.seen w.seen kept.log sv.follows sw.follows in
      let here : get_elem? new i ≡ some b = set_else (set s.views i b) o i spent (λ e. diff (sym e)) ∙ set_here s.views i b (at_length s.views i v ev) in
      let stays_at : (j : ℕ) (u : View E F) → j ≢ i → j ≢ o → get_elem? s.views j ≡ some u → get_elem? new j ≡ some u = λ j u ni no' e. set_else (set s.views i b) o j spent no' ∙ (set_else s.views i j b ni ∙ e) in
      let sits_b : Sits entries caller fixed d kept.served kept.drawn kept.log b = record { follows = told.0; within = λ h. (low.0, high.1); part = λ h. part; standing = (told.1, subst (λ m. Follows (λ e. in_range m w.end (caller e)) w.seen (longer v.seen w.seen)) (sym next) told.2) } in
      let sits_s : Sits entries caller fixed d kept.served kept.drawn kept.log spent = record {
        follows = record { rest = kept.log; whole = refl; quiet = quiet_none caller kept.log };
        within = λ h. absurd (omega arith);
        part = λ h. absurd (omega arith);
        standing = tt;
      } in
      let not_i : (j : ℕ) (u : View E F) → get_elem? s.views j ≡ some u → (ticket u.stage ≡ None → ⊥) → j ≢ i = λ j u eu busy e. busy (ap (λ (x : View E F). ticket x.stage) (some-injective u v (sym eu ∙ (ap (λ k. get_elem? s.views k) e ∙ ev))) ∙ ap ticket idle) in
      let not_o : (j : ℕ) (u : View E F) → get_elem? s.views j ≡ some u → (ticket u.stage ≡ None → ⊥) → j ≢ o = λ j u eu busy e. busy (ap (λ (x : View E F). ticket x.stage) (some-injective u w (sym eu ∙ (ap (λ k. get_elem? s.views k) e ∙ ew))) ∙ ap ticket idle') in
      record {
        drawn = kept.drawn;
        served = kept.served;
        log = kept.log;
        added = kept.added;
        bells = kept.bells;
        words = kept.words;
        many = kept.many;
        order = kept.order;
        small = kept.small;
        opened = kept.opened;
        callers = kept.callers;
        slot = ⊎_elim
            (λ h. inl (
              h.0,
              record {
                free = λ j u e. ⊎_elim (λ n. h.1.free j u n.2) (⊎_elim (λ c. ap (λ (x : View E F). has_slot x.stage) (sym c.1)) (λ c. ap (λ (x : View E F). has_slot x.stage) (sym c.1))) (joined_was s.views i o v w j u e);
                lies = h.1.lies;
                list = h.1.list;
                part = h.1.part;
              },
            ))
            (λ q. let busy : ticket q.1.stage ≡ None → ⊥ = λ e. some_none kept.served (sym (slot_ticket caller kept.served kept.drawn kept.log q.1 q.1.stage ((kept.seats.sits q.0 q.1 q.2.at).standing) q.2.has) ∙ e) in
            inr (q.0, q.1, record { empty = q.2.empty; at = stays_at q.0 q.1 (not_i q.0 q.1 q.2.at busy) (not_o q.0 q.1 q.2.at busy) q.2.at; has = q.2.has }))
            kept.slot;
        untouched = kept.untouched;
        seats = record {
          sits = λ j u e. ⊎_elim (λ n. kept.seats.sits j u n.2)
              (⊎_elim (λ c. subst (λ (x : View E F). Sits entries caller fixed d kept.served kept.drawn kept.log x) c.1 sits_b) (λ c. subst (λ (x : View E F). Sits entries caller fixed d kept.served kept.drawn kept.log x) c.1 sits_s))
              (joined_was s.views i o v w j u e);
          apart = λ j k x y ex ey ne. joined_apart s.views i o v w kept.seats.apart ev ew next j k x y (joined_was s.views i o v w j x ex) (joined_was s.views i o v w k y ey) ne;
          once = λ j k x y t ex ey tx ty. ⊎_elim
              (λ n. ⊎_elim (λ n'. kept.seats.once j k x y t n n' tx ty) (λ z. absurd (some_none t (sym ty ∙ z))) (joined_idle s.views i o v w k y (joined_was s.views i o v w k y ey)))
              (λ z. absurd (some_none t (sym tx ∙ z)))
              (joined_idle s.views i o v w j x (joined_was s.views i o v w j x ex));
          held = λ t lo hi. let h = kept.seats.held t lo hi in
              let busy : ticket h.1.stage ≡ None → ⊥ = λ e. some_none t (sym h.3 ∙ e) in
              (h.0, h.1, stays_at h.0 h.1 (not_i h.0 h.1 h.2 busy) (not_o h.0 h.1 h.2 busy) h.2, h.3);
          whole = let h = kept.seats.whole in dite (ℕ_discrete h.0 i)
              (λ e. (
                i,
                b,
                here,
                omega arith,
                whole_longer (own caller b) (own caller v) v.seen b.seen kept.log
                    (ap (λ u. u.seen) (some-injective v h.1 (sym ev ∙ (ap (λ k. get_elem? s.views k) (sym e) ∙ h.2))) ∙ h.4) told.1 told.0,
              ))
              (λ ne. dite (ℕ_discrete h.0 o)
              (λ e. (
                i,
                b,
                here,
                omega arith,
                whole_longer (own caller b) (own caller w) w.seen b.seen kept.log
                    (ap (λ u. u.seen) (some-injective w h.1 (sym ew ∙ (ap (λ k. get_elem? s.views k) (sym e) ∙ h.2))) ∙ h.4) told.2 told.0,
              ))
              (λ ne'. (h.0, h.1, stays_at h.0 h.1 ne ne' h.2, h.3, h.4)));
          told = λ some_drawn. let h = kept.seats.told some_drawn in dite (ℕ_discrete h.0 i)
              (λ e. (i, b, here, omega arith, or_left v.drew w.drew (ap (λ u. u.drew) (some-injective v h.1 (sym ev ∙ (ap (λ k. get_elem? s.views k) (sym e) ∙ h.2))) ∙ h.4)))
              (λ ne. dite (ℕ_discrete h.0 o)
              (λ e. (i, b, here, omega arith, or_right v.drew w.drew (ap (λ u. u.drew) (some-injective w h.1 (sym ew ∙ (ap (λ k. get_elem? s.views k) (sym e) ∙ h.2))) ∙ h.4)))
              (λ ne'. (h.0, h.1, stays_at h.0 h.1 ne ne' h.2, h.3, h.4)));
        };
      }

  -- the rule holds of a new lock
  pub opens : (d : Deed T) (x : T) (n : ℕ) → d.value.value ≡ x → d.first < d.end → n ≡ length (entries x)
      → Kept entries caller fixed d (opening (0 ∷ 0 ∷ n ∷ 0 ∷ 0 ∷ 0 ∷ 0 ∷ 0 ∷ 0 ∷ 0 ∷ 0 ∷ 0 ∷ 0 ∷ 0 ∷ 0 ∷ 0 ∷ 0 ∷ 0 ∷ 0 ∷ []) (Some x ∷ []) (starting entries fixed d))
  opens d x n is some_caller len =
      let v : View E F = starting entries fixed d in
      let log : List E = entries d.value.value in
      record {
        drawn = 0;
        served = 0;
        log = log;
        added = [];
        bells = 0 ∷ 0 ∷ 0 ∷ 0 ∷ 0 ∷ 0 ∷ 0 ∷ 0 ∷ 0 ∷ 0 ∷ 0 ∷ 0 ∷ 0 ∷ 0 ∷ 0 ∷ 0 ∷ [];
        many = refl;
        words = ap (λ m. 0 ∷ 0 ∷ m ∷ 0 ∷ 0 ∷ 0 ∷ 0 ∷ 0 ∷ 0 ∷ 0 ∷ 0 ∷ 0 ∷ 0 ∷ 0 ∷ 0 ∷ 0 ∷ 0 ∷ 0 ∷ 0 ∷ []) (len ∙ ap (λ y. length (entries y)) (sym is));
        order = omega arith;
        small = omega arith;
        opened = sym (append-nil log);
        callers = tt;
        slot = inl (x, record { free = λ j u e. ap (λ (y : View E F). has_slot y.stage) (sym (one_at v j u e)); lies = refl; list = ap entries (sym is); part = ap fixed (sym is) });
        untouched = λ e. ap (λ (y : T). some (Some y) ∷ []) (sym is);
        seats = record {
          sits = λ j u e. subst (λ (y : View E F). Sits entries caller fixed d 0 0 log y) (one_at v j u e)
              record { follows = follows_self (own caller v) log log refl; within = λ h. (omega arith, omega arith); part = λ h. refl; standing = tt };
          apart = λ j k u y eu ey ne. absurd (ne (one_index v j u eu ∙ sym (one_index v k y ey)));
          once = λ j k u y t eu ey tu ty. one_index v j u eu ∙ sym (one_index v k y ey);
          held = λ t lo hi. absurd (omega arith);
          whole = (0, v, refl, some_caller, refl);
          told = λ some_drawn. absurd (omega arith);
        };
      }

  is_zero : (n : ℕ) → (0 < n → ⊥) → n ≡ 0
  is_zero zero h = refl
  is_zero (suc n) h = absurd (h (omega arith))

  -- one slot has one value
  one_home : (x y : T) → some (Some x) ∷ [] ≡ some (Some y) ∷ [] → x ≡ y
  one_home x y e = some_same (some-injective (Some x) (Some y) (ap (λ (hs : List (maybe.Option (Option T))). front hs) e)) where
    front : List (maybe.Option (Option T)) → maybe.Option (Option T)
    front [] = none
    front (h ∷ hs) = h

  -- at the end, with the view of the whole range idle, the value is at home, and its list is what the view has seen
  pub closes : (d : Deed T) (i : ℕ) (v : View E F) (ws : List ℕ) (xs : List (Option T)) → v.stage ≡ Idle → v.first ≡ d.first → v.end ≡ d.end → length xs ≡ 1
      → Final (Seen (Kept entries caller fixed d) i v) ws xs
      → (x : T) × (get_elem? xs 0 ≡ some (Some x)) × (entries x ≡ v.seen) × (fixed x ≡ fixed d.value.value) × Added caller d.first d.end (entries d.value.value) (entries x) × (v.drew ≡ false → x ≡ d.value.value)
  closes d i v ws xs idle first end one fin =
      let s = fin.0 in let kept = fin.1.0 in let at = fin.1.1 in
      let mine : (j : ℕ) (u : View E F) → get_elem? s.views j ≡ some u → u.first < u.end → j ≡ i = λ j u eu lt. dite (ℕ_discrete j i) (λ e. e)
      (λ ne. let r = (kept.seats.sits j u eu).within lt in absurd (kept.seats.apart j i u v eu at ne u.first (omega arith) lt (omega arith) (omega arith))) in
      let w = kept.seats.whole in
      let seen : v.seen ≡ kept.log = ap (λ u. u.seen) (some-injective v w.1 (sym at ∙ (ap (λ k. get_elem? s.views k) (sym (mine w.0 w.1 w.2 w.3)) ∙ w.2))) ∙ w.4 in
      let no_ticket : v.drew ≡ false → kept.drawn ≡ 0 = λ quiet. is_zero kept.drawn (λ some_drawn.
      let h = kept.seats.told some_drawn in
      true_false v.drew (ap (λ u. u.drew) (some-injective v h.1 (sym at ∙ (ap (λ k. get_elem? s.views k) (sym (mine h.0 h.1 h.2 h.3)) ∙ h.2))) ∙ h.4) quiet) in
      ⊎_elim
      (λ h. (h.0, fin.4 0 (Some h.0) (ap (λ (hs : List (maybe.Option (Option T))). get_elem? hs 0) h.1.lies), h.1.list ∙ sym seen, h.1.part, record { more = kept.added; whole = h.1.list ∙ kept.opened; callers = kept.callers }, (λ quiet. one_home h.0 d.value.value (sym h.1.lies ∙ kept.untouched (no_ticket quiet)))))
      (λ q. absurd (
      let st = (kept.seats.sits q.0 q.1 q.2.at).standing in
      let j = mine q.0 q.1 q.2.at (slot_range caller kept.served kept.drawn kept.log q.1 q.1.stage st q.2.has) in
      true_false (has_slot v.stage) (ap (λ (x : View E F). has_slot x.stage) (some-injective v q.1 (sym at ∙ (ap (λ k. get_elem? s.views k) (sym j) ∙ q.2.at))) ∙ q.2.has) (ap has_slot idle)))
      kept.slot
