-- A step on one page of a sheet is that step on its state.
use Rattle.std.proofs.Common.{◌≡◌, ◌≢◌, ℕ, suc, zero, ◌<◌, ◌≤◌, ◌⊎◌, inl, inr, sym, ◌∙◌, ap, subst, refl, arith, List, [], ◌∷◌, length, All, Option, Some, None, length-set, take, drop, ◌++◌}
use Rattle.std.proofs.lemmas.Grind.{common_steps}
use Rattle.std.specs.List.{slice_get, slice_index}
use Rattle.std.proofs.Math.ListN.{set}
use Rattle.std.proofs.Math.Path.{fun_ext}
use Rattle.std.proofs.lemmas.Bool.{eq-eqb}
use Rattle.std.proofs.lemmas.Bool.Decides.{eqb_tells}
use Rattle.std.proofs.lemmas.List.{get_or-set_same, get_or_past}
use Rattle.std.proofs.lemmas.Option.{slice_get-get_or, slice_get_within, get_or_from_slice_get}
use Rattle.hist_plain.specs.declared.event.Event.{Event}
use Rattle.hist_plain.specs.declared.event.Op.{Op}
use Rattle.tower_core.specs.declared.page.Page.{Page}
use Rattle.tower_core.specs.declared.step.Step.{Step}
use Rattle.tower_core.specs.TreeShape.{TreeShape}
use Rattle.tower_core.specs.Column.{Column, column_after, used_after}
use Rattle.tower_core.specs.Page.{IsFresh, page_column, page_used, column_seen, used_seen}
use Rattle.tower_core.specs.Trail.{State, start, of_page, moved, state_after, step_of_access}

pub slice_get-set_same : {X : Type 0} (xs : List X) (k : ℕ) (v : X) → k < length xs → slice_get (set xs k v) k ≡ Some v
slice_get-set_same xs k v h =
    let inside : k < length (set xs k v) = rw length-set h in
    slice_get-get_or (set xs k v) k v inside ∙ ap Some (get_or-set_same xs k v v h)

pub slice_get-set_other : {X : Type 0} (xs : List X) (k j : ℕ) (v : X) → j ≢ k → slice_get (set xs k v) j ≡ slice_get xs j
slice_get-set_other [] k j v d = refl
slice_get-set_other (x ∷ xs) zero zero v d = absurd (d refl)
slice_get-set_other (x ∷ xs) zero (suc j) v d = refl
slice_get-set_other (x ∷ xs) (suc k) zero v d = refl
slice_get-set_other (x ∷ xs) (suc k) (suc j) v d = slice_get-set_other xs k j v (λ e. d (ap (λ n. suc n) e))

pub column_is : (c d : Column) → ((n : ℕ) → c.right n ≡ d.right n) → ((n : ℕ) → c.at n ≡ d.at n) → c.newest ≡ d.newest → c ≡ d
column_is c d right at newest = λ i. record { right = fun_ext right i; at = fun_ext at i; newest = newest i }

pub state_is : (s t : State) → s.life ≡ t.life → s.column ≡ t.column → s.used ≡ t.used → s.len ≡ t.len → s ≡ t
state_is s t life column used len = λ i. record { life = life i; column = column i; used = used i; len = len i }

-- one page of the list of pages takes a step, and the others stay
module _ (shape : TreeShape) (len : ℕ) (step : Step) (xs : List Page) (k : ℕ) (old new : Page) (was : slice_get xs k ≡ Some old) (inside : k < length xs) where
  pub columns_after : page_column new ≡ column_after shape len (page_column old) step → (p : ℕ) → column_seen (slice_get (set xs k new) p) ≡ column_after shape len (column_seen (slice_get xs p)) (of_page p k step)
  columns_after taken p = elim (eqb_tells k p) [
    | inl same ↦ rw same.0 (subst (λ q. column_seen (slice_get (set xs k new) q) ≡ column_after shape len (column_seen (slice_get xs q)) step) same.1
        (ap column_seen (slice_get-set_same xs k new inside) ∙ taken ∙ sym (ap (λ o. column_after shape len (column_seen o) step) was)))
    | inr other ↦ rw other.0 (ap column_seen (slice_get-set_other xs k p new (λ e. other.1 (sym e))))
  ]

  pub useds_after : page_used new ≡ used_after len (page_used old) step → (p : ℕ) → used_seen (slice_get (set xs k new) p) ≡ used_after len (used_seen (slice_get xs p)) (of_page p k step)
  useds_after taken p = elim (eqb_tells k p) [
    | inl same ↦ rw same.0 (subst (λ q. used_seen (slice_get (set xs k new) q) ≡ used_after len (used_seen (slice_get xs q)) step) same.1
        (ap used_seen (slice_get-set_same xs k new inside) ∙ taken ∙ sym (ap (λ o. used_after len (used_seen o) step) was)))
    | inr other ↦ rw other.0 (ap used_seen (slice_get-set_other xs k p new (λ e. other.1 (sym e))))
  ]

-- an access of the node's life, and one of another

pub access_of_life : (shape : TreeShape) (s : State) (caller number node l : ℕ) (op : Op) → l ≡ s.life node → moved shape s s.life (λ p. step_of_access p node op) ≡ state_after shape s (Event.Access caller number node l op)
access_of_life shape s caller number node l op same =
    ap (moved shape s s.life) (fun_ext (λ p. rw (eq-eqb l (s.life node) same) refl))

-- what is written back to a Vec through a slice of all its elements
pub written_back : (n : ℕ) (new old : List ℕ) → length new ≡ length old → n ≡ length old → take n (new ++ drop (length new) old) ≡ new
written_back n new old same all = grind (arith, common_steps)

-- pages that are as at the start

fresh_column : (xs : List Page) → All IsFresh xs → (p : ℕ) (o : Option Page) → slice_get xs p ≡ o → column_seen o ≡ start.column p
fresh_column xs fresh p None e = refl
fresh_column xs fresh p (Some page) e =
    let ok = rw (get_or_from_slice_get xs p page page e) at (fresh p page (slice_get_within xs p page e)) in
    column_is (page_column page) (start.column p) ok.right ok.at ok.newest

fresh_used : (xs : List Page) → All IsFresh xs → (p : ℕ) (o : Option Page) → slice_get xs p ≡ o → used_seen o ≡ start.used p
fresh_used xs fresh p None e = refl
fresh_used xs fresh p (Some page) e =
    let ok = rw (get_or_from_slice_get xs p page page e) at (fresh p page (slice_get_within xs p page e)) in
    fun_ext ok.used

pub fresh_columns : (xs : List Page) → All IsFresh xs → (p : ℕ) → column_seen (slice_get xs p) ≡ start.column p
fresh_columns xs fresh p = fresh_column xs fresh p (slice_get xs p) refl

pub fresh_useds : (xs : List Page) → All IsFresh xs → (p : ℕ) → used_seen (slice_get xs p) ≡ start.used p
fresh_useds xs fresh p = fresh_used xs fresh p (slice_get xs p) refl

pub all_zero : (xs : List ℕ) → All (λ x. x ≤ 0) xs → (n : ℕ) → slice_index xs n ≡ 0
all_zero xs low n = elim (order n) [ inl inside ↦ omega (arith, low n 0 inside) | inr past ↦ get_or_past xs n 0 past ]
  where
    order : (k : ℕ) → (k < length xs) ⊎ (length xs ≤ k)
    order k = grind arith

pub get_or-set_later : (xs : List ℕ) (n v : ℕ) → 0 < n → slice_index (set xs 0 v) n ≡ slice_index xs n
get_or-set_later [] n v h = refl
get_or-set_later (x ∷ xs) zero v h = absurd (omega arith)
get_or-set_later (x ∷ xs) (suc n) v h = refl
