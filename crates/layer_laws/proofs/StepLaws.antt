-- Each step keeps the nodes' tables true.
use Rattle.std.proofs.Common.{◌≡◌, ◌≢◌, ℕ, ◌+◌, ◌<◌, ◌≤◌, ◌⊎◌, inl, inr, sym, ◌∙◌, ap, subst, refl, arith, true, false, Bool, List, Option, None}
use Rattle.std.proofs.lemmas.Bool.Decides.{eqb_tells}
use Rattle.tower_core.specs.declared.right.Right.{Right}
use Rattle.tower_core.specs.declared.step.Step.{Step}
use Rattle.tower_core.specs.declared.step.Step.TheVariants.{Untouched, Reads, Writes, Grants, PagesOut, Denies, Pushes, Flushes, Deletes}
use Rattle.tower_core.specs.TreeShape.{TreeShape, parent, nodes, IsUpper, IsTree}
use Rattle.tower_core.specs.Column.{Column, updated, given, granted_at, strength, IsCoherent, MayStep, IsStepOf, NoChildHolds, NoSiblingHolds, column_after}
use Rattle.tower_core.proofs.StepLaw.{updated-same, updated-other}
use Rattle.layer_laws.specs.Side.{Side, brought, marked}
use Rattle.layer_laws.specs.Shown.{AreRights, AreCopies, differs}
use Rattle.layer_laws.specs.Sent.{AreSent, AreStill, AreWritten, AreExchanged, IsPushed, IsGrounded, AreBrought, page_above, down_for, up_for, pushed_by, granted}
use Rattle.layer_laws.proofs.HandOvers.{IsHandOver, same_or_not, differs-same, differs-other, rights_keep, copies_keep}

no_strength : (r : Right) → strength r ≤ 0 → r ≡ Right.Nothing
no_strength Right.Nothing h = refl
no_strength Right.Read h = absurd (omega (arith, h))
no_strength Right.Write h = absurd (omega (arith, h))

full_strength : (r : Right) → 2 ≤ strength r → r ≡ Right.Write
full_strength Right.Nothing h = absurd (omega (arith, h))
full_strength Right.Read h = absurd (omega (arith, h))
full_strength Right.Write h = refl

-- what a step makes of the column
module _ (shape : TreeShape) (len : ℕ) (col : Column) (n : ℕ) (tree : IsTree shape) (un : IsUpper shape n) (coh : IsCoherent shape len col) where
  q_not_n : parent shape n ≢ n
  q_not_n e = let below : parent shape n < n = tree.ordered n un in absurd (omega (arith, below, e))

  n_not_q : n ≢ parent shape n
  n_not_q e = q_not_n (sym e)

  nobody_below : col.right n ≡ Right.Nothing → NoChildHolds shape col n
  nobody_below none c ic =
      let capped : strength (col.right c) ≤ strength (col.right (parent shape c)) = coh.capped c ic.upper in
      let zero_above : strength (col.right (parent shape c)) ≡ 0 = ap (λ (k : ℕ). strength (col.right k)) ic.hangs ∙ ap strength none in
      no_strength (col.right c) (omega (arith, capped, zero_above))

  granted_mark : (write : Bool) → MayStep shape col (Grants n write) → (r : Right) → col.right n ≡ r → granted_at shape col n r ≡ col.at (parent shape n)
  granted_mark write may Right.Nothing e = refl
  granted_mark write may Right.Read e = coh.reading n un e
  granted_mark true may Right.Write e = absurd (may.0 e)
  granted_mark false may Right.Write e = absurd ((let ne : Right.Write ≢ Right.Nothing = λ x. cc in ne) (sym e ∙ may.0))

  granted_children : (r : Right) → col.right n ≡ r → (granted_at shape col n r ≡ col.at n) ⊎ NoChildHolds shape col n
  granted_children Right.Nothing e = inr (nobody_below e)
  granted_children Right.Read e = inl refl
  granted_children Right.Write e = inl refl

  granted_above : (write : Bool) → MayStep shape col (Grants n write) → col.right (parent shape n) ≢ Right.Nothing
  granted_above true may = λ x. let no : Right.Write ≡ Right.Nothing = sym may.1 ∙ x in cc
  granted_above false may = may.1

  granted_over : (write : Bool) → MayStep shape col (Grants n write) → IsHandOver shape col (column_after shape len col (Grants n write)) n (granted write) (granted_at shape col n (col.right n)) (col.at (parent shape n))
  granted_over true may = record {
    right_same = updated-same col.right n Right.Write;
    right_others = λ m d. updated-other col.right n Right.Write m d;
    at_node = updated-same col.at n (granted_at shape col n (col.right n));
    at_above = updated-other col.at n (granted_at shape col n (col.right n)) (parent shape n) q_not_n;
    at_others = λ m d dq. updated-other col.at n (granted_at shape col n (col.right n)) m d;
    mark = λ some. granted_mark true may (col.right n) refl;
    siblings = inl refl;
    children = granted_children (col.right n) refl;
  }
  granted_over false may = record {
    right_same = updated-same col.right n Right.Read;
    right_others = λ m d. updated-other col.right n Right.Read m d;
    at_node = updated-same col.at n (granted_at shape col n (col.right n));
    at_above = updated-other col.at n (granted_at shape col n (col.right n)) (parent shape n) q_not_n;
    at_others = λ m d dq. updated-other col.at n (granted_at shape col n (col.right n)) m d;
    mark = λ some. granted_mark false may (col.right n) refl;
    siblings = inl refl;
    children = granted_children (col.right n) refl;
  }

  pushed_siblings : (r : Right) → col.right n ≡ r → r ≢ Right.Nothing → (col.at n ≡ col.at (parent shape n)) ⊎ NoSiblingHolds shape col n
  pushed_siblings Right.Nothing e some = absurd (some refl)
  pushed_siblings Right.Read e some = inl (coh.reading n un e)
  pushed_siblings Right.Write e some = inr (coh.alone n un e)

  -- a changed copy is later than the parent's, and than what is above that
  later : (r : Right) → col.right n ≡ r → r ≢ Right.Nothing → col.at n ≢ col.at (parent shape n) → IsUpper shape (parent shape n) → col.at n ≢ col.at (parent shape (parent shape n))
  later Right.Nothing e some d u = absurd (some refl)
  later Right.Read e some d u = absurd (d (coh.reading n un e))
  later Right.Write e some d u =
      let strong : strength (col.right n) ≡ 2 = ap strength e in
      let capped : strength (col.right n) ≤ strength (col.right (parent shape n)) = coh.capped n un in
      let one : col.at (parent shape n) ≤ col.at n = coh.writing n un e in
      let two : col.at (parent shape (parent shape n)) ≤ col.at (parent shape n) = coh.writing (parent shape n) u (full_strength (col.right (parent shape n)) (omega (arith, capped, strong))) in
      λ same. d (omega (arith, one, two, same))

  -- the copy stays at the node, and the parent's shows the same
  stays_over : (new : Column) (r : Right) → col.right n ≢ Right.Nothing → new.right n ≡ r → ((m : ℕ) → m ≢ n → new.right m ≡ col.right m) → new.at ≡ given shape col n → IsHandOver shape col new n r (col.at n) (col.at n)
  stays_over new r some same others at = record {
    right_same = same;
    right_others = others;
    at_node = ap (λ (f : ℕ → ℕ). f n) at ∙ updated-other col.at (parent shape n) (col.at n) n n_not_q;
    at_above = ap (λ (f : ℕ → ℕ). f (parent shape n)) at ∙ updated-same col.at (parent shape n) (col.at n);
    at_others = λ m d dq. ap (λ (f : ℕ → ℕ). f m) at ∙ updated-other col.at (parent shape n) (col.at n) m dq;
    mark = λ left. refl;
    siblings = pushed_siblings (col.right n) refl some;
    children = inl refl;
  }

  -- the node's copy goes
  goes_over : (new : Column) → col.right n ≢ Right.Nothing → NoChildHolds shape col n → new.right n ≡ Right.Nothing → ((m : ℕ) → m ≢ n → new.right m ≡ col.right m) → new.at ≡ updated (given shape col n) n 0 → IsHandOver shape col new n Right.Nothing 0 (col.at n)
  goes_over new some none same others at = record {
    right_same = same;
    right_others = others;
    at_node = ap (λ (f : ℕ → ℕ). f n) at ∙ updated-same (given shape col n) n 0;
    at_above = ap (λ (f : ℕ → ℕ). f (parent shape n)) at ∙ updated-other (given shape col n) n 0 (parent shape n) q_not_n ∙ updated-same col.at (parent shape n) (col.at n);
    at_others = λ m d dq. ap (λ (f : ℕ → ℕ). f m) at ∙ updated-other (given shape col n) n 0 m d ∙ updated-other col.at (parent shape n) (col.at n) m dq;
    mark = λ left. absurd (left refl);
    siblings = pushed_siblings (col.right n) refl some;
    children = inr none;
  }

  has_write : col.right n ≡ Right.Write → col.right n ≢ Right.Nothing
  has_write e x = let no : Right.Write ≡ Right.Nothing = sym e ∙ x in absurd (let f : ⊥ = cc in f)

  dropped_over : MayStep shape col (Deletes n) → IsHandOver shape col (column_after shape len col (Deletes n)) n Right.Nothing 0 (col.at (parent shape n))
  dropped_over may = record {
    right_same = updated-same col.right n Right.Nothing;
    right_others = λ m d. updated-other col.right n Right.Nothing m d;
    at_node = updated-same col.at n 0;
    at_above = updated-other col.at n 0 (parent shape n) q_not_n;
    at_others = λ m d dq. updated-other col.at n 0 m d;
    mark = λ left. absurd (left refl);
    siblings = inl refl;
    children = inr may.1;
  }

  pushes_over : MayStep shape col (Pushes n) → IsHandOver shape col (column_after shape len col (Pushes n)) n Right.Write (col.at n) (col.at n)
  pushes_over may = stays_over (column_after shape len col (Pushes n)) Right.Write (has_write may) may (λ m d. refl) refl

  denies_over : MayStep shape col (Denies n) → IsHandOver shape col (column_after shape len col (Denies n)) n Right.Read (col.at n) (col.at n)
  denies_over may = stays_over (column_after shape len col (Denies n)) Right.Read (has_write may.0) (updated-same col.right n Right.Read) (λ m d. updated-other col.right n Right.Read m d) refl

  flushes_over : MayStep shape col (Flushes n) → IsHandOver shape col (column_after shape len col (Flushes n)) n Right.Nothing 0 (col.at n)
  flushes_over may = goes_over (column_after shape len col (Flushes n)) (has_write may.0) may.1 (updated-same col.right n Right.Nothing) (λ m d. updated-other col.right n Right.Nothing m d) refl

  pages_out_over : MayStep shape col (PagesOut n) → IsHandOver shape col (column_after shape len col (PagesOut n)) n Right.Nothing 0 (col.at n)
  pages_out_over may = goes_over (column_after shape len col (PagesOut n)) may.0 may.1 (updated-same col.right n Right.Nothing) (λ m d. updated-other col.right n Right.Nothing m d) refl

-- THE RIGHTS
module _ (shape : TreeShape) (len : ℕ) (col : Column) (n : ℕ) (sides sides' : ℕ → Side) (tree : IsTree shape) (un : IsUpper shape n) (coh : IsCoherent shape len col) (rights : AreRights shape col sides) where
  not_changed : (sides n).changed ≡ false → col.right n ≢ Right.Nothing → col.at n ≡ col.at (parent shape n)
  not_changed e some = elim (same_or_not (col.at n) (col.at (parent shape n))) [
    | inl same ↦ same
    | inr d ↦ let no : false ≡ true = sym e ∙ rights.changed n un some ∙ differs-other (col.at n) (col.at (parent shape n)) d in absurd (let f : ⊥ = cc in f)
  ]

  is_changed : (sides n).changed ≡ true → col.right n ≢ Right.Nothing → col.at n ≢ col.at (parent shape n)
  is_changed e some same = let no : true ≡ false = sym e ∙ rights.changed n un some ∙ differs-same (col.at n) (col.at (parent shape n)) same in absurd (let f : ⊥ = cc in f)

  pushed_mark : (changed : Bool) → (sides n).changed ≡ changed → col.right n ≢ Right.Nothing → (b : Bool) → IsUpper shape (parent shape n) →
      b ≡ differs (col.at (parent shape n)) (col.at (parent shape (parent shape n))) →
      marked (up_for changed (sides n).copy) b ≡ differs (col.at n) (col.at (parent shape (parent shape n)))
  pushed_mark true e some b u is = sym (differs-other (col.at n) (col.at (parent shape (parent shape n))) (later shape len col n tree un coh (col.right n) refl some (is_changed e some) u))
  pushed_mark false e some b u is = is ∙ ap (λ (k : ℕ). differs k (col.at (parent shape (parent shape n)))) (sym (not_changed e some))

  pushed_rights : (new : Column) (r : Right) (v : ℕ) → col.right n ≢ Right.Nothing → IsHandOver shape col new n r v (col.at n) → AreExchanged shape n r None (pushed_by (sides n)) sides sides' → AreRights shape new sides'
  pushed_rights new r v some over msg = rights_keep shape col new n r v (col.at n) None (pushed_by (sides n)) sides sides' tree un over msg (pushed_mark (sides n).changed refl some) rights

  granted_rights : (write : Bool) (down : Option (List ℕ)) → MayStep shape col (Grants n write) → AreExchanged shape n (granted write) down None sides sides' → AreRights shape (column_after shape len col (Grants n write)) sides'
  granted_rights write down may msg =
      rights_keep shape col (column_after shape len col (Grants n write)) n (granted write) (granted_at shape col n (col.right n)) (col.at (parent shape n)) down None sides sides' tree un
      (granted_over shape len col n tree un coh write may) msg (λ b u e. e) rights

  dropped_rights : MayStep shape col (Deletes n) → AreExchanged shape n Right.Nothing None None sides sides' → AreRights shape (column_after shape len col (Deletes n)) sides'
  dropped_rights may msg =
      rights_keep shape col (column_after shape len col (Deletes n)) n Right.Nothing 0 (col.at (parent shape n)) None None sides sides' tree un (dropped_over shape len col n tree un coh may) msg (λ b u e. e) rights

  -- a written copy is later than the parent's
  new_differs : differs (updated col.at n (len + 1) n) (updated col.at n (len + 1) (parent shape n)) ≡ true
  new_differs =
      let inside : parent shape n < nodes shape = (let below : parent shape n < n = tree.ordered n un in omega (arith, below, un.inside)) in
      let old : col.at (parent shape n) ≤ len = coh.placed (parent shape n) inside in
      let mine : updated col.at n (len + 1) n ≡ len + 1 = updated-same col.at n (len + 1) in
      let above : updated col.at n (len + 1) (parent shape n) ≡ col.at (parent shape n) = updated-other col.at n (len + 1) (parent shape n) (q_not_n shape len col n tree un coh) in
      differs-other (updated col.at n (len + 1) n) (updated col.at n (len + 1) (parent shape n)) (λ e. absurd (omega (arith, mine, above, old, e)))

  written_rights : (bytes : List ℕ) → MayStep shape col (Writes n) → AreWritten n bytes sides sides' → AreRights shape (column_after shape len col (Writes n)) sides'
  written_rights bytes may w = record {
    right = λ m um. elim (same_or_not m n) [
      | inl e ↦ ap (λ (k : ℕ). (sides' k).right) e ∙ ap (λ (s : Side). s.right) w.own ∙ ap (λ (k : ℕ). (sides k).right) (sym e) ∙ rights.right m um
      | inr d ↦ ap (λ (s : Side). s.right) (w.others m d) ∙ rights.right m um
    ];
    changed = λ m um some. elim (same_or_not m n) [
      | inl e ↦ ap (λ (k : ℕ). (sides' k).changed) e ∙ ap (λ (s : Side). s.changed) w.own ∙ sym (subst (λ (k : ℕ). differs (updated col.at n (len + 1) k) (updated col.at n (len + 1) (parent shape k)) ≡ true) (sym e) new_differs)
      | inr d ↦ ap (λ (s : Side). s.changed) (w.others m d) ∙ rights.changed m um some
          ∙ ap (λ (k : ℕ). differs k (col.at (parent shape m))) (sym (updated-other col.at n (len + 1) m d))
          ∙ ap (λ (k : ℕ). differs (updated col.at n (len + 1) m) k) (sym (updated-other col.at n (len + 1) (parent shape m) (λ e. some (may.1 m (record { upper = um; hangs = e })))))
    ];
    kids = λ m c um ic. elim (same_or_not m n) [
      | inl e ↦ ap (λ (k : ℕ). (sides' k).kids c) e ∙ ap (λ (s : Side). s.kids c) w.own ∙ ap (λ (k : ℕ). (sides k).kids c) (sym e) ∙ rights.kids m c um ic
      | inr d ↦ ap (λ (s : Side). s.kids c) (w.others m d) ∙ rights.kids m c um ic
    ];
    strays = λ m c um some. rights.strays m c um (λ e. some (elim (same_or_not m n) [
      | inl i ↦ ap (λ (k : ℕ). (sides' k).kids c) i ∙ ap (λ (s : Side). s.kids c) w.own ∙ ap (λ (k : ℕ). (sides k).kids c) (sym i) ∙ e
      | inr d ↦ ap (λ (s : Side). s.kids c) (w.others m d) ∙ e
    ]));
  }

still_rights : (shape : TreeShape) (col : Column) (old new : ℕ → Side) → AreRights shape col old → AreStill old new → AreRights shape col new
still_rights shape col old new rights still = record {
  right = λ m um. ap (λ (s : Side). s.right) (still m) ∙ rights.right m um;
  changed = λ m um some. ap (λ (s : Side). s.changed) (still m) ∙ rights.changed m um some;
  kids = λ m c um ic. ap (λ (s : Side). s.kids c) (still m) ∙ rights.kids m c um ic;
  strays = λ m c um some. rights.strays m c um (subst (λ (s : Side). s.kids c ≢ Right.Nothing) (still m) some);
}

pub step_rights : (shape : TreeShape) (len : ℕ) (col : Column) (brings : Option (List ℕ)) (step : Step) (old new : ℕ → Side) → IsTree shape → IsStepOf shape step → IsCoherent shape len col → MayStep shape col step → AreRights shape col old → AreSent shape brings step old new →
    AreRights shape (column_after shape len col step) new
step_rights shape len col brings Untouched old new tree of coh may rights sent = still_rights shape col old new rights sent
step_rights shape len col brings (Reads n) old new tree of coh may rights sent = still_rights shape col old new rights sent
step_rights shape len col brings (Writes n) old new tree of coh may rights sent = written_rights shape len col n old new tree of coh rights (brought brings (old n).copy) may sent
step_rights shape len col brings (Grants n write) old new tree of coh may rights sent = granted_rights shape len col n old new tree of coh rights write brings may sent
step_rights shape len col brings (PagesOut n) old new tree of coh may rights sent = pushed_rights shape len col n old new tree of coh rights (column_after shape len col (PagesOut n)) Right.Nothing 0 may.0 (pages_out_over shape len col n tree of coh may) sent
step_rights shape len col brings (Denies n) old new tree of coh may rights sent = pushed_rights shape len col n old new tree of coh rights (column_after shape len col (Denies n)) Right.Read (col.at n) (has_write shape len col n tree of coh may.0) (denies_over shape len col n tree of coh may) sent
step_rights shape len col brings (Pushes n) old new tree of coh may rights sent = pushed_rights shape len col n old new tree of coh rights (column_after shape len col (Pushes n)) Right.Write (col.at n) (has_write shape len col n tree of coh may) (pushes_over shape len col n tree of coh may) sent
step_rights shape len col brings (Flushes n) old new tree of coh may rights sent = pushed_rights shape len col n old new tree of coh rights (column_after shape len col (Flushes n)) Right.Nothing 0 (has_write shape len col n tree of coh may.0) (flushes_over shape len col n tree of coh may) sent
step_rights shape len col brings (Deletes n) old new tree of coh may rights sent = dropped_rights shape len col n old new tree of coh rights may sent

-- THE BYTES
module _ (shape : TreeShape) (len : ℕ) (col : Column) (content : ℕ → List ℕ) (n : ℕ) (sides sides' : ℕ → Side) (base base' : List ℕ) (tree : IsTree shape) (un : IsUpper shape n) (coh : IsCoherent shape len col) (rights : AreRights shape col sides) (copies : AreCopies shape col content sides base) where
  -- what the parent has is what its place shows
  above_is : col.right (parent shape n) ≢ Right.Nothing → page_above shape sides base n ≡ content (col.at (parent shape n))
  above_is some = elim (eqb_tells (parent shape n) 0) [
    | inl e ↦ rw e.0 (copies.ground ∙ ap (λ (k : ℕ). content (col.at k)) (sym e.1))
    | inr d ↦ rw d.0 (copies.copy (parent shape n) (record { above = omega (arith, d.1); inside = parent_inside }) some)
  ]
    where
      parent_inside : parent shape n < nodes shape
      parent_inside = let below : parent shape n < n = tree.ordered n un in omega (arith, below, un.inside)

  granted_copy : col.right (parent shape n) ≢ Right.Nothing → (r : Right) → col.right n ≡ r → brought (down_for r (page_above shape sides base n)) (sides n).copy ≡ content (granted_at shape col n r)
  granted_copy some Right.Nothing e = above_is some
  granted_copy some Right.Read e = copies.copy n un (λ x. let no : Right.Read ≡ Right.Nothing = sym e ∙ x in cc)
  granted_copy some Right.Write e = copies.copy n un (λ x. let no : Right.Write ≡ Right.Nothing = sym e ∙ x in cc)

  pushed_copy : (changed : Bool) → (sides n).changed ≡ changed → col.right n ≢ Right.Nothing → (old : List ℕ) → old ≡ content (col.at (parent shape n)) → brought (up_for changed (sides n).copy) old ≡ content (col.at n)
  pushed_copy true e some old is = copies.copy n un some
  pushed_copy false e some old is = is ∙ ap content (sym (not_changed shape len col n sides sides' tree un coh rights e some))

  granted_copies : (write : Bool) (down : Option (List ℕ)) → MayStep shape col (Grants n write) → AreExchanged shape n (granted write) down None sides sides' → down ≡ down_for (sides n).right (page_above shape sides base n) → base' ≡ base →
      AreCopies shape (column_after shape len col (Grants n write)) content sides' base'
  granted_copies write down may msg brings ground =
      copies_keep shape col (column_after shape len col (Grants n write)) content n (granted write) (granted_at shape col n (col.right n)) (col.at (parent shape n)) down None sides sides' base base' tree un
      (granted_over shape len col n tree un coh write may) msg (record { to_ground = λ _. ground; to_node = λ _. ground })
      (λ some. rw (brings, rights.right n un) (granted_copy (granted_above shape len col n tree un coh write may) (col.right n) refl))
      (λ old e. e) copies

  pushed_copies : (new : Column) (r : Right) (v : ℕ) → col.right n ≢ Right.Nothing → IsHandOver shape col new n r v (col.at n) → (r ≢ Right.Nothing → v ≡ col.at n) → AreExchanged shape n r None (pushed_by (sides n)) sides sides' → IsPushed shape n (pushed_by (sides n)) base base' →
      AreCopies shape new content sides' base'
  pushed_copies new r v some over keeps msg ground =
      copies_keep shape col new content n r v (col.at n) None (pushed_by (sides n)) sides sides' base base' tree un over msg ground
      (λ left. copies.copy n un some ∙ ap content (sym (keeps left)))
      (pushed_copy (sides n).changed refl some) copies

  dropped_copies : MayStep shape col (Deletes n) → AreExchanged shape n Right.Nothing None None sides sides' → base' ≡ base → AreCopies shape (column_after shape len col (Deletes n)) content sides' base'
  dropped_copies may msg ground =
      copies_keep shape col (column_after shape len col (Deletes n)) content n Right.Nothing 0 (col.at (parent shape n)) None None sides sides' base base' tree un (dropped_over shape len col n tree un coh may) msg
      (record { to_ground = λ _. ground; to_node = λ _. ground }) (λ left. absurd (left refl)) (λ old e. e) copies

  written_copies : (bytes : List ℕ) → MayStep shape col (Writes n) → AreWritten n bytes sides sides' → content (len + 1) ≡ bytes → base' ≡ base → AreCopies shape (column_after shape len col (Writes n)) content sides' base'
  written_copies bytes may w next ground = record {
    copy = λ m um some. elim (same_or_not m n) [
      | inl e ↦ ap (λ (k : ℕ). (sides' k).copy) e ∙ ap (λ (s : Side). s.copy) w.own ∙ sym next ∙ ap content (sym (updated-same col.at n (len + 1)) ∙ ap (updated col.at n (len + 1)) (sym e))
      | inr d ↦ ap (λ (s : Side). s.copy) (w.others m d) ∙ copies.copy m um some ∙ ap content (sym (updated-other col.at n (len + 1) m d))
    ];
    ground = ground ∙ copies.ground ∙ ap content (sym (updated-other col.at n (len + 1) 0 (λ e. absurd (omega (arith, e, un.above)))));
  }

still_copies : (shape : TreeShape) (col : Column) (content : ℕ → List ℕ) (old new : ℕ → Side) (base base' : List ℕ) → AreCopies shape col content old base → AreStill old new → base' ≡ base → AreCopies shape col content new base'
still_copies shape col content old new base base' copies still ground = record {
  copy = λ m um some. ap (λ (s : Side). s.copy) (still m) ∙ copies.copy m um some;
  ground = ground ∙ copies.ground;
}

-- the places up to now show what they did
grown : (shape : TreeShape) (len : ℕ) (col : Column) (content content' : ℕ → List ℕ) (sides : ℕ → Side) (base : List ℕ) → IsTree shape → IsCoherent shape len col → ((place : ℕ) → place ≤ len → content' place ≡ content place) → AreCopies shape col content sides base → AreCopies shape col content' sides base
grown shape len col content content' sides base tree coh same copies = record {
  copy = λ m um some. copies.copy m um some ∙ sym (same (col.at m) (coh.placed m um.inside));
  ground = copies.ground ∙ sym (same (col.at 0) (coh.placed 0 tree.grounded));
}

step_on : (shape : TreeShape) (len : ℕ) (col : Column) (content : ℕ → List ℕ) (brings : Option (List ℕ)) (step : Step) (old new : ℕ → Side) (base base' : List ℕ) → IsTree shape → IsStepOf shape step → IsCoherent shape len col → MayStep shape col step → AreRights shape col old → AreCopies shape col content old base →
    AreSent shape brings step old new → IsGrounded shape step old base base' → AreBrought shape brings step old base (content (len + 1)) → AreCopies shape (column_after shape len col step) content new base'
step_on shape len col content brings Untouched old new base base' tree of coh may rights copies sent ground bytes = still_copies shape col content old new base base' copies sent ground
step_on shape len col content brings (Reads n) old new base base' tree of coh may rights copies sent ground bytes = still_copies shape col content old new base base' copies sent ground
step_on shape len col content brings (Writes n) old new base base' tree of coh may rights copies sent ground bytes = written_copies shape len col content n old new base base' tree of coh rights copies (brought brings (old n).copy) may sent bytes ground
step_on shape len col content brings (Grants n write) old new base base' tree of coh may rights copies sent ground bytes = granted_copies shape len col content n old new base base' tree of coh rights copies write brings may sent bytes ground
step_on shape len col content brings (PagesOut n) old new base base' tree of coh may rights copies sent ground bytes =
    pushed_copies shape len col content n old new base base' tree of coh rights copies (column_after shape len col (PagesOut n)) Right.Nothing 0 may.0 (pages_out_over shape len col n tree of coh may) (λ left. absurd (left refl)) sent ground
step_on shape len col content brings (Denies n) old new base base' tree of coh may rights copies sent ground bytes =
    pushed_copies shape len col content n old new base base' tree of coh rights copies (column_after shape len col (Denies n)) Right.Read (col.at n) (has_write shape len col n tree of coh may.0) (denies_over shape len col n tree of coh may) (λ left. refl) sent ground
step_on shape len col content brings (Pushes n) old new base base' tree of coh may rights copies sent ground bytes =
    pushed_copies shape len col content n old new base base' tree of coh rights copies (column_after shape len col (Pushes n)) Right.Write (col.at n) (has_write shape len col n tree of coh may) (pushes_over shape len col n tree of coh may) (λ left. refl) sent ground
step_on shape len col content brings (Flushes n) old new base base' tree of coh may rights copies sent ground bytes =
    pushed_copies shape len col content n old new base base' tree of coh rights copies (column_after shape len col (Flushes n)) Right.Nothing 0 (has_write shape len col n tree of coh may.0) (flushes_over shape len col n tree of coh may) (λ left. absurd (left refl)) sent ground
step_on shape len col content brings (Deletes n) old new base base' tree of coh may rights copies sent ground bytes = dropped_copies shape len col content n old new base base' tree of coh rights copies may sent ground

pub step_copies : (shape : TreeShape) (len : ℕ) (col : Column) (content content' : ℕ → List ℕ) (brings : Option (List ℕ)) (step : Step) (old new : ℕ → Side) (base base' : List ℕ) → IsTree shape → IsStepOf shape step → IsCoherent shape len col → MayStep shape col step → AreRights shape col old → AreCopies shape col content old base →
    AreSent shape brings step old new → IsGrounded shape step old base base' → AreBrought shape brings step old base (content' (len + 1)) → ((place : ℕ) → place ≤ len → content' place ≡ content place) → AreCopies shape (column_after shape len col step) content' new base'
step_copies shape len col content content' brings step old new base base' tree of coh may rights copies sent ground bytes same =
    step_on shape len col content' brings step old new base base' tree of coh may rights (grown shape len col content content' old base tree coh same copies) sent ground bytes
