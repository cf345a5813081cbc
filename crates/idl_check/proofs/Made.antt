-- What declarations are made of, by the table and by the relation.
use Rattle.std.proofs.Common.{◌≡◌, ℕ, zero, suc, ◌+◌, ◌≤◌, List, [], ◌∷◌, map, get_or, Bool, true, false, cond, Option, Some, None, ◌⊎◌, inl, inr, refl, sym, ap, ◌∙◌, subst, arith, add-zero}
use Rattle.std.specs.Prelude.{slice_get}
use Rattle.std.proofs.lemmas.Bool.{both_ways}
use Rattle.std.proofs.lemmas.List.{get_or-map}
use Rattle.std.proofs.lemmas.Option.{slice_get_within, get_or_from_slice_get, slice_get-get_or}
use Rattle.idl_reader.specs.declared.idl.Word.{Word}
use Rattle.idl_reader.specs.Tree.{DeclTree, EnumOf}
use Rattle.idl_check.specs.declared.why.UnfitWhy.TheVariants.{Cycle}
use Rattle.idl_check.specs.Names.{decl_name, has_name, parts_of}
use Rattle.idl_check.specs.Reach.{at, direct, direct_row, reached}
use Rattle.idl_check.specs.Verdict.{cycle_from, first_cycle}
use Rattle.idl_check.specs.FitsTogether.{Refers, Directly, Further, IsMadeOf, Holds}
use Rattle.idl_check.proofs.Lists.{any_at}
use Rattle.idl_check.proofs.NameTests.{named, is_named}
use Rattle.idl_check.proofs.Rises.{Rises, above}
use Rattle.idl_check.proofs.Reaching.{Reaches, Step, Onward, at_inside, reached_sound, reached_complete}

-- a declaration that stands nowhere
abbrev pub nobody : DeclTree
nobody = EnumOf (record { text = []; place = 0 }) []

-- the table's answer of what one is made of
pub answer_is : (decls : List DeclTree) (i j : ℕ) (d e : DeclTree) → slice_get decls i ≡ Some d → slice_get decls j ≡ Some e → at (direct decls) i j ≡ has_name (decl_name e).text (parts_of d)
unfolding direct_row
answer_is decls i j d e here there =
    let row : get_or (direct decls) i [] ≡ direct_row decls d = get_or-map (λ d. direct_row decls d) decls i d [] (slice_get_within decls i d here) ∙ ap (λ x. direct_row decls x) (get_or_from_slice_get decls i d d here) in
    let answer : get_or (direct_row decls d) j false ≡ has_name (decl_name e).text (parts_of d) = get_or-map (λ x. has_name (decl_name x).text (parts_of d)) decls j e false (slice_get_within decls j e there) ∙ ap (λ x. has_name (decl_name x).text (parts_of d)) (get_or_from_slice_get decls j e e there) in
    ap (λ r. get_or r j false) row ∙ answer

pub refers : (decls : List DeclTree) (i j : ℕ) → at (direct decls) i j ≡ true → Refers parts_of decls i j
refers decls i j is =
    let inside = at_inside decls i j is in
    let d = get_or decls i nobody in
    let e = get_or decls j nobody in
    let here = slice_get-get_or decls i nobody inside.0 in
    let there = slice_get-get_or decls j nobody inside.1 in
    record { from = d; from_at = here; to = e; to_at = there; named = named (decl_name e).text (parts_of d) (sym (answer_is decls i j d e here there) ∙ is) }

pub referred : (decls : List DeclTree) (i j : ℕ) → Refers parts_of decls i j → at (direct decls) i j ≡ true
referred decls i j r = answer_is decls i j r.from r.to r.from_at r.to_at ∙ is_named (decl_name r.to).text (parts_of r.from) r.named

leads : (decls : List DeclTree) (i j : ℕ) → Reaches (direct decls) i j → IsMadeOf decls i j
leads decls i j (Step i' j' is) = Directly i' j' (refers decls i' j' is)
leads decls i j (Onward i' m j' is rest) = Further i' m j' (refers decls i' m is) (leads decls m j' rest)

reaches : (decls : List DeclTree) (i j : ℕ) → IsMadeOf decls i j → Reaches (direct decls) i j
reaches decls i j (Directly i' j' r) = Step i' j' (referred decls i' j' r)
reaches decls i j (Further i' m j' r rest) = Onward i' m j' (referred decls i' m r) (reaches decls m j' rest)

pub made : (decls : List DeclTree) (i j : ℕ) → at (reached decls) i j ≡ true → IsMadeOf decls i j
made decls i j is = leads decls i j (reached_sound decls i j is)

pub is_made : (decls : List DeclTree) (i j : ℕ) → IsMadeOf decls i j → at (reached decls) i j ≡ true
is_made decls i j m = reached_complete decls i j (reaches decls i j m)

-- ---- the first declaration that passes a test

module _ (test : ℕ → DeclTree → Bool) where
  -- the place of the first that passes, where the list starts at this number
  abbrev pub first_from : ℕ → List DeclTree → Option ℕ
  first_from i [] = None
  first_from i (d ∷ ds) = cond (test i d) (Some (decl_name d).place) (first_from (i + 1) ds)

  -- one passes, and its name has this place
  pub record PassesAt (low : ℕ) (ds : List DeclTree) (place : ℕ) : Type 0 where
    pub k : ℕ
    pub decl : DeclTree
    pub decl_at : slice_get ds k ≡ Some decl
    pub passes : test (low + k) decl ≡ true
    pub place_is : place ≡ (decl_name decl).place

  passes_later : (i : ℕ) (d : DeclTree) (ds : List DeclTree) (place : ℕ) → PassesAt (i + 1) ds place → PassesAt i (d ∷ ds) place
  passes_later i d ds place p = let number : i + 1 + p.k ≡ i + suc p.k = omega arith in record { k = suc p.k; decl = p.decl; decl_at = p.decl_at; passes = subst (λ n. test n p.decl ≡ true) number p.passes; place_is = p.place_is }

  pub first_some : (i : ℕ) (ds : List DeclTree) (place : ℕ) → first_from i ds ≡ Some place → PassesAt i ds place
  first_some i [] place e = absurd cc
  first_some i (d ∷ ds) place e = cases (test i d) refl e (λ h. first_some (i + 1) ds place h) where
    cases : (b : Bool) → test i d ≡ b → cond b (Some (decl_name d).place) (first_from (i + 1) ds) ≡ Some place → (first_from (i + 1) ds ≡ Some place → PassesAt (i + 1) ds place) → PassesAt i (d ∷ ds) place
    cases true is h rest = let same : place ≡ (decl_name d).place = cc in record { k = 0; decl = d; decl_at = refl; passes = subst (λ n. test n d ≡ true) (sym (add-zero i)) is; place_is = same }
    cases false is h rest = passes_later i d ds place (rest h)

  passes_here : (i : ℕ) (d : DeclTree) (ds : List DeclTree) (place : ℕ) → (k : ℕ) (e : DeclTree) → slice_get (d ∷ ds) k ≡ Some e → test (i + k) e ≡ true → place ≡ (decl_name e).place → ((test i d ≡ true) × (place ≡ (decl_name d).place)) ⊎ PassesAt (i + 1) ds place
  passes_here i d ds place zero e at is p =
      let same : e ≡ d = cc in
      inl (ap (λ n. test n d) (sym (add-zero i)) ∙ ap (λ x. test (i + 0) x) (sym same) ∙ is, p ∙ ap (λ x. (decl_name x).place) same)
  passes_here i d ds place (suc k) e at is p = let number : i + suc k ≡ i + 1 + k = omega arith in inr (record { k = k; decl = e; decl_at = at; passes = subst (λ n. test n e ≡ true) number is; place_is = p })

  pub first_none : (i : ℕ) (ds : List DeclTree) (place : ℕ) → first_from i ds ≡ None → PassesAt i ds place → ⊥
  first_none i [] place e p = let at = p.decl_at in absurd cc
  first_none i (d ∷ ds) place e p = cases (test i d) refl e (passes_here i d ds place p.k p.decl p.decl_at p.passes p.place_is) (λ h later. first_none (i + 1) ds place h later) where
    cases : (b : Bool) → test i d ≡ b → cond b (Some (decl_name d).place) (first_from (i + 1) ds) ≡ None → ((test i d ≡ true) × (place ≡ (decl_name d).place)) ⊎ PassesAt (i + 1) ds place → (first_from (i + 1) ds ≡ None → PassesAt (i + 1) ds place → ⊥) → ⊥
    cases true is h which rest = absurd cc
    cases false is h (inl here) rest = both_ways (test i d) is here.0
    cases false is h (inr later) rest = rest h later

  abbrev names : List DeclTree → List Word
  names ds = map (λ d. decl_name d) ds

  name_at : (ds : List DeclTree) (k : ℕ) (d : DeclTree) → slice_get ds k ≡ Some d → slice_get (names ds) k ≡ Some (decl_name d)
  name_at [] k d at = absurd cc
  name_at (e ∷ es) zero d at = let same : e ≡ d = cc in ap (λ x. Some (decl_name x)) same
  name_at (e ∷ es) (suc k) d at = name_at es k d at

  pub first_least : (i : ℕ) (ds : List DeclTree) (low first place : ℕ) → Rises low (names ds) → first_from i ds ≡ Some first → PassesAt i ds place → first ≤ place
  first_least i [] low first place r e p = let at = p.decl_at in absurd cc
  first_least i (d ∷ ds) low first place r e p = cases (test i d) refl e (passes_here i d ds place p.k p.decl p.decl_at p.passes p.place_is) (λ h later. first_least (i + 1) ds ((decl_name d).place + 1) first place r.1 h later) where
    cases : (b : Bool) → test i d ≡ b → cond b (Some (decl_name d).place) (first_from (i + 1) ds) ≡ Some first → ((test i d ≡ true) × (place ≡ (decl_name d).place)) ⊎ PassesAt (i + 1) ds place → (first_from (i + 1) ds ≡ Some first → PassesAt (i + 1) ds place → first ≤ place) → first ≤ place
    cases true is h which rest =
        let same : first ≡ (decl_name d).place = cc in
        let high = above (decl_name d).place (names (d ∷ ds)) (omega arith, r.1) place (any_at (λ (w : Word). place ≡ w.place) (names (d ∷ ds)) p.k (decl_name p.decl) (name_at (d ∷ ds) p.k p.decl p.decl_at) p.place_is) in
        omega arith
    cases false is h (inl here) rest = absurd (both_ways (test i d) is here.0)
    cases false is h (inr later) rest = rest h later

-- ---- cycles

abbrev own_way : List (List Bool) → ℕ → DeclTree → Bool
own_way rows i d = at rows i i

cycle_is : (rows : List (List Bool)) (i : ℕ) (ds : List DeclTree) → cycle_from rows i ds ≡ first_from (own_way rows) i ds
cycle_is rows i [] = refl
cycle_is rows i (d ∷ ds) = ap (λ (o : Option ℕ). cond (at rows i i) (Some (decl_name d).place) o) (cycle_is rows (i + 1) ds)

module _ (decls : List DeclTree) (place : ℕ) where
  to_cycle : PassesAt (own_way (reached decls)) 0 decls place → Holds decls Cycle place
  to_cycle p =
      let none_before : 0 + p.k ≡ p.k = omega arith in
      (p.k, made decls p.k p.k (subst (λ n. at (reached decls) n n ≡ true) none_before p.passes), record { decl = p.decl; decl_at = p.decl_at; place_is = p.place_is })

  from_cycle : Holds decls Cycle place → PassesAt (own_way (reached decls)) 0 decls place
  from_cycle h =
      let none_before : h.0 ≡ 0 + h.0 = omega arith in
      record { k = h.0; decl = h.2.decl; decl_at = h.2.decl_at; passes = subst (λ n. at (reached decls) n n ≡ true) none_before (is_made decls h.0 h.0 h.1); place_is = h.2.place_is }

  pub cycle_some : first_cycle decls ≡ Some place → Holds decls Cycle place
  cycle_some e = to_cycle (first_some (own_way (reached decls)) 0 decls place (sym (cycle_is (reached decls) 0 decls) ∙ e))

  pub cycle_none : first_cycle decls ≡ None → Holds decls Cycle place → ⊥
  cycle_none e h = first_none (own_way (reached decls)) 0 decls place (sym (cycle_is (reached decls) 0 decls) ∙ e) (from_cycle h)

  pub cycle_least : (low first : ℕ) → Rises low (map (λ d. decl_name d) decls) → first_cycle decls ≡ Some first → Holds decls Cycle place → first ≤ place
  cycle_least low first r e h = first_least (own_way (reached decls)) 0 decls low first place r (sym (cycle_is (reached decls) 0 decls) ∙ e) (from_cycle h)
