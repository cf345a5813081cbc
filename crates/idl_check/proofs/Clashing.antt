-- Two operations of one name, by the tables and by the relation.
use Rattle.std.proofs.Common.{◌≡◌, ℕ, ◌+◌, ◌≤◌, ◌==◌, List, [], ◌∷◌, length, map, get_or, Bool, true, false, ◌&&◌, not, cond, Option, Some, None, ◌⊎◌, inl, inr, refl, sym, ap, ◌∙◌, subst, arith}
use Rattle.std.specs.Prelude.{slice_get}
use Rattle.std.proofs.lemmas.Bool.{and_parts, and_from, or_cases, or_left, or_right, eqb-true, eqb-false, eq-eqb, ne_eqb, not-true, not_from_false, true_from_ne_false}
use Rattle.std.proofs.lemmas.List.{get_or-map}
use Rattle.std.proofs.lemmas.List.Folds.{Any-from_list_any, list_any-from_Any}
use Rattle.std.proofs.lemmas.Option.{slice_get_within, get_or_from_slice_get, slice_get-get_or}
use Rattle.idl_reader.specs.declared.idl.Word.{Word}
use Rattle.idl_reader.specs.Tree.{DeclTree, StructOf, EnumOf, InterfaceOf}
use Rattle.idl_check.specs.declared.why.UnfitWhy.TheVariants.{Clash}
use Rattle.idl_check.specs.Names.{decl_name, is_interface, has_name, bases_of, parts_of, op_names}
use Rattle.idl_check.specs.Reach.{at, reached}
use Rattle.idl_check.specs.Verdict.{repeat_in, declares_interface, first_wrong_base, shares_name, sharing_row, sharing, has_ops, any_below, clashes_at, clashes_with, has_clash, clash_from, first_clash}
use Rattle.idl_check.specs.FitsTogether.{HasName, Refers, Directly, Further, IsMadeOf, Inherits, HasClash, Holds}
use Rattle.idl_check.proofs.Lists.{none_of_nil, at_any, any_weaker}
use Rattle.idl_check.proofs.NameTests.{named, is_named, interface}
use Rattle.idl_check.proofs.Rises.{Rises}
use Rattle.idl_check.proofs.Apart.{names_apart, bases_pass}
use Rattle.idl_check.proofs.Below.{any_below_true, below_any}
use Rattle.idl_check.proofs.Reaching.{length-reached}
use Rattle.idl_check.proofs.Used.{fails_none}
use Rattle.idl_check.proofs.Made.{nobody, made, is_made, first_from, PassesAt, first_some, first_none, first_least}

-- ---- inheriting

bases_are_parts : (d : DeclTree) (name : List ℕ) → HasName name (bases_of d) → HasName name (parts_of d)
bases_are_parts (StructOf n fields) name a = absurd (none_of_nil (λ (w : Word). w.text ≡ name) a)
bases_are_parts (EnumOf n names) name a = absurd (none_of_nil (λ (w : Word). w.text ≡ name) a)
bases_are_parts (InterfaceOf n bases ops) name a = a

parts_are_bases : (d : DeclTree) (name : List ℕ) → is_interface d ≡ true → HasName name (parts_of d) → HasName name (bases_of d)
parts_are_bases (StructOf n fields) name is a = absurd cc
parts_are_bases (EnumOf n names) name is a = absurd cc
parts_are_bases (InterfaceOf n bases ops) name is a = a

has_bases : (d : DeclTree) (name : List ℕ) → HasName name (bases_of d) → is_interface d ≡ true
has_bases (StructOf n fields) name a = absurd (none_of_nil (λ (w : Word). w.text ≡ name) a)
has_bases (EnumOf n names) name a = absurd (none_of_nil (λ (w : Word). w.text ≡ name) a)
has_bases (InterfaceOf n bases ops) name a = refl

refers_by_parts : (decls : List DeclTree) (i j : ℕ) → Refers bases_of decls i j → Refers parts_of decls i j
refers_by_parts decls i j r = record { from = r.from; from_at = r.from_at; to = r.to; to_at = r.to_at; named = bases_are_parts r.from (decl_name r.to).text r.named }

-- what inherits is made of what it inherits from
pub made_of_inherited : (decls : List DeclTree) (i j : ℕ) → Inherits decls i j → IsMadeOf decls i j
made_of_inherited decls i j (Directly i' j' r) = Directly i' j' (refers_by_parts decls i' j' r)
made_of_inherited decls i j (Further i' m j' r rest) = Further i' m j' (refers_by_parts decls i' m r) (made_of_inherited decls m j' rest)

same_decl : (decls : List DeclTree) (i : ℕ) (d e : DeclTree) → slice_get decls i ≡ Some d → slice_get decls i ≡ Some e → d ≡ e
same_decl decls i d e here there = let same : Some d ≡ Some e = sym here ∙ there in cc

module _ (decls : List DeclTree) (different : repeat_in [] decls ≡ None) (faces : first_wrong_base decls ≡ None) where
  -- what is named by a base is an interface
  named_face : (d : DeclTree) (i : ℕ) (e : DeclTree) (j : ℕ) → slice_get decls i ≡ Some d → slice_get decls j ≡ Some e → HasName (decl_name e).text (bases_of d) → is_interface e ≡ true
  named_face d i e j here there a =
      let passes = bases_pass (λ word. declares_interface decls word) decls faces i d here in
      let is = true_from_ne_false (declares_interface decls a.1) (λ isnt. fails_none (λ word. declares_interface decls word) (bases_of d) a.1.place passes (a.0, a.1, a.2, a.3, (isnt, refl))) in
      let found = at_any (λ (x : DeclTree). (is_interface x ≡ true) × ((decl_name x).text ≡ a.1.text)) decls (interface decls a.1 is) in
      let place : found.0 ≡ j = names_apart [] decls different found.0 j found.1 e found.2 there (found.3.1 ∙ a.4) in
      let same : found.1 ≡ e = same_decl decls j found.1 e (subst (λ n. slice_get decls n ≡ Some found.1) place found.2) there in
      subst (λ x. is_interface x ≡ true) same found.3.0

  refers_by_bases : (i j : ℕ) (d : DeclTree) → slice_get decls i ≡ Some d → is_interface d ≡ true → Refers parts_of decls i j → Refers bases_of decls i j
  refers_by_bases i j d here face r =
      let is : is_interface r.from ≡ true = subst (λ x. is_interface x ≡ true) (same_decl decls i d r.from here r.from_at) face in
      record { from = r.from; from_at = r.from_at; to = r.to; to_at = r.to_at; named = parts_are_bases r.from (decl_name r.to).text is r.named }

  -- an interface inherits from what it is made of
  inherited_of_made : (i j : ℕ) → IsMadeOf decls i j → (d : DeclTree) → slice_get decls i ≡ Some d → is_interface d ≡ true → Inherits decls i j
  inherited_of_made i j (Directly i' j' r) d here face = Directly i' j' (refers_by_bases i' j' d here face r)
  inherited_of_made i j (Further i' m j' r rest) d here face =
      let s = refers_by_bases i' m d here face r in
      Further i' m j' s (inherited_of_made m j' rest s.to s.to_at (named_face s.from i' s.to m s.from_at s.to_at s.named))

-- ---- operations of one name

share : (d e : DeclTree) → shares_name d e ≡ true → (name : List ℕ) × HasName name (op_names d) × HasName name (op_names e)
share d e is =
    let found = at_any (λ (w : Word). has_name w.text (op_names e) ≡ true) (op_names d) (Any-from_list_any (λ w. has_name w.text (op_names e)) (op_names d) is) in
    (found.1.text, any_at_text (op_names d) found.0 found.1 found.2, named found.1.text (op_names e) found.3)
  where
    any_at_text : (words : List Word) (k : ℕ) (w : Word) → slice_get words k ≡ Some w → HasName w.text words
    any_at_text words k w at = (k, w, slice_get_within words k w at, get_or_from_slice_get words k w w at, refl)

shared : (d e : DeclTree) (name : List ℕ) → HasName name (op_names d) → HasName name (op_names e) → shares_name d e ≡ true
shared d e name here there =
    list_any-from_Any (λ w. has_name w.text (op_names e)) (op_names d)
    (any_weaker (λ (w : Word). w.text ≡ name) (λ w. has_name w.text (op_names e) ≡ true) (λ w same. ap (λ t. has_name t (op_names e)) same ∙ is_named name (op_names e) there) (op_names d) here)

sharing_is : (decls : List DeclTree) (i j : ℕ) (d e : DeclTree) → slice_get decls i ≡ Some d → slice_get decls j ≡ Some e → at (sharing decls) i j ≡ shares_name d e
unfolding sharing_row
sharing_is decls i j d e here there =
    let row : get_or (sharing decls) i [] ≡ sharing_row decls d = get_or-map (λ d. sharing_row decls d) decls i d [] (slice_get_within decls i d here) ∙ ap (λ x. sharing_row decls x) (get_or_from_slice_get decls i d d here) in
    let answer : get_or (sharing_row decls d) j false ≡ shares_name d e = get_or-map (λ x. shares_name d x) decls j e false (slice_get_within decls j e there) ∙ ap (λ x. shares_name d x) (get_or_from_slice_get decls j e e there) in
    ap (λ r. get_or r j false) row ∙ answer

-- ---- the first interface with two operations of one name

abbrev clash_test : List (List Bool) → List (List Bool) → ℕ → DeclTree → Bool
clash_test rows shared i d = is_interface d && has_clash rows shared i

clash_is : (rows shared : List (List Bool)) (i : ℕ) (ds : List DeclTree) → clash_from rows shared i ds ≡ first_from (clash_test rows shared) i ds
clash_is rows shared i [] = refl
clash_is rows shared i (d ∷ ds) = ap (λ (o : Option ℕ). cond (is_interface d && has_clash rows shared i) (Some (decl_name d).place) o) (clash_is rows shared (i + 1) ds)

module _ (decls : List DeclTree) (different : repeat_in [] decls ≡ None) (faces : first_wrong_base decls ≡ None) where
  abbrev rows : List (List Bool)
  rows = reached decls

  -- the operations that an interface has, by the table
  from_of : (i k : ℕ) (d : DeclTree) → slice_get decls i ≡ Some d → is_interface d ≡ true → has_ops rows i k ≡ true → (i ≡ k) ⊎ Inherits decls i k
  from_of i k d here face is = which (or_cases (i == k) (at rows i k) is) where
    which : ((i == k) ≡ true) ⊎ (at rows i k ≡ true) → (i ≡ k) ⊎ Inherits decls i k
    which (inl own) = inl (eqb-true i k own)
    which (inr further) = inr (inherited_of_made decls different faces i k (made decls i k further) d here face)

  of_from : (i k : ℕ) → (i ≡ k) ⊎ Inherits decls i k → has_ops rows i k ≡ true
  of_from i k (inl own) = or_left (i == k) (at rows i k) (eq-eqb i k own)
  of_from i k (inr further) = or_right (i == k) (at rows i k) (is_made decls i k (made_of_inherited decls i k further))

  clash_of : (i : ℕ) (d : DeclTree) → slice_get decls i ≡ Some d → is_interface d ≡ true → has_clash rows (sharing decls) i ≡ true → HasClash decls i
  clash_of i d here face is =
      let one = below_any (length rows) (clashes_with rows (sharing decls) i) is in
      let has_one = and_parts (has_ops rows i one.0) (any_below (length rows) (clashes_at rows (sharing decls) i one.0)) one.2 in
      let other = below_any (length rows) (clashes_at rows (sharing decls) i one.0) has_one.1 in
      let outer = and_parts (has_ops rows i other.0 && not (one.0 == other.0)) (at (sharing decls) one.0 other.0) other.2 in
      let inner = and_parts (has_ops rows i other.0) (not (one.0 == other.0)) outer.0 in
      let tall = length-reached decls in
      let one_below = one.1 in
      let other_below = other.1 in
      let d_one = get_or decls one.0 nobody in
      let d_other = get_or decls other.0 nobody in
      let one_at = slice_get-get_or decls one.0 nobody (omega arith) in
      let other_at = slice_get-get_or decls other.0 nobody (omega arith) in
      let name = share d_one d_other (sym (sharing_is decls one.0 other.0 d_one d_other one_at other_at) ∙ outer.1) in
      record {
        name = name.0;
        one = one.0;
        other = other.0;
        has_one = record { from = from_of i one.0 d here face has_one.0; declarer = d_one; declarer_at = one_at; declares = name.1 };
        has_other = record { from = from_of i other.0 d here face inner.0; declarer = d_other; declarer_at = other_at; declares = name.2 };
        different = eqb-false one.0 other.0 (not-true (one.0 == other.0) inner.1);
      }

  clash_there : (i : ℕ) → HasClash decls i → has_clash rows (sharing decls) i ≡ true
  clash_there i c =
      let tall = length-reached decls in
      let one_below = slice_get_within decls c.one c.has_one.declarer c.has_one.declarer_at in
      let other_below = slice_get_within decls c.other c.has_other.declarer c.has_other.declarer_at in
      let share_is = sharing_is decls c.one c.other c.has_one.declarer c.has_other.declarer c.has_one.declarer_at c.has_other.declarer_at
      ∙ shared c.has_one.declarer c.has_other.declarer c.name c.has_one.declares c.has_other.declares in
      let apart = not_from_false (c.one == c.other) (ne_eqb c.one c.other c.different) in
      let at_other = and_from (has_ops rows i c.other && not (c.one == c.other)) (at (sharing decls) c.one c.other) (and_from (has_ops rows i c.other) (not (c.one == c.other)) (of_from i c.other c.has_other.from) apart) share_is in
      let with_one = and_from (has_ops rows i c.one) (any_below (length rows) (clashes_at rows (sharing decls) i c.one)) (of_from i c.one c.has_one.from)
      (any_below_true (length rows) c.other (clashes_at rows (sharing decls) i c.one) (omega arith) at_other) in
      any_below_true (length rows) c.one (clashes_with rows (sharing decls) i) (omega arith) with_one

  -- only an interface has a clash
  inheriting_face : (i k : ℕ) (d : DeclTree) → slice_get decls i ≡ Some d → Inherits decls i k → is_interface d ≡ true
  inheriting_face i k d here (Directly i' k' r) = subst (λ x. is_interface x ≡ true) (same_decl decls i' r.from d r.from_at here) (has_bases r.from (decl_name r.to).text r.named)
  inheriting_face i k d here (Further i' m k' r rest) = subst (λ x. is_interface x ≡ true) (same_decl decls i' r.from d r.from_at here) (has_bases r.from (decl_name r.to).text r.named)

  clashing_face : (i : ℕ) (d : DeclTree) → slice_get decls i ≡ Some d → HasClash decls i → is_interface d ≡ true
  clashing_face i d here c = which c.has_one.from c.has_other.from where
    which : (i ≡ c.one) ⊎ Inherits decls i c.one → (i ≡ c.other) ⊎ Inherits decls i c.other → is_interface d ≡ true
    which (inr further) other = inheriting_face i c.one d here further
    which (inl own) (inr further) = inheriting_face i c.other d here further
    which (inl own) (inl same) = absurd (c.different (sym own ∙ same))

  module _ (place : ℕ) where
    to_clash : PassesAt (clash_test rows (sharing decls)) 0 decls place → Holds decls Clash place
    to_clash p =
        let none_before : 0 + p.k ≡ p.k = omega arith in
        let both = and_parts (is_interface p.decl) (has_clash rows (sharing decls) (0 + p.k)) p.passes in
        (p.k, clash_of p.k p.decl p.decl_at both.0 (subst (λ n. has_clash rows (sharing decls) n ≡ true) none_before both.1), record { decl = p.decl; decl_at = p.decl_at; place_is = p.place_is })

    from_clash : Holds decls Clash place → PassesAt (clash_test rows (sharing decls)) 0 decls place
    from_clash h =
        let none_before : h.0 ≡ 0 + h.0 = omega arith in
        record {
          k = h.0;
          decl = h.2.decl;
          decl_at = h.2.decl_at;
          passes = and_from (is_interface h.2.decl) (has_clash rows (sharing decls) (0 + h.0)) (clashing_face h.0 h.2.decl h.2.decl_at h.1) (subst (λ n. has_clash rows (sharing decls) n ≡ true) none_before (clash_there h.0 h.1));
          place_is = h.2.place_is;
        }

    pub clash_some : first_clash decls ≡ Some place → Holds decls Clash place
    clash_some e = to_clash (first_some (clash_test rows (sharing decls)) 0 decls place (sym (clash_is rows (sharing decls) 0 decls) ∙ e))

    pub clash_none : first_clash decls ≡ None → Holds decls Clash place → ⊥
    clash_none e h = first_none (clash_test rows (sharing decls)) 0 decls place (sym (clash_is rows (sharing decls) 0 decls) ∙ e) (from_clash h)

    pub clash_least : (low first : ℕ) → Rises low (map (λ d. decl_name d) decls) → first_clash decls ≡ Some first → Holds decls Clash place → first ≤ place
    clash_least low first r e h = first_least (clash_test rows (sharing decls)) 0 decls low first place r (sym (clash_is rows (sharing decls) 0 decls) ∙ e) (from_clash h)
