-- The verdict says what the definitions say.
use Rattle.std.proofs.Common.{◌≡◌, ◌≢◌, ℕ, List, [], true, false, Option, Some, None, ◌⊎◌, inl, inr, refl, sym, ap, ◌∙◌, subst, arith}
use Rattle.std.specs.Prelude.{slice_get}
use Rattle.std.specs.List.{flat_map}
use Rattle.std.proofs.lemmas.Bool.{cases_Bool}
use Rattle.idl_reader.specs.declared.idl.Word.{Word}
use Rattle.idl_reader.specs.Tree.{DeclTree}
use Rattle.idl_check.specs.declared.why.UnfitWhy.{UnfitWhy}
use Rattle.idl_check.specs.declared.why.UnfitWhy.TheVariants.{Repeated, UnknownType, NotInterface, Cycle, Clash, Memory}
use Rattle.idl_check.specs.declared.why.IdlUnfit.{IdlUnfit}
use Rattle.idl_check.specs.Names.{decl_name, uses, bases_of}
use Rattle.idl_check.specs.Verdict.{repeat_in, first_unknown, first_wrong_base, first_cycle, first_clash, declares, declares_interface, or_unfit, unfit, Tells, IsUnfit}
use Rattle.idl_check.specs.FitsTogether.{IsMadeOf, AreDifferent, StandsAgain, IsDeclared, IsInterface, Inherits, HasClash, LeadsTo, Directly, Further, StandsAt, name_lists, FitsTogether, Holds, NoneBefore, IsReason}
use Rattle.idl_check.proofs.Lists.{all_unless, none_where_all}
use Rattle.idl_check.proofs.NameTests.{declared, not_declared, interface, not_interface}
use Rattle.idl_check.proofs.Repeated.{repeated_some, repeated_none, different_unless, different_not_again}
use Rattle.idl_check.proofs.Used.{unknown_some, unknown_none, wrong_base_some, wrong_base_none}
use Rattle.idl_check.proofs.Made.{cycle_some, cycle_none}
use Rattle.idl_check.proofs.Clashing.{clash_some, clash_none}

-- the reason holds nowhere
abbrev pub Nowhere : List DeclTree → UnfitWhy → Type 0
Nowhere decls why = (place : ℕ) → Holds decls why place → ⊥

-- the first four reasons hold nowhere, by the searches
pub record AreSettled (decls : List DeclTree) : Type 0 where
  pub different : repeat_in [] decls ≡ None
  pub known : first_unknown decls ≡ None
  pub faces : first_wrong_base decls ≡ None
  pub acyclic : first_cycle decls ≡ None

found_nothing : (found : Option ℕ) (decls : List DeclTree) (why : UnfitWhy) → ((place : ℕ) → found ≡ Some place → Holds decls why place) → Nowhere decls why → found ≡ None
found_nothing None decls why some none = refl
found_nothing (Some place) decls why some none = absurd (none place (some place refl))

-- ---- what the verdict is, by the first search that finds something

first_found : (why : UnfitWhy) (found : Option ℕ) (other : Option IdlUnfit) (e : IdlUnfit) → or_unfit why found other ≡ Some e → (found ≡ Some e.place) × (e.why ≡ why) ⊎ (found ≡ None) × (other ≡ Some e)
first_found why (Some place) other e h = inl (ap (λ n. Some n) (let same : place ≡ e.place = cc in same), (let same : e.why ≡ why = cc in same))
first_found why None other e h = inr (refl, h)

nothing_found : (why : UnfitWhy) (found : Option ℕ) (other : Option IdlUnfit) → or_unfit why found other ≡ None → (found ≡ None) × (other ≡ None)
nothing_found why None other e = (refl, e)
nothing_found why (Some place) other e = absurd cc

-- which search found it, where those before found nothing
pub data Found (decls : List DeclTree) (e : IdlUnfit) : Type 0 where
  ByRepeated : e.why ≡ Repeated → repeat_in [] decls ≡ Some e.place → Found decls e
  ByUnknown : e.why ≡ UnknownType → repeat_in [] decls ≡ None → first_unknown decls ≡ Some e.place → Found decls e
  ByBase : e.why ≡ NotInterface → repeat_in [] decls ≡ None → first_unknown decls ≡ None → first_wrong_base decls ≡ Some e.place → Found decls e
  ByCycle : e.why ≡ Cycle → repeat_in [] decls ≡ None → first_unknown decls ≡ None → first_wrong_base decls ≡ None → first_cycle decls ≡ Some e.place → Found decls e
  ByClash : e.why ≡ Clash → AreSettled decls → first_clash decls ≡ Some e.place → Found decls e

pub found_by : (decls : List DeclTree) (e : IdlUnfit) → unfit decls ≡ Some e → Found decls e
unfolding unfit
found_by decls e h = repeated (first_found Repeated (repeat_in [] decls) _ e h) where
  clash : AreSettled decls → (first_clash decls ≡ Some e.place) × (e.why ≡ Clash) ⊎ (first_clash decls ≡ None) × (None ≡ Some e) → Found decls e
  clash settled (inl here) = ByClash here.1 settled here.0
  clash settled (inr later) = let isnt = later.1 in absurd cc

  cycle : repeat_in [] decls ≡ None → first_unknown decls ≡ None → first_wrong_base decls ≡ None → (first_cycle decls ≡ Some e.place) × (e.why ≡ Cycle) ⊎ (first_cycle decls ≡ None) × (or_unfit Clash (first_clash decls) None ≡ Some e) → Found decls e
  cycle a b c (inl here) = ByCycle here.1 a b c here.0
  cycle a b c (inr later) = clash (record { different = a; known = b; faces = c; acyclic = later.0 }) (first_found Clash (first_clash decls) None e later.1)

  base : repeat_in [] decls ≡ None → first_unknown decls ≡ None → (first_wrong_base decls ≡ Some e.place) × (e.why ≡ NotInterface) ⊎ (first_wrong_base decls ≡ None) × (or_unfit Cycle (first_cycle decls) (or_unfit Clash (first_clash decls) None) ≡ Some e) → Found decls e
  base a b (inl here) = ByBase here.1 a b here.0
  base a b (inr later) = cycle a b later.0 (first_found Cycle (first_cycle decls) (or_unfit Clash (first_clash decls) None) e later.1)

  unknown : repeat_in [] decls ≡ None → (first_unknown decls ≡ Some e.place) × (e.why ≡ UnknownType) ⊎ (first_unknown decls ≡ None) × (or_unfit NotInterface (first_wrong_base decls) (or_unfit Cycle (first_cycle decls) (or_unfit Clash (first_clash decls) None)) ≡ Some e) → Found decls e
  unknown a (inl here) = ByUnknown here.1 a here.0
  unknown a (inr later) = base a later.0 (first_found NotInterface (first_wrong_base decls) (or_unfit Cycle (first_cycle decls) (or_unfit Clash (first_clash decls) None)) e later.1)

  repeated : (repeat_in [] decls ≡ Some e.place) × (e.why ≡ Repeated) ⊎ (repeat_in [] decls ≡ None) × (or_unfit UnknownType (first_unknown decls) (or_unfit NotInterface (first_wrong_base decls) (or_unfit Cycle (first_cycle decls) (or_unfit Clash (first_clash decls) None))) ≡ Some e) → Found decls e
  repeated (inl here) = ByRepeated here.1 here.0
  repeated (inr later) = unknown later.0 (first_found UnknownType (first_unknown decls) (or_unfit NotInterface (first_wrong_base decls) (or_unfit Cycle (first_cycle decls) (or_unfit Clash (first_clash decls) None))) e later.1)

pub settled_of_fit : (decls : List DeclTree) → unfit decls ≡ None → AreSettled decls × (first_clash decls ≡ None)
unfolding unfit
settled_of_fit decls fit =
    let a = nothing_found Repeated (repeat_in [] decls) _ fit in
    let b = nothing_found UnknownType (first_unknown decls) _ a.1 in
    let c = nothing_found NotInterface (first_wrong_base decls) _ b.1 in
    let d = nothing_found Cycle (first_cycle decls) _ c.1 in
    let e = nothing_found Clash (first_clash decls) _ d.1 in
    (record { different = a.0; known = b.0; faces = c.0; acyclic = d.0 }, e.0)

-- ---- a refusal is the first reason

module _ (decls : List DeclTree) where
  none_before_unknown : Nowhere decls Repeated → NoneBefore decls UnknownType
  none_before_unknown a Repeated place lt h = a place h
  none_before_unknown a UnknownType place lt h = absurd (omega arith)
  none_before_unknown a NotInterface place lt h = absurd (omega arith)
  none_before_unknown a Cycle place lt h = absurd (omega arith)
  none_before_unknown a Clash place lt h = absurd (omega arith)
  none_before_unknown a Memory place lt h = h

  none_before_base : Nowhere decls Repeated → Nowhere decls UnknownType → NoneBefore decls NotInterface
  none_before_base a b Repeated place lt h = a place h
  none_before_base a b UnknownType place lt h = b place h
  none_before_base a b NotInterface place lt h = absurd (omega arith)
  none_before_base a b Cycle place lt h = absurd (omega arith)
  none_before_base a b Clash place lt h = absurd (omega arith)
  none_before_base a b Memory place lt h = h

  none_before_cycle : Nowhere decls Repeated → Nowhere decls UnknownType → Nowhere decls NotInterface → NoneBefore decls Cycle
  none_before_cycle a b c Repeated place lt h = a place h
  none_before_cycle a b c UnknownType place lt h = b place h
  none_before_cycle a b c NotInterface place lt h = c place h
  none_before_cycle a b c Cycle place lt h = absurd (omega arith)
  none_before_cycle a b c Clash place lt h = absurd (omega arith)
  none_before_cycle a b c Memory place lt h = h

  none_before_clash : Nowhere decls Repeated → Nowhere decls UnknownType → Nowhere decls NotInterface → Nowhere decls Cycle → NoneBefore decls Clash
  none_before_clash a b c d Repeated place lt h = a place h
  none_before_clash a b c d UnknownType place lt h = b place h
  none_before_clash a b c d NotInterface place lt h = c place h
  none_before_clash a b c d Cycle place lt h = d place h
  none_before_clash a b c d Clash place lt h = absurd (omega arith)
  none_before_clash a b c d Memory place lt h = h

  none_before_first : NoneBefore decls Repeated
  none_before_first why place lt h = absurd (omega arith)

  is_reason : (e : IdlUnfit) (why : UnfitWhy) → e.why ≡ why → Holds decls why e.place → NoneBefore decls why → IsReason decls e
  is_reason e why same holds first = record {
    holds = subst (λ w. Holds decls w e.place) (sym same) holds;
    first = subst (λ w. NoneBefore decls w) (sym same) first;
  }

  pub reason_found : (e : IdlUnfit) → Found decls e → IsReason decls e
  reason_found e (ByRepeated is found) = is_reason e Repeated is (repeated_some decls e.place found) none_before_first
  reason_found e (ByUnknown is a found) = is_reason e UnknownType is (unknown_some decls e.place found) (none_before_unknown (λ p. repeated_none decls p a))
  reason_found e (ByBase is a b found) = is_reason e NotInterface is (wrong_base_some decls e.place found) (none_before_base (λ p. repeated_none decls p a) (λ p. unknown_none decls p b))
  reason_found e (ByCycle is a b c found) = is_reason e Cycle is (cycle_some decls e.place found) (none_before_cycle (λ p. repeated_none decls p a) (λ p. unknown_none decls p b) (λ p. wrong_base_none decls p c))
  reason_found e (ByClash is s found) =
      is_reason e Clash is (clash_some decls s.different s.faces e.place found)
      (none_before_clash (λ p. repeated_none decls p s.different) (λ p. unknown_none decls p s.known) (λ p. wrong_base_none decls p s.faces) (λ p. cycle_none decls p s.acyclic))

  -- ---- the searches, where the first reasons hold nowhere

  pub settled_before : NoneBefore decls Clash → AreSettled decls
  settled_before none = record {
    different = found_nothing (repeat_in [] decls) decls Repeated (λ p. repeated_some decls p) (λ p. none Repeated p (omega arith));
    known = found_nothing (first_unknown decls) decls UnknownType (λ p. unknown_some decls p) (λ p. none UnknownType p (omega arith));
    faces = found_nothing (first_wrong_base decls) decls NotInterface (λ p. wrong_base_some decls p) (λ p. none NotInterface p (omega arith));
    acyclic = found_nothing (first_cycle decls) decls Cycle (λ p. cycle_some decls p) (λ p. none Cycle p (omega arith));
  }

  -- ---- fitting together

  really_declared : (word : Word) → ((IsDeclared decls word → ⊥) → ⊥) → IsDeclared decls word
  really_declared word really = which (cases_Bool (declares decls word)) where
    which : (declares decls word ≡ true) ⊎ (declares decls word ≡ false) → IsDeclared decls word
    which (inl is) = declared decls word is
    which (inr isnt) = absurd (really (not_declared decls word isnt))

  really_interface : (word : Word) → ((IsInterface decls word → ⊥) → ⊥) → IsInterface decls word
  really_interface word really = which (cases_Bool (declares_interface decls word)) where
    which : (declares_interface decls word ≡ true) ⊎ (declares_interface decls word ≡ false) → IsInterface decls word
    which (inl is) = interface decls word is
    which (inr isnt) = absurd (really (not_interface decls word isnt))

  -- a declaration stands at a place
  abbrev Stands : ℕ → Type 0
  Stands i = (place : ℕ) × StandsAt decls i place

  stands_of : {words_of : DeclTree → List Word} (i j : ℕ) → LeadsTo words_of decls i j → Stands i
  stands_of i j (Directly i' j' r) = ((decl_name r.from).place, record { decl = r.from; decl_at = r.from_at; place_is = refl })
  stands_of i j (Further i' m j' r rest) = ((decl_name r.from).place, record { decl = r.from; decl_at = r.from_at; place_is = refl })

  clash_stands : (i : ℕ) → HasClash decls i → Stands i
  clash_stands i c = which c.has_one.from where
    which : (i ≡ c.one) ⊎ Inherits decls i c.one → Stands i
    which (inl own) = ((decl_name c.has_one.declarer).place, record { decl = c.has_one.declarer; decl_at = ap (λ n. slice_get decls n) own ∙ c.has_one.declarer_at; place_is = refl })
    which (inr further) = stands_of i c.one further

  pub fits_of_nowhere : Nowhere decls Repeated → Nowhere decls UnknownType → Nowhere decls NotInterface → Nowhere decls Cycle → Nowhere decls Clash → FitsTogether decls
  fits_of_nowhere a b c d e = record {
    different = all_unless AreDifferent (λ words. (place : ℕ) × StandsAgain words place) (λ words none. different_unless words (λ place twice. none (place, twice))) (name_lists decls)
        (λ any. a any.4.0 (any.0, any.1, any.2, any.3, any.4.1));
    declared = all_unless (IsDeclared decls) (λ name. IsDeclared decls name → ⊥) (λ name none. really_declared name none) (flat_map (λ d. uses d) decls)
        (λ any. b any.1.place (any.0, any.1, any.2, any.3, (any.4, refl)));
    bases = all_unless (IsInterface decls) (λ base. IsInterface decls base → ⊥) (λ base none. really_interface base none) (flat_map (λ d. bases_of d) decls)
        (λ any. c any.1.place (any.0, any.1, any.2, any.3, (any.4, refl)));
    acyclic = λ i made. let at = stands_of i i made in d at.0 (i, made, at.1);
    clear = λ i clash. let at = clash_stands i clash in e at.0 (i, clash, at.1);
  }

  pub fits_of_none : unfit decls ≡ None → FitsTogether decls
  fits_of_none fit =
      let both = settled_of_fit decls fit in
      let s = both.0 in
      fits_of_nowhere (λ p. repeated_none decls p s.different) (λ p. unknown_none decls p s.known) (λ p. wrong_base_none decls p s.faces) (λ p. cycle_none decls p s.acyclic) (λ p. clash_none decls s.different s.faces p both.1)

  -- no reason holds of declarations that fit together
  pub fits_nowhere : FitsTogether decls → (why : UnfitWhy) → Nowhere decls why
  fits_nowhere f Repeated place h = none_where_all AreDifferent (λ words. StandsAgain words place) (λ words differ twice. different_not_again words place differ twice) (name_lists decls) f.different h
  fits_nowhere f UnknownType place h = none_where_all (IsDeclared decls) (λ name. (IsDeclared decls name → ⊥) × (place ≡ name.place)) (λ name is isnt. isnt.0 is) (flat_map (λ d. uses d) decls) f.declared h
  fits_nowhere f NotInterface place h = none_where_all (IsInterface decls) (λ base. (IsInterface decls base → ⊥) × (place ≡ base.place)) (λ base is isnt. isnt.0 is) (flat_map (λ d. bases_of d) decls) f.bases h
  fits_nowhere f Cycle place h = f.acyclic h.0 h.1
  fits_nowhere f Clash place h = f.clear h.0 h.1
  fits_nowhere f Memory place h = h

  pub not_fit : (e : IdlUnfit) → IsReason decls e → FitsTogether decls → ⊥
  not_fit e reason f = fits_nowhere f e.why e.place reason.holds

  pub none_of_fits : FitsTogether decls → unfit decls ≡ None
  none_of_fits f = cases (unfit decls) refl where
    cases : (o : Option IdlUnfit) → unfit decls ≡ o → o ≡ None
    cases None is = refl
    cases (Some e) is = absurd (not_fit e (reason_found e (found_by decls e is)) f)

  verdict_told : (e : IdlUnfit) (found : Option IdlUnfit) (why : UnfitWhy) → why ≢ Memory → Tells why e found → found ≡ Some e
  verdict_told e found Repeated known h = h
  verdict_told e found UnknownType known h = h
  verdict_told e found NotInterface known h = h
  verdict_told e found Cycle known h = h
  verdict_told e found Clash known h = h
  verdict_told e found Memory known h = absurd (known refl)

  -- a refusal that is not out of memory is the first reason
  pub told_reason : (e : IdlUnfit) → IsUnfit e (unfit decls) → e.why ≢ Memory → IsReason decls e
  told_reason e told known = reason_found e (found_by decls e (verdict_told e (unfit decls) e.why known told))

  -- none is made of itself, by the relation
  pub acyclic_of : AreSettled decls → (i : ℕ) → IsMadeOf decls i i → ⊥
  acyclic_of s i made = let at = stands_of i i made in cycle_none decls at.0 s.acyclic (i, made, at.1)

  pub settled_of_fits : FitsTogether decls → AreSettled decls
  settled_of_fits f = (settled_of_fit decls (none_of_fits f)).0
