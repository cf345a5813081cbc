-- The first name that is not declared, and the first base that is no interface.
use Rattle.std.proofs.Common.{◌≡◌, ℕ, ◌+◌, ◌≤◌, List, [], ◌∷◌, Bool, true, false, cond, Some, None, ◌⊎◌, inl, inr, refl, arith}
use Rattle.std.specs.Prelude.{Any}
use Rattle.std.specs.List.{flat_map}
use Rattle.std.proofs.lemmas.Bool.{both_ways, false_from_ne_true}
use Rattle.idl_reader.specs.declared.idl.Word.{Word}
use Rattle.idl_reader.specs.Tree.{DeclTree}
use Rattle.idl_check.specs.declared.why.UnfitWhy.TheVariants.{UnknownType, NotInterface}
use Rattle.idl_check.specs.Names.{uses, bases_of}
use Rattle.idl_check.specs.Verdict.{first_failing, declares, declares_interface, first_unknown, first_wrong_base}
use Rattle.idl_check.specs.FitsTogether.{IsDeclared, IsInterface, Holds}
use Rattle.idl_check.proofs.Lists.{none_of_nil, any_here, any_later, any_cases, any_weaker}
use Rattle.idl_check.proofs.NameTests.{declared, not_declared, interface, not_interface}
use Rattle.idl_check.proofs.Rises.{Rises, above}

module _ (test : Word → Bool) where
  -- a word fails the test, and has this place
  abbrev pub FailsAt : ℕ → Word → Type 0
  FailsAt place word = (test word ≡ false) × (place ≡ word.place)

  fails_some : (words : List Word) (place : ℕ) → first_failing test words ≡ Some place → Any (FailsAt place) words
  fails_some [] place e = absurd cc
  fails_some (w ∷ ws) place e = cases (test w) refl e (λ h. fails_some ws place h) where
    cases : (b : Bool) → test w ≡ b → cond b (first_failing test ws) (Some w.place) ≡ Some place → (first_failing test ws ≡ Some place → Any (FailsAt place) ws) → Any (FailsAt place) (w ∷ ws)
    cases true is h rest = any_later (FailsAt place) w ws (rest h)
    cases false is h rest = let same : place ≡ w.place = cc in any_here (FailsAt place) w ws (is, same)

  pub fails_none : (words : List Word) (place : ℕ) → first_failing test words ≡ None → Any (FailsAt place) words → ⊥
  fails_none [] place e a = none_of_nil (FailsAt place) a
  fails_none (w ∷ ws) place e a = cases (test w) refl e (any_cases (FailsAt place) w ws a) (λ h later. fails_none ws place h later) where
    cases : (b : Bool) → test w ≡ b → cond b (first_failing test ws) (Some w.place) ≡ None → FailsAt place w ⊎ Any (FailsAt place) ws → (first_failing test ws ≡ None → Any (FailsAt place) ws → ⊥) → ⊥
    cases true is h (inl here) rest = both_ways (test w) here.0 is
    cases true is h (inr later) rest = rest h later
    cases false is h which rest = absurd cc

  fails_least : (words : List Word) (low first place : ℕ) → Rises low words → first_failing test words ≡ Some first → Any (FailsAt place) words → first ≤ place
  fails_least [] low first place r e a = absurd (none_of_nil (FailsAt place) a)
  fails_least (w ∷ ws) low first place r e a = cases (test w) refl e (any_cases (FailsAt place) w ws a) (λ h later. fails_least ws (w.place + 1) first place r.1 h later) where
    cases : (b : Bool) → test w ≡ b → cond b (first_failing test ws) (Some w.place) ≡ Some first → FailsAt place w ⊎ Any (FailsAt place) ws → (first_failing test ws ≡ Some first → Any (FailsAt place) ws → first ≤ place) → first ≤ place
    cases true is h (inl here) rest = absurd (both_ways (test w) here.0 is)
    cases true is h (inr later) rest = rest h later
    cases false is h which rest =
        let same : first ≡ w.place = cc in
        let high = above w.place (w ∷ ws) (omega arith, r.1) place (any_weaker (FailsAt place) (λ (v : Word). place ≡ v.place) (λ v at. at.1) (w ∷ ws) a) in
        omega arith

module _ (decls : List DeclTree) (place : ℕ) where
  abbrev Undeclared : Word → Type 0
  Undeclared name = (IsDeclared decls name → ⊥) × (place ≡ name.place)

  to_undeclared : (words : List Word) → Any (FailsAt (λ w. declares decls w) place) words → Any Undeclared words
  to_undeclared words a = any_weaker (FailsAt (λ w. declares decls w) place) Undeclared (λ w at. (not_declared decls w at.0, at.1)) words a

  from_undeclared : (words : List Word) → Any Undeclared words → Any (FailsAt (λ w. declares decls w) place) words
  from_undeclared words a = any_weaker Undeclared (FailsAt (λ w. declares decls w) place) (λ w at. (false_from_ne_true (declares decls w) (λ is. at.0 (declared decls w is)), at.1)) words a

  pub unknown_some : first_unknown decls ≡ Some place → Holds decls UnknownType place
  unknown_some e = to_undeclared (flat_map (λ d. uses d) decls) (fails_some (λ w. declares decls w) (flat_map (λ d. uses d) decls) place e)

  pub unknown_none : first_unknown decls ≡ None → Holds decls UnknownType place → ⊥
  unknown_none e h = fails_none (λ w. declares decls w) (flat_map (λ d. uses d) decls) place e (from_undeclared (flat_map (λ d. uses d) decls) h)

  pub unknown_least : (low first : ℕ) → Rises low (flat_map (λ d. uses d) decls) → first_unknown decls ≡ Some first → Holds decls UnknownType place → first ≤ place
  unknown_least low first r e h = fails_least (λ w. declares decls w) (flat_map (λ d. uses d) decls) low first place r e (from_undeclared (flat_map (λ d. uses d) decls) h)

  abbrev NoInterface : Word → Type 0
  NoInterface base = (IsInterface decls base → ⊥) × (place ≡ base.place)

  to_no_interface : (words : List Word) → Any (FailsAt (λ w. declares_interface decls w) place) words → Any NoInterface words
  to_no_interface words a = any_weaker (FailsAt (λ w. declares_interface decls w) place) NoInterface (λ w at. (not_interface decls w at.0, at.1)) words a

  from_no_interface : (words : List Word) → Any NoInterface words → Any (FailsAt (λ w. declares_interface decls w) place) words
  from_no_interface words a = any_weaker NoInterface (FailsAt (λ w. declares_interface decls w) place) (λ w at. (false_from_ne_true (declares_interface decls w) (λ is. at.0 (interface decls w is)), at.1)) words a

  pub wrong_base_some : first_wrong_base decls ≡ Some place → Holds decls NotInterface place
  wrong_base_some e = to_no_interface (flat_map (λ d. bases_of d) decls) (fails_some (λ w. declares_interface decls w) (flat_map (λ d. bases_of d) decls) place e)

  pub wrong_base_none : first_wrong_base decls ≡ None → Holds decls NotInterface place → ⊥
  wrong_base_none e h = fails_none (λ w. declares_interface decls w) (flat_map (λ d. bases_of d) decls) place e (from_no_interface (flat_map (λ d. bases_of d) decls) h)

  pub wrong_base_least : (low first : ℕ) → Rises low (flat_map (λ d. bases_of d) decls) → first_wrong_base decls ≡ Some first → Holds decls NotInterface place → first ≤ place
  wrong_base_least low first r e h = fails_least (λ w. declares_interface decls w) (flat_map (λ d. bases_of d) decls) low first place r e (from_no_interface (flat_map (λ d. bases_of d) decls) h)
