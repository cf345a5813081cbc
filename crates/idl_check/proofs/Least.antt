-- In a text the verdict's place is the first at which its reason holds.
use Rattle.std.proofs.Common.{◌≡◌, ℕ, ◌≤◌, List, Some, subst}
use Rattle.idl_reader.specs.Tree.{DeclTree}
use Rattle.idl_reader.specs.Grammar.{IsTextOf}
use Rattle.idl_check.specs.declared.why.UnfitWhy.{UnfitWhy}
use Rattle.idl_check.specs.declared.why.UnfitWhy.TheVariants.{Repeated, UnknownType, NotInterface, Cycle, Clash}
use Rattle.idl_check.specs.declared.why.IdlUnfit.{IdlUnfit}
use Rattle.idl_check.specs.Verdict.{unfit}
use Rattle.idl_check.specs.FitsTogether.{Holds}
use Rattle.idl_check.proofs.Repeated.{repeated_least}
use Rattle.idl_check.proofs.Used.{unknown_least, wrong_base_least}
use Rattle.idl_check.proofs.Made.{cycle_least}
use Rattle.idl_check.proofs.Clashing.{clash_least}
use Rattle.idl_check.proofs.Exactly.{Found, ByRepeated, ByUnknown, ByBase, ByCycle, ByClash, found_by}
use Rattle.idl_check.proofs.InText.{declared_rise, used_rise, bases_rise, names_of_decls_rise}

module _ (text : List ℕ) (decls : List DeclTree) (is : IsTextOf text decls) (e : IdlUnfit) (place : ℕ) where
  at_why : (why : UnfitWhy) → e.why ≡ why → Holds decls e.why place → Holds decls why place
  at_why why same h = subst (λ w. Holds decls w place) same h

  least : Found decls e → Holds decls e.why place → e.place ≤ place
  least (ByRepeated same found) h = repeated_least decls place 0 e.place (declared_rise text decls is) found (at_why Repeated same h)
  least (ByUnknown same a found) h = unknown_least decls place 0 e.place (used_rise text decls is) found (at_why UnknownType same h)
  least (ByBase same a b found) h = wrong_base_least decls place 0 e.place (bases_rise text decls is) found (at_why NotInterface same h)
  least (ByCycle same a b c found) h = cycle_least decls place 0 e.place (names_of_decls_rise text decls is) found (at_why Cycle same h)
  least (ByClash same s found) h = clash_least decls s.different s.faces place 0 e.place (names_of_decls_rise text decls is) found (at_why Clash same h)

  pub first_place : unfit decls ≡ Some e → Holds decls e.why place → e.place ≤ place
  first_place verdict h = least (found_by decls e verdict) h
