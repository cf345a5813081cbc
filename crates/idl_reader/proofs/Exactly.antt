-- Reading answers exactly what a text declares.
use Rattle.std.proofs.Common.{◌≡◌, ℕ, List, Result, Ok, Err, sym, ◌∙◌}
use Rattle.std.specs.Result.{IfOk, MatchResult}
use Rattle.idl_reader.specs.declared.why.IdlRefused.{IdlRefused}
use Rattle.idl_reader.specs.declared.idl.Idl.{Idl}
use Rattle.idl_reader.specs.Grammar.{AreDecls, IsTextOf}
use Rattle.idl_reader.specs.Reading.{idl_at}
use Rattle.idl_reader.specs.Tree.{DeclTree, idl_tree}
use Rattle.idl_reader.specs.Why.{Gives, no_memory}
use Rattle.idl_reader.proofs.Again.{idl_again, refused_memory}
use Rattle.idl_reader.proofs.Found.{idl_found}
use Rattle.idl_reader.proofs.Results.{done, ok_is}
use Rattle.idl_reader.proofs.Printed.{idl_printed}
use Rattle.idl_reader.specs.Places.{bare}
use Rattle.idl_reader.specs.Spelling.{spelling}

pub exactly_found : (text : List ℕ) (r : Result Idl IdlRefused) → Gives (λ idl. idl_tree idl) r (idl_at text) → IfOk r (λ idl. IsTextOf text (idl_tree idl))
exactly_found text (Ok idl) gives = idl_found text (idl_tree idl) gives
exactly_found text (Err e) gives = tt

pub exactly_only : (text : List ℕ) (r : Result Idl IdlRefused) → Gives (λ idl. idl_tree idl) r (idl_at text) → (decls : List DeclTree) → IsTextOf text decls → MatchResult r (λ idl. idl_tree idl ≡ decls) (λ refused. refused ≡ no_memory)
exactly_only text (Ok idl) gives decls is = ok_is (idl_tree idl) decls (sym gives ∙ idl_again text decls is)
exactly_only text (Err e) gives decls is = refused_memory decls (idl_at text) e (idl_again text decls is) gives

pub one_value : (text : List ℕ) (some other : List DeclTree) → IsTextOf text some → IsTextOf text other → some ≡ other
one_value text some other a b = ok_is some other (sym (idl_again text some a) ∙ idl_again text other b)

pub printed_read : (decls : List DeclTree) → AreDecls decls → (again : List DeclTree) × (idl_at (spelling decls) ≡ done again) × (bare again ≡ bare decls)
printed_read decls is = let printed = idl_printed decls is in (printed.0, idl_again (spelling decls) printed.0 printed.1, printed.2)
