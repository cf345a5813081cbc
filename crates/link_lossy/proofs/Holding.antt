-- What the server's end keeps after a request arrived.
use Rattle.std.proofs.Common.{◌≡◌, ℕ, Bool, true, false, List, length, inl, inr, Result, Ok, Err, refl, sym, subst}
use Rattle.std.specs.Prelude.{IsOk}
use Rattle.link_lossy.specs.declared.request.Request.{Request}
use Rattle.link_lossy.specs.declared.serve.Served.{Served}
use Rattle.link_lossy.specs.declared.serve.ServeErr.{ServeErr}
use Rattle.link_lossy.specs.Services.{Service}
use Rattle.link_lossy.specs.Ends.{Keeps, ServerSeen, Takes, TakesIf, is_new}
use Rattle.link_lossy.specs.Attempts.{MayTry}

-- the reply of the call's service, for an `out` of this length
abbrev pub Holds : ℕ → ℕ → ServerSeen → Type 0
Holds number len far = (s : Service) × Keeps number s far × (length s.bytes ≡ len)

holds_if : {V : Type 0} (served : V → Request → Result Served ServeErr → List ℕ → V → Type 0) (number : ℕ) (request : Request) (len : ℕ) (old new : ServerSeen) (before after : V) (b : Bool) → is_new number old.last ≡ b → MayTry number len old
    → TakesIf b served number request len false old new before after → Holds number len new
holds_if served number request len old new before after true is may takes = (takes.0, takes.3.1, takes.2)
holds_if served number request len old new before after false is (inl fresh) takes = absurd cc
holds_if served number request len old new before after false is (inr kept) takes = subst (Holds number len) (sym takes.1) kept

pub holds : {V : Type 0} (served : V → Request → Result Served ServeErr → List ℕ → V → Type 0) (number : ℕ) (request : Request) (len : ℕ) (old new : ServerSeen) (before after : V) → MayTry number len old
    → Takes served number request len false old new before after → Holds number len new
holds served number request len old new before after may takes = holds_if served number request len old new before after (is_new number old.last) refl may takes

pub ok_of : {A E : Type 0} (r : Result A E) → IsOk r → (x : A) × (r ≡ Ok x)
ok_of (Ok x) is = (x, refl)
ok_of (Err e) is = absurd cc
