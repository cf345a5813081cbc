-- The two ends of a caller.
use Rattle.std.specs.Prelude.{◌≡◌, ℕ, Bool, true, false, nat_lt, List, length, Option, Some, None, Result, Ok}
use Rattle.link_lossy.specs.declared.request.Request.{Request}
use Rattle.link_lossy.specs.declared.serve.Served.{Served}
use Rattle.link_lossy.specs.declared.serve.ServeErr.{ServeErr}
use Rattle.link_lossy.specs.Seen.{ReturnedSeen}
use Rattle.link_lossy.specs.Reading.{reply_at}
use Rattle.link_lossy.specs.Services.{Service, answer_to, is_memory, reply_of, result_of}

-- a caller's end: whose it is, and the number of its next call
pub record CallerSeen : Type 0 where
  pub caller : ℕ
  pub next : ℕ

-- a server's end: whose it is, the number of the last call that it served, and the reply that it keeps
pub record ServerSeen : Type 0 where
  pub caller : ℕ
  pub last : Option ℕ
  pub reply : List ℕ

-- whether a number is above that of the last call that was served
abbrev pub is_new : ℕ → Option ℕ → Bool
is_new number None = true
is_new number (Some last) = nat_lt last number

-- THE BYTES ARE THE REPLY to a service of the call of this number and caller
pub record Replies (number caller : ℕ) (s : Service) (reply : List ℕ) : Type 0 where
  pub returned : ReturnedSeen
  pub is : reply_of number caller s.answer s.bytes ≡ Some returned
  pub read : reply_at reply ≡ Ok returned
  -- and its caller has the answer of it
  pub answer : result_of returned (length s.bytes) ≡ Some (answer_to s.answer)

-- the bytes that are kept after a service: if it lacked memory, those that were
abbrev pub KeepsIf : ℕ → ℕ → Service → Bool → List ℕ → List ℕ → Type 0
KeepsIf number caller s true old new = (is_memory s.answer ≡ true) × (new ≡ old)
KeepsIf number caller s false old new = (is_memory s.answer ≡ false) × Replies number caller s new

-- the end keeps that reply, as the one to its last call
pub record Keeps (number : ℕ) (s : Service) (end : ServerSeen) : Type 0 where
  pub last : end.last ≡ Some number
  pub reply : Replies number end.caller s end.reply

-- what the end has after a service: if it lacked memory, what it had
abbrev pub EndsWith : ℕ → Service → Bool → ServerSeen → ServerSeen → Type 0
EndsWith number s true old new = (is_memory s.answer ≡ true) × (new ≡ old)
EndsWith number s false old new = (is_memory s.answer ≡ false) × Keeps number s new × (new.caller ≡ old.caller)

-- A REQUEST ARRIVES: it is served if its number is new, and else nothing is done
abbrev pub TakesIf : {V : Type 0} → Bool → (V → Request → Result Served ServeErr → List ℕ → V → Type 0) → ℕ → Request → ℕ → Bool → ServerSeen → ServerSeen → V → V → Type 0
TakesIf true served number request len lacked old new before after =
    (s : Service) × served before request s.answer s.bytes after × (length s.bytes ≡ len) × EndsWith number s lacked old new
TakesIf false served number request len lacked old new before after = (lacked ≡ false) × (new ≡ old) × (after ≡ before)

abbrev pub Takes : {V : Type 0} → (V → Request → Result Served ServeErr → List ℕ → V → Type 0) → ℕ → Request → ℕ → Bool → ServerSeen → ServerSeen → V → V → Type 0
Takes served number request len lacked old new before after = TakesIf (is_new number old.last) served number request len lacked old new before after
