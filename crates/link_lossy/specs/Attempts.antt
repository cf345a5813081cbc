-- One try of a call.
use Rattle.std.specs.Prelude.{◌≡◌, ◌⊎◌, ℕ, true, false, List, length, Option, Some, None, Result, Ok, Err}
use Rattle.link_lossy.specs.declared.request.Request.{Request}
use Rattle.link_lossy.specs.declared.serve.Served.{Served}
use Rattle.link_lossy.specs.declared.serve.ServeErr.{ServeErr}
use Rattle.link_lossy.specs.declared.refusal.LinkErr.{LinkErr}
use Rattle.link_lossy.specs.declared.refusal.LinkErr.TheVariants as errs
use Rattle.link_lossy.specs.Seen.{ReturnedSeen}
use Rattle.link_lossy.specs.Reading.{reply_at}
use Rattle.link_lossy.specs.Links.{LinkSeen, Sends}
use Rattle.link_lossy.specs.Services.{Service, result_of, shown_by}
use Rattle.link_lossy.specs.Ends.{Keeps, ServerSeen, Takes, is_new}

-- the link, the server's end and what serves, at a moment
pub record Moment (V : Type 0) : Type 0 where
  pub link : LinkSeen
  pub far : ServerSeen
  pub value : V

-- a number may be tried: it is new, or the end keeps its reply, for an `out` of so many bytes
abbrev pub MayTry : ℕ → ℕ → ServerSeen → Type 0
MayTry number len far = (is_new number far.last ≡ true) ⊎ ((s : Service) × Keeps number s far × (length s.bytes ≡ len))

-- the request was lost
pub record LostRequest {V : Type 0} (old new : Moment V) : Type 0 where
  pub link : Sends true old.link new.link
  pub far : new.far ≡ old.far
  pub value : new.value ≡ old.value

-- it arrived, and its reply was lost
pub record LostReply {V : Type 0} (served : V → Request → Result Served ServeErr → List ℕ → V → Type 0) (number : ℕ) (request : Request) (len : ℕ) (old new : Moment V) : Type 0 where
  pub mid : LinkSeen
  pub there : Sends false old.link mid
  pub takes : Takes served number request len false old.far new.far old.value new.value
  pub back : Sends true mid new.link

-- it arrived, and serving it lacked memory
pub record NoMemory {V : Type 0} (served : V → Request → Result Served ServeErr → List ℕ → V → Type 0) (number : ℕ) (request : Request) (len : ℕ) (old new : Moment V) (result : Result Served LinkErr) : Type 0 where
  pub there : Sends false old.link new.link
  pub takes : Takes served number request len true old.far new.far old.value new.value
  pub answer : result ≡ Err errs.Memory

-- it arrived, and its reply came
pub record Returns {V : Type 0} (served : V → Request → Result Served ServeErr → List ℕ → V → Type 0) (number : ℕ) (request : Request) (len : ℕ) (old new : Moment V) (out_old out_new : List ℕ) (result : Result Served LinkErr) : Type 0 where
  pub mid : LinkSeen
  pub there : Sends false old.link mid
  pub takes : Takes served number request len false old.far new.far old.value new.value
  pub back : Sends false mid new.link
  pub returned : ReturnedSeen
  pub read : reply_at new.far.reply ≡ Ok returned
  pub answer : Some result ≡ result_of returned (length out_old)
  pub out : out_new ≡ shown_by returned out_old

-- A TRY, with what it answers, if it answers
abbrev pub Tries : {V : Type 0} → (V → Request → Result Served ServeErr → List ℕ → V → Type 0) → ℕ → Request → Moment V → Moment V → List ℕ → List ℕ → Option (Result Served LinkErr) → Type 0
Tries served number request old new out_old out_new None =
    (LostRequest old new ⊎ LostReply served number request (length out_old) old new) × (out_new ≡ out_old)
Tries served number request old new out_old out_new (Some result) =
    (NoMemory served number request (length out_old) old new result × (out_new ≡ out_old)) ⊎ Returns served number request (length out_old) old new out_old out_new result
