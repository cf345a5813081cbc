-- A call over a link: how it ends, and what it leaves.
use Rattle.std.specs.Prelude.{◌≡◌, ◌≢◌, ◌⊎◌, ℕ, ◌+◌, ◌<◌, Bool, true, false, if◌then◌else◌, List, [], ◌∷◌, ◌++◌, length, Option, Some, None, IfSome, is_some, Result, Ok, Err}
use Rattle.std.specs.List.{AllByRecursion}
use Rattle.link_lossy.specs.declared.request.Request.{Request}
use Rattle.link_lossy.specs.declared.serve.Served.{Served}
use Rattle.link_lossy.specs.declared.serve.ServeErr.{ServeErr}
use Rattle.link_lossy.specs.declared.refusal.LinkErr.{LinkErr}
use Rattle.link_lossy.specs.declared.refusal.LinkErr.TheVariants as errs
use Rattle.link_lossy.specs.declared.calling.TheConstants.{TRIES}
use Rattle.link_lossy.specs.Links.{LinkSeen, Sends}
use Rattle.link_lossy.specs.Tries.{Arrives, LoseAll, all_lost}
use Rattle.link_lossy.specs.Services.{Service, answer_to, is_memory, shown}
use Rattle.link_lossy.specs.Ends.{CallerSeen, ServerSeen}

-- what stands between two calls: what the link tells, the number that the caller's end gives next, and the one that the server's end
-- served last
pub record Wire : Type 0 where
  pub link : LinkSeen
  pub next : ℕ
  pub last : Option ℕ

abbrev pub wire_of : LinkSeen → CallerSeen → ServerSeen → Wire
wire_of link near far = record { link = link; next = near.next; last = far.last }

-- a call: what it asked of which value; its service, if it had one; what it answered; and what stood before it and after it
pub record Call (V : Type 0) : Type 0 where
  pub request : Request
  pub service : Option Service
  pub result : Result Served LinkErr
  pub before : Wire
  pub after : Wire
  pub value_before : V
  pub value_after : V
  pub out_before : List ℕ
  pub out_after : List ℕ

-- the call of these parts, with the value and `out` before it and after it
abbrev pub call_of : {V : Type 0} → Request → Option Service → Result Served LinkErr → Wire → Wire → V → V → List ℕ → List ℕ → Call V
call_of request service result before after value_before value_after out_before out_after = record {
  request = request;
  service = service;
  result = result;
  before = before;
  after = after;
  value_before = value_before;
  value_after = value_after;
  out_before = out_before;
  out_after = out_after;
}

-- serving it lacked memory
abbrev pub lacked : Service → Bool
lacked s = is_memory s.answer

-- WHAT IT DID. It was not served, and the value is as it was; or it was served once, by its one service. The server's end then knows
-- its number, unless serving it lacked memory
abbrev pub Did : {V : Type 0} → (V → Request → Result Served ServeErr → List ℕ → V → Type 0) → Call V → Option Service → Type 0
Did served c None = (c.value_after ≡ c.value_before) × (c.after.last ≡ c.before.last)
Did served c (Some s) = served c.value_before c.request s.answer s.bytes c.value_after × (length s.bytes ≡ length c.out_before)
    × (c.after.last ≡ (if lacked s then c.before.last else Some c.before.next))

-- HOW IT ENDS. Nothing was sent, since memory ran out
pub record Unsent {V : Type 0} (c : Call V) : Type 0 where
  pub result : c.result ≡ Err errs.Memory
  pub unserved : c.service ≡ None
  pub link : c.after.link ≡ c.before.link
  pub out : c.out_after ≡ c.out_before

-- each of its tries lost its request or its reply, and it answers the link's count after them
pub record Lost {V : Type 0} (c : Call V) : Type 0 where
  pub result : c.result ≡ Err (errs.Link c.after.link.count)
  pub tries : LoseAll TRIES c.before.link c.after.link
  pub kept : IfSome c.service (λ s. lacked s ≡ false)
  pub out : c.out_after ≡ c.out_before

-- some tries, fewer than all, lost theirs; what was sent before the try that did not
pub record After {V : Type 0} (c : Call V) (mid : LinkSeen) : Type 0 where
  pub tries : ℕ
  pub few : tries < TRIES
  pub lost : LoseAll tries c.before.link mid

-- its request arrived, and serving it lacked memory
pub record Starved {V : Type 0} (c : Call V) : Type 0 where
  pub result : c.result ≡ Err errs.Memory
  pub service : Service
  pub is : c.service ≡ Some service
  pub starved : lacked service ≡ true
  pub mid : LinkSeen
  pub earlier : After c mid
  pub arrived : Sends false mid c.after.link
  pub out : c.out_after ≡ c.out_before

-- the reply to its one service came
pub record Came {V : Type 0} (c : Call V) : Type 0 where
  pub service : Service
  pub is : c.service ≡ Some service
  pub result : c.result ≡ answer_to service.answer
  pub fed : lacked service ≡ false
  pub mid : LinkSeen
  pub earlier : After c mid
  pub arrived : Arrives mid c.after.link
  pub out : c.out_after ≡ shown service.answer service.bytes c.out_before

abbrev pub Ended : {V : Type 0} → Call V → Type 0
Ended c = Lost c ⊎ Starved c ⊎ Came c

-- a call that was sent
pub record IsSent {V : Type 0} (served : V → Request → Result Served ServeErr → List ℕ → V → Type 0) (c : Call V) : Type 0 where
  pub did : Did served c c.service
  pub ended : Ended c

-- A CALL: it has the next number of its end
pub record IsCall {V : Type 0} (served : V → Request → Result Served ServeErr → List ℕ → V → Type 0) (c : Call V) : Type 0 where
  pub number : c.after.next ≡ c.before.next + 1
  pub did : Did served c c.service
  pub ended : Unsent c ⊎ Ended c

-- whether a call answers that the link lost it
abbrev pub is_link : Result Served LinkErr → Bool
is_link (Err (errs.Link count)) = true
is_link (Err (errs.StoreFault disk count)) = false
is_link (Err errs.TrailFull) = false
is_link (Err errs.Memory) = false
is_link (Ok served) = false

-- EXACTLY WHERE. If the link tells which packets it loses, a call for which memory did not run out answers that the link lost it
-- exactly where each of its tries loses its request or its reply, by the packets' numbers
abbrev pub IsTold : LinkSeen → Result Served LinkErr → Type 0
IsTold link result = IfSome link.loses (λ loses. result ≢ Err errs.Memory → is_link result ≡ all_lost loses link.packets TRIES)

-- CALLS IN TURN: each begins with what the one before it left on the wire
abbrev pub Begins : {V : Type 0} → Wire → List (Call V) → Type 0
Begins wire [] = Unit {0}
Begins wire (c ∷ cs) = (c.before ≡ wire) × Begins c.after cs

-- each number is above all before it
abbrev pub Rises : List ℕ → Type 0
Rises [] = Unit {0}
Rises (x ∷ xs) = AllByRecursion (λ y. x < y) xs × Rises xs

-- the numbers that were served, in order
abbrev pub numbers_served : {V : Type 0} → List (Call V) → List ℕ
numbers_served [] = []
numbers_served (c ∷ cs) = (if is_some c.service then c.before.next ∷ [] else []) ++ numbers_served cs

-- the counts with which calls answered that the link lost them, in order
abbrev pub count_in : Result Served LinkErr → List ℕ
count_in (Err (errs.Link count)) = count ∷ []
count_in (Err (errs.StoreFault disk count)) = []
count_in (Err errs.TrailFull) = []
count_in (Err errs.Memory) = []
count_in (Ok served) = []

abbrev pub counts_told : {V : Type 0} → List (Call V) → List ℕ
counts_told [] = []
counts_told (c ∷ cs) = count_in c.result ++ counts_told cs

-- AN ANSWER IS ITS OWN: it is that of the call's one service, which was for its request, from the value before it to the value after it
pub record AnswersIts {V : Type 0} (served : V → Request → Result Served ServeErr → List ℕ → V → Type 0) (c : Call V) : Type 0 where
  pub service : Service
  pub is : c.service ≡ Some service
  pub did : served c.value_before c.request service.answer service.bytes c.value_after
  pub result : c.result ≡ answer_to service.answer
  pub out : c.out_after ≡ shown service.answer service.bytes c.out_before
