-- How a call stands between two tries, and how it ends.
use Rattle.std.proofs.Common.{◌≡◌, ℕ, ◌+◌, ◌<◌, Bool, true, false, ltb, eqb, eq-eqb, inl, inr, List, [], length, Option, Some, None, Result, Ok, Err, refl, sym, ap, subst, ◌∙◌, arith}
use Rattle.std.proofs.lemmas.Bool.Decides.{nat_tests}
use Rattle.hist_plain.specs.declared.event.Answer.{Answer}
use Rattle.hist_plain.specs.declared.event.Answer.TheVariants as answers
use Rattle.link_lossy.specs.declared.request.Request.{Request}
use Rattle.link_lossy.specs.declared.serve.Served.{Served}
use Rattle.link_lossy.specs.declared.serve.ServeErr.{ServeErr}
use Rattle.link_lossy.specs.declared.serve.ServeErr.TheVariants as refusals
use Rattle.link_lossy.specs.declared.refusal.LinkErr.{LinkErr}
use Rattle.link_lossy.specs.declared.refusal.LinkErr.TheVariants as errs
use Rattle.link_lossy.specs.declared.calling.TheConstants.{TRIES}
use Rattle.link_lossy.specs.Seen.{ReturnedSeen}
use Rattle.link_lossy.specs.Links.{Sends}
use Rattle.link_lossy.specs.Tries.{LoseAll}
use Rattle.link_lossy.specs.Services.{Service, answer_to, is_memory, reply_of, result_of, shown, shown_by}
use Rattle.link_lossy.specs.Ends.{Keeps, ServerSeen, Takes, TakesIf, is_new}
use Rattle.link_lossy.specs.Attempts.{MayTry, Moment, Returns, Tries}
use Rattle.link_lossy.specs.Calls.{Call, Did, IsSent}
use Rattle.link_lossy.proofs.Losing.{one_more}

-- the request's service so far, with the end and the value before the call: there was one, and the end keeps its reply
pub record Kept {V : Type 0} (served : V → Request → Result Served ServeErr → List ℕ → V → Type 0) (number : ℕ) (request : Request) (len : ℕ) (old : ServerSeen) (before : V) (s : Service) (new : ServerSeen) (after : V) : Type 0 where
  pub served_so : served before request s.answer s.bytes after
  pub long : length s.bytes ≡ len
  pub fed : is_memory s.answer ≡ false
  pub keeps : Keeps number s new
  pub caller : new.caller ≡ old.caller

-- or there was none, and both are as they were
abbrev pub StandsBy : {V : Type 0} → (V → Request → Result Served ServeErr → List ℕ → V → Type 0) → ℕ → Request → ℕ → ServerSeen → V → Option Service → ServerSeen → V → Type 0
StandsBy served number request len old before None new after = (new ≡ old) × (after ≡ before)
StandsBy served number request len old before (Some s) new after = Kept served number request len old before s new after

pub record Stands {V : Type 0} (served : V → Request → Result Served ServeErr → List ℕ → V → Type 0) (number : ℕ) (request : Request) (len : ℕ) (old : Moment V) (tries : ℕ) (new : Moment V) : Type 0 where
  pub lost : LoseAll tries old.link new.link
  pub service : Option Service
  pub stands : StandsBy served number request len old.far old.value service new.far new.value

-- at the start
pub at_start : {V : Type 0} (served : V → Request → Result Served ServeErr → List ℕ → V → Type 0) (number : ℕ) (request : Request) (len : ℕ) (m : Moment V) → Stands served number request len m 0 m
unfolding LoseAll
at_start served number request len m = record { lost = refl; service = None; stands = (refl, refl) }

old_number : (number : ℕ) (last : Option ℕ) → last ≡ Some number → is_new number last ≡ false
old_number number last e = rw e (let t : ltb number number ≡ false = grind (arith, nat_tests) in t)

-- it may be tried again
pub may_try : {V : Type 0} (served : V → Request → Result Served ServeErr → List ℕ → V → Type 0) (number : ℕ) (request : Request) (len : ℕ) (old far : ServerSeen) (before value : V) (service : Option Service) → is_new number old.last ≡ true
    → StandsBy served number request len old before service far value → MayTry number len far
may_try served number request len old far before value None fresh s = inl (ap (λ (e : ServerSeen). is_new number e.last) s.0 ∙ fresh)
may_try served number request len old far before value (Some service) fresh s = inr (service, s.keeps, s.long)

-- and if its number is new still, the value is as it was
pub still : {V : Type 0} (served : V → Request → Result Served ServeErr → List ℕ → V → Type 0) (number : ℕ) (request : Request) (len : ℕ) (old far : ServerSeen) (before value : V) (service : Option Service) → StandsBy served number request len old before service far value
    → is_new number far.last ≡ true → value ≡ before
still served number request len old far before value None s fresh = s.1
still served number request len old far before value (Some service) s fresh = absurd (let e = old_number number far.last s.keeps.last in cc)

-- after a request arrived there was one service
arrived_if : {V : Type 0} (served : V → Request → Result Served ServeErr → List ℕ → V → Type 0) (number : ℕ) (request : Request) (len : ℕ) (old far new : ServerSeen) (before value after : V) (service : Option Service) (b : Bool) → is_new number far.last ≡ b → is_new number old.last ≡ true
    → StandsBy served number request len old before service far value → TakesIf b served number request len false far new value after
    → (s : Service) × Kept served number request len old before s new after
arrived_if served number request len old far new before value after None true is fresh s (service, does, long, (fed, keeps, caller)) =
    (service, record { served_so = subst (λ (v : _). served v request service.answer service.bytes after) s.1 does; long = long; fed = fed; keeps = keeps; caller = caller ∙ ap (λ (e : ServerSeen). e.caller) s.0 })
arrived_if served number request len old far new before value after (Some service) true is fresh s takes = absurd (let e = old_number number far.last s.keeps.last in cc)
arrived_if served number request len old far new before value after None false is fresh s takes = absurd (let e : is_new number far.last ≡ true = ap (λ (e : ServerSeen). is_new number e.last) s.0 ∙ fresh in cc)
arrived_if served number request len old far new before value after (Some service) false is fresh s takes =
    (service, subst (λ (e : ServerSeen). Kept served number request len old before service e after) (sym takes.1) (subst (λ (v : _). Kept served number request len old before service far v) (sym takes.2) s))

arrived : {V : Type 0} (served : V → Request → Result Served ServeErr → List ℕ → V → Type 0) (number : ℕ) (request : Request) (len : ℕ) (old far new : ServerSeen) (before value after : V) (service : Option Service) → is_new number old.last ≡ true
    → StandsBy served number request len old before service far value → Takes served number request len false far new value after
    → (s : Service) × Kept served number request len old before s new after
arrived served number request len old far new before value after service fresh s takes = arrived_if served number request len old far new before value after service (is_new number far.last) refl fresh s takes

-- it stands as it did, where nothing arrived
same_stands : {V : Type 0} (served : V → Request → Result Served ServeErr → List ℕ → V → Type 0) (number : ℕ) (request : Request) (len : ℕ) (old far new : ServerSeen) (before value after : V) (service : Option Service) → new ≡ far → after ≡ value
    → StandsBy served number request len old before service far value → StandsBy served number request len old before service new after
same_stands served number request len old far new before value after None e f s = (e ∙ s.0, f ∙ s.1)
same_stands served number request len old far new before value after (Some service) e f s =
    subst (λ (x : ServerSeen). Kept served number request len old before service x after) (sym e) (subst (λ (v : _). Kept served number request len old before service far v) (sym f) s)

-- A TRY THAT LOSES something
pub goes_on : {V : Type 0} (served : V → Request → Result Served ServeErr → List ℕ → V → Type 0) (number : ℕ) (request : Request) (out_old out_new : List ℕ) (old mid new : Moment V) (tries : ℕ) → is_new number old.far.last ≡ true
    → Stands served number request (length out_old) old tries mid → Tries served number request mid new out_old out_new None → Stands served number request (length out_old) old (tries + 1) new
goes_on served number request out_old out_new old mid new tries fresh s (inl t, out) = record {
  lost = one_more tries old.link mid.link new.link s.lost (inl t.link);
  service = s.service;
  stands = same_stands served number request (length out_old) old.far mid.far new.far old.value mid.value new.value s.service t.far t.value s.stands;
}
goes_on served number request out_old out_new old mid new tries fresh s (inr t, out) =
    let a = arrived served number request (length out_old) old.far mid.far new.far old.value mid.value new.value s.service fresh s.stands t.takes in
    record {
      lost = one_more tries old.link mid.link new.link s.lost (inr (t.mid, t.there, t.back));
      service = Some a.0;
      stands = a.1;
    }

-- the call
abbrev pub made : {V : Type 0} → ℕ → Request → Option Service → Result Served LinkErr → Moment V → Moment V → List ℕ → List ℕ → Call V
made number request service result old new out_old out_new = record {
  request = request;
  service = service;
  result = result;
  before = record { link = old.link; next = number; last = old.far.last };
  after = record { link = new.link; next = number + 1; last = new.far.last };
  value_before = old.value;
  value_after = new.value;
  out_before = out_old;
  out_after = out_new;
}

-- what it did, where the end keeps its reply
did_so : {V : Type 0} (served : V → Request → Result Served ServeErr → List ℕ → V → Type 0) (number : ℕ) (request : Request) (result : Result Served LinkErr) (old new : Moment V) (out_old out_new : List ℕ) (s : Service)
    → Kept served number request (length out_old) old.far old.value s new.far new.value → Did served (made number request (Some s) result old new out_old out_new) (Some s)
did_so served number request result old new out_old out_new s k = (k.served_so, k.long, rw k.fed k.keeps.last)

-- ALL TRIES LOST something
lost_by : {V : Type 0} (served : V → Request → Result Served ServeErr → List ℕ → V → Type 0) (number : ℕ) (request : Request) (old new : Moment V) (out_old out_new : List ℕ) (service : Option Service) → out_new ≡ out_old → LoseAll TRIES old.link new.link
    → StandsBy served number request (length out_old) old.far old.value service new.far new.value
    → IsSent served (made number request service (Err (errs.Link new.link.count)) old new out_old out_new)
lost_by served number request old new out_old out_new None out lost s = record {
  did = (s.1, ap (λ (e : ServerSeen). e.last) s.0);
  ended = inl (record { result = refl; tries = lost; kept = tt; out = out });
}
lost_by served number request old new out_old out_new (Some service) out lost s = record {
  did = did_so served number request (Err (errs.Link new.link.count)) old new out_old out_new service s;
  ended = inl (record { result = refl; tries = lost; kept = s.fed; out = out });
}

pub all_lost_so : {V : Type 0} (served : V → Request → Result Served ServeErr → List ℕ → V → Type 0) (number : ℕ) (request : Request) (old new : Moment V) (out_old out_new : List ℕ) → out_new ≡ out_old → Stands served number request (length out_old) old TRIES new
    → (service : Option Service) × IsSent served (made number request service (Err (errs.Link new.link.count)) old new out_old out_new)
all_lost_so served number request old new out_old out_new out s = (s.service, lost_by served number request old new out_old out_new s.service out s.lost s.stands)

-- what was read, and what its caller has of it
eq_self : (n : ℕ) → eqb n n ≡ true
eq_self n = eq-eqb n n refl

shown_of_answer : (number caller : ℕ) (answer : Answer) (place : ℕ) (bytes out : List ℕ) (r : ReturnedSeen) → reply_of number caller (Ok (record { answer = answer; place = place })) bytes ≡ Some r → length bytes ≡ length out
    → shown_by r out ≡ shown (Ok (record { answer = answer; place = place })) bytes out
shown_of_answer number caller answers.Bytes place bytes out r e long =
    let is : record { number = number; caller = caller; kind = 0; value = 0; disk = 0; place = place; rest = bytes } ≡ r = cc in
    ap (λ (x : ReturnedSeen). shown_by x out) (sym is) ∙ rw (long, eq_self (length out)) refl
shown_of_answer number caller answers.Done place bytes out r e long =
    let is : record { number = number; caller = caller; kind = 1; value = 0; disk = 0; place = place; rest = [] } ≡ r = cc in
    ap (λ (x : ReturnedSeen). shown_by x out) (sym is)
shown_of_answer number caller (answers.Life life) place bytes out r e long =
    let is : record { number = number; caller = caller; kind = 2; value = life; disk = 0; place = place; rest = [] } ≡ r = cc in
    ap (λ (x : ReturnedSeen). shown_by x out) (sym is)
shown_of_answer number caller (answers.Revoked life) place bytes out r e long =
    let is : record { number = number; caller = caller; kind = 3; value = life; disk = 0; place = place; rest = [] } ≡ r = cc in
    ap (λ (x : ReturnedSeen). shown_by x out) (sym is)

pub shown_so : (number caller : ℕ) (answer : Result Served ServeErr) (bytes out : List ℕ) (r : ReturnedSeen) → reply_of number caller answer bytes ≡ Some r → length bytes ≡ length out → shown_by r out ≡ shown answer bytes out
shown_so number caller (Ok served) bytes out r e long = shown_of_answer number caller served.answer served.place bytes out r e long
shown_so number caller (Err (refusals.StoreFault disk count)) bytes out r e long = let is : record { number = number; caller = caller; kind = 4; value = count; disk = disk; place = 0; rest = [] } ≡ r = cc in ap (λ (x : ReturnedSeen). shown_by x out) (sym is)
shown_so number caller (Err refusals.TrailFull) bytes out r e long = let is : record { number = number; caller = caller; kind = 5; value = 0; disk = 0; place = 0; rest = [] } ≡ r = cc in ap (λ (x : ReturnedSeen). shown_by x out) (sym is)
shown_so number caller (Err refusals.Memory) bytes out r e long = absurd cc

-- A REPLY CAME: it is the one that the end keeps
came_by : {V : Type 0} (served : V → Request → Result Served ServeErr → List ℕ → V → Type 0) (number : ℕ) (request : Request) (old mid new : Moment V) (out_old out_new : List ℕ) (tries : ℕ) (result : Result Served LinkErr) (s : Service) → tries < TRIES
    → LoseAll tries old.link mid.link → Returns served number request (length out_old) mid new out_old out_new result
    → Kept served number request (length out_old) old.far old.value s new.far new.value
    → IsSent served (made number request (Some s) result old new out_old out_new)
came_by served number request old mid new out_old out_new tries result s few lost t k =
    let r = k.keeps.reply in
    let same : t.returned ≡ r.returned = (let e = t.read in let f = r.read in cc) in
    let answer : result ≡ answer_to s.answer = (let e = t.answer ∙ ap (λ (x : ReturnedSeen). result_of x (length out_old)) same ∙ sym (ap (result_of r.returned) k.long) ∙ r.answer in cc) in
    let out : out_new ≡ shown s.answer s.bytes out_old = t.out ∙ ap (λ (x : ReturnedSeen). shown_by x out_old) same ∙ shown_so number new.far.caller s.answer s.bytes out_old r.returned r.is k.long in
    record {
      did = did_so served number request result old new out_old out_new s k;
      ended = inr (inr (record {
        service = s;
        is = refl;
        result = answer;
        fed = k.fed;
        mid = mid.link;
        earlier = record { tries = tries; few = few; lost = lost };
        arrived = (t.mid, t.there, t.back);
        out = out;
      }));
    }

-- MEMORY RAN OUT in the service
starved_if : {V : Type 0} (served : V → Request → Result Served ServeErr → List ℕ → V → Type 0) (number : ℕ) (request : Request) (old mid new : Moment V) (out_old out_new : List ℕ) (tries : ℕ) (result : Result Served LinkErr) (service : Option Service) (b : Bool) → is_new number mid.far.last ≡ b
    → is_new number old.far.last ≡ true → tries < TRIES → LoseAll tries old.link mid.link → StandsBy served number request (length out_old) old.far old.value service mid.far mid.value
    → Sends false mid.link new.link → TakesIf b served number request (length out_old) true mid.far new.far mid.value new.value → result ≡ Err errs.Memory → out_new ≡ out_old
    → (s : Option Service) × IsSent served (made number request s result old new out_old out_new)
starved_if served number request old mid new out_old out_new tries result service false is fresh few lost s there takes answer out = absurd (let e = takes.0 in cc)
starved_if served number request old mid new out_old out_new tries result (Some service) true is fresh few lost s there takes answer out = absurd (let e = old_number number mid.far.last s.keeps.last in cc)
starved_if served number request old mid new out_old out_new tries result None true is fresh few lost s there (service, does, long, (memory, same)) answer out = (
  Some service,
  record {
    did = (
      subst (λ (v : _). served v request service.answer service.bytes new.value) s.1 does,
      long,
      rw memory (ap (λ (e : ServerSeen). e.last) (same ∙ s.0)),
    );
    ended = inr (inl (record {
      result = answer;
      service = service;
      is = refl;
      starved = memory;
      mid = mid.link;
      earlier = record { tries = tries; few = few; lost = lost };
      arrived = there;
      out = out;
    }));
  },
)

-- A TRY THAT ANSWERS
pub answers_so : {V : Type 0} (served : V → Request → Result Served ServeErr → List ℕ → V → Type 0) (number : ℕ) (request : Request) (old mid new : Moment V) (out_old out_new : List ℕ) (tries : ℕ) (result : Result Served LinkErr) → is_new number old.far.last ≡ true → tries < TRIES
    → Stands served number request (length out_old) old tries mid → Tries served number request mid new out_old out_new (Some result)
    → (s : Option Service) × IsSent served (made number request s result old new out_old out_new)
answers_so served number request old mid new out_old out_new tries result fresh few s (inl (t, out)) =
    starved_if served number request old mid new out_old out_new tries result s.service (is_new number mid.far.last) refl fresh few s.lost s.stands t.there t.takes t.answer out
answers_so served number request old mid new out_old out_new tries result fresh few s (inr t) =
    let a = arrived served number request (length out_old) old.far mid.far new.far old.value mid.value new.value s.service fresh s.stands t.takes in
    (Some a.0, came_by served number request old mid new out_old out_new tries result a.0 few s.lost t a.1)

-- the same, where the try's `out` and its answer are known by equations
pub goes_on_by : {V : Type 0} (served : V → Request → Result Served ServeErr → List ℕ → V → Type 0) (number : ℕ) (request : Request) (out_old out_mid out_new : List ℕ) (old mid new : Moment V) (tries : ℕ) (answer : Option (Result Served LinkErr)) → is_new number old.far.last ≡ true
    → out_mid ≡ out_old → answer ≡ None → Stands served number request (length out_old) old tries mid → Tries served number request mid new out_mid out_new answer → Stands served number request (length out_old) old (tries + 1) new
goes_on_by served number request out_old out_mid out_new old mid new tries answer fresh same none s t =
    goes_on served number request out_old out_new old mid new tries fresh s (subst (λ (a : Option (Result Served LinkErr)). Tries served number request mid new out_old out_new a) none (subst (λ (o : List ℕ). Tries served number request mid new o out_new answer) same t))

pub out_kept : {V : Type 0} (served : V → Request → Result Served ServeErr → List ℕ → V → Type 0) (number : ℕ) (request : Request) (out_old out_mid out_new : List ℕ) (mid new : Moment V) (answer : Option (Result Served LinkErr))
    → out_mid ≡ out_old → answer ≡ None → Tries served number request mid new out_mid out_new answer → out_new ≡ out_old
out_kept served number request out_old out_mid out_new mid new answer same none t =
    let u = subst (λ (a : Option (Result Served LinkErr)). Tries served number request mid new out_mid out_new a) none t in
    u.1 ∙ same

pub answers_by : {V : Type 0} (served : V → Request → Result Served ServeErr → List ℕ → V → Type 0) (number : ℕ) (request : Request) (out_old out_mid out_new : List ℕ) (old mid new : Moment V) (tries : ℕ) (answer : Option (Result Served LinkErr)) (result : Result Served LinkErr) → is_new number old.far.last ≡ true
    → tries < TRIES → out_mid ≡ out_old → answer ≡ Some result → Stands served number request (length out_old) old tries mid → Tries served number request mid new out_mid out_new answer
    → (s : Option Service) × IsSent served (made number request s result old new out_old out_new)
answers_by served number request out_old out_mid out_new old mid new tries answer result fresh few same some s t =
    answers_so served number request old mid new out_old out_new tries result fresh few s (subst (λ (a : Option (Result Served LinkErr)). Tries served number request mid new out_old out_new a) some (subst (λ (o : List ℕ). Tries served number request mid new o out_new answer) same t))

-- the end's caller is the same
caller_takes : {V : Type 0} (served : V → Request → Result Served ServeErr → List ℕ → V → Type 0) (number : ℕ) (request : Request) (len : ℕ) (lacked b : Bool) (old new : ServerSeen) (before after : V) → TakesIf b served number request len lacked old new before after → new.caller ≡ old.caller
caller_takes served number request len true true old new before after t = ap (λ (e : ServerSeen). e.caller) t.3.1
caller_takes served number request len false true old new before after t = t.3.2
caller_takes served number request len lacked false old new before after t = ap (λ (e : ServerSeen). e.caller) t.1

pub caller_tries : {V : Type 0} (served : V → Request → Result Served ServeErr → List ℕ → V → Type 0) (number : ℕ) (request : Request) (old new : Moment V) (out_old out_new : List ℕ) (answer : Option (Result Served LinkErr)) → Tries served number request old new out_old out_new answer → new.far.caller ≡ old.far.caller
caller_tries served number request old new out_old out_new None (inl t, out) = ap (λ (e : ServerSeen). e.caller) t.far
caller_tries served number request old new out_old out_new None (inr t, out) = caller_takes served number request (length out_old) false (is_new number old.far.last) old.far new.far old.value new.value t.takes
caller_tries served number request old new out_old out_new (Some result) (inl (t, out)) = caller_takes served number request (length out_old) true (is_new number old.far.last) old.far new.far old.value new.value t.takes
caller_tries served number request old new out_old out_new (Some result) (inr t) = caller_takes served number request (length out_old) false (is_new number old.far.last) old.far new.far old.value new.value t.takes
