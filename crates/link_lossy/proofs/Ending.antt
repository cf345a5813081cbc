-- What follows from how a call ends.
use Rattle.std.proofs.Common.{◌≡◌, ◌≢◌, ℕ, ◌+◌, ◌≤◌, Bool, true, false, cond, ltb, inl, inr, List, Option, Some, None, Result, Ok, Err, refl, sym, ap, subst, ◌∙◌, arith}
use Rattle.std.specs.Prelude.{IfSome}
use Rattle.std.proofs.lemmas.Bool.Decides.{nat_tests}
use Rattle.link_lossy.specs.declared.request.Request.{Request}
use Rattle.link_lossy.specs.declared.serve.Served.{Served}
use Rattle.link_lossy.specs.declared.serve.ServeErr.{ServeErr}
use Rattle.link_lossy.specs.declared.serve.ServeErr.TheVariants as refusals
use Rattle.link_lossy.specs.declared.refusal.LinkErr.{LinkErr}
use Rattle.link_lossy.specs.declared.refusal.LinkErr.TheVariants as errs
use Rattle.link_lossy.specs.declared.calling.TheConstants.{TRIES}
use Rattle.link_lossy.specs.Links.{LinkSeen}
use Rattle.link_lossy.specs.Tries.{all_lost}
use Rattle.link_lossy.specs.Services.{Service, answer_to}
use Rattle.link_lossy.specs.Ends.{is_new}
use Rattle.link_lossy.specs.Calls.{Call, Did, Ended, IsCall, IsSent, IsTold, is_link, lacked}
use Rattle.link_lossy.proofs.Losing.{not_all, passed, told}

-- no answer to a service is that the link lost it
not_link : (answer : Result Served ServeErr) → is_link (answer_to answer) ≡ false
not_link (Ok served) = refl
not_link (Err (refusals.StoreFault disk count)) = refl
not_link (Err refusals.TrailFull) = refl
not_link (Err refusals.Memory) = refl

told_by : {V : Type 0} (c : Call V) (loses : ℕ → Bool) → c.before.link.loses ≡ Some loses → Ended c → c.result ≢ Err errs.Memory → is_link c.result ≡ all_lost loses c.before.link.packets TRIES
told_by c loses is (inl l) enough = ap is_link l.result ∙ sym (told loses TRIES c.before.link c.after.link is l.tries).all
told_by c loses is (inr (inl s)) enough = absurd (enough s.result)
told_by c loses is (inr (inr r)) enough =
    ap is_link r.result ∙ not_link r.service.answer ∙ sym (not_all loses TRIES r.earlier.tries c.before.link r.mid c.after.link is r.earlier.few r.earlier.lost r.arrived)

told_if : {V : Type 0} (c : Call V) (o : Option (ℕ → Bool)) → c.before.link.loses ≡ o → Ended c → IfSome o (λ loses. c.result ≢ Err errs.Memory → is_link c.result ≡ all_lost loses c.before.link.packets TRIES)
told_if c None is ended = tt
told_if c (Some loses) is ended = told_by c loses is ended

pub told_of : {V : Type 0} (c : Call V) → Ended c → IsTold c.before.link c.result
told_of c ended = told_if c c.before.link.loses refl ended

-- what a call does to its link
pub record Bounds (before after : LinkSeen) : Type 0 where
  pub test : after.loses ≡ before.loses
  pub least : before.packets ≤ after.packets
  pub most : after.packets ≤ before.packets + 16
  pub count : before.count ≤ after.count

pub bounds : {V : Type 0} (c : Call V) → Ended c → Bounds c.before.link c.after.link
bounds c (inl l) =
    let p = passed TRIES c.before.link c.after.link l.tries in
    record { test = p.test; least = p.least; most = omega (arith, p.most); count = omega (arith, p.count) }
bounds c (inr (inl s)) =
    let p = passed s.earlier.tries c.before.link s.mid s.earlier.lost in
    record { test = s.arrived.test ∙ p.test; least = omega (arith, p.least, s.arrived.packets); most = omega (arith, p.most, s.arrived.packets, s.earlier.few); count = omega (arith, p.count, s.arrived.count) }
bounds c (inr (inr r)) =
    let p = passed r.earlier.tries c.before.link r.mid r.earlier.lost in
    let one = r.arrived.1 in
    let two = r.arrived.2 in
    record { test = two.test ∙ one.test ∙ p.test; least = omega (arith, p.least, one.packets, two.packets); most = omega (arith, p.most, one.packets, two.packets, r.earlier.few); count = omega (arith, p.count, one.count, two.count) }

above : (number : ℕ) (last : Option ℕ) → is_new number last ≡ true → is_new (number + 1) last ≡ true
above number None fresh = refl
above number (Some last) fresh = let low : ltb last number ≡ true = fresh in let high : ltb last (number + 1) ≡ true = grind (arith, nat_tests, low) in high

later_if : (number : ℕ) (before : Option ℕ) (lacks : Bool) → is_new number before ≡ true → is_new (number + 1) (cond lacks before (Some number)) ≡ true
later_if number before true fresh = above number before fresh
later_if number before false fresh = let high : ltb number (number + 1) ≡ true = grind (arith, nat_tests) in high

later_by : {V : Type 0} (served : V → Request → Result Served ServeErr → List ℕ → V → Type 0) (c : Call V) (service : Option Service) → Did served c service → is_new c.before.next c.before.last ≡ true → is_new (c.before.next + 1) c.after.last ≡ true
later_by served c None did fresh = subst (λ (o : Option ℕ). is_new (c.before.next + 1) o ≡ true) (sym did.1) (above c.before.next c.before.last fresh)
later_by served c (Some s) did fresh = subst (λ (o : Option ℕ). is_new (c.before.next + 1) o ≡ true) (sym did.2) (later_if c.before.next c.before.last (lacked s) fresh)

-- the next number is new again
pub later_of : {V : Type 0} (served : V → Request → Result Served ServeErr → List ℕ → V → Type 0) (c : Call V) → IsSent served c → is_new c.before.next c.before.last ≡ true → is_new (c.before.next + 1) c.after.last ≡ true
later_of served c sent fresh = later_by served c c.service sent.did fresh

-- a call that was sent, by the numbers of its caller's end
abbrev pub call_at : {V : Type 0} → Request → Option Service → Result Served LinkErr → LinkSeen → LinkSeen → ℕ → ℕ → Option ℕ → Option ℕ → V → V → List ℕ → List ℕ → Call V
call_at request service result old new number next last_old last_new before after out_old out_new = record {
  request = request;
  service = service;
  result = result;
  before = record { link = old; next = number; last = last_old };
  after = record { link = new; next = next; last = last_new };
  value_before = before;
  value_after = after;
  out_before = out_old;
  out_after = out_new;
}

pub with_next : {V : Type 0} (served : V → Request → Result Served ServeErr → List ℕ → V → Type 0) (request : Request) (result : Result Served LinkErr) (old new : LinkSeen) (last_old last_new : Option ℕ) (before after : V) (out_old out_new : List ℕ) (number n next : ℕ) → number ≡ n → next ≡ n + 1
    → (s : Option Service) × IsSent served (call_at request s result old new number (number + 1) last_old last_new before after out_old out_new)
    → (s : Option Service) × IsCall served (call_at request s result old new n next last_old last_new before after out_old out_new)
with_next served request result old new last_old last_new before after out_old out_new number n next is follows sent =
    let one = subst (λ (k : ℕ). (s : Option Service) × IsSent served (call_at request s result old new k (k + 1) last_old last_new before after out_old out_new)) is sent in
    let two = subst (λ (k : ℕ). (s : Option Service) × IsSent served (call_at request s result old new n k last_old last_new before after out_old out_new)) (sym follows) one in
    (two.0, record { number = follows; did = two.1.did; ended = inr two.1.ended })
