-- What a carrier makes of a call, by what the call did to its link.
use Rattle.std.proofs.Common.{◌≡◌, ℕ, zero, suc, ◌+◌, ◌-◌, ◌/◌, ◌%◌, ◌<◌, Bool, true, false, ◌&&◌, cond, inl, inr, ◌⊎◌, List, length, Option, Some, None, Result, Ok, Err, refl, sym, ap, subst, ◌∙◌, arith}
use Rattle.std.specs.Prelude.{IfSome, ◌==◌}
use Rattle.std.proofs.lemmas.Bool.{and_parts}
use Rattle.link_lossy.specs.declared.request.Request.{Request}
use Rattle.link_lossy.specs.declared.serve.Served.{Served}
use Rattle.link_lossy.specs.declared.serve.ServeErr.{ServeErr}
use Rattle.link_lossy.specs.declared.refusal.LinkErr.{LinkErr}
use Rattle.link_lossy.specs.declared.refusal.LinkErr.TheVariants as errs
use Rattle.link_lossy.specs.declared.calling.TheConstants.{TRIES}
use Rattle.link_lossy.specs.Links.{LinkSeen, Sends, every_seen}
use Rattle.link_lossy.specs.Tries.{Arrives, LoseAll, all_lost, is_lost, packets_after, packets_before, sent_by}
use Rattle.link_lossy.specs.Services.{answer_to, is_memory, reply_of, result_of, shown}
use Rattle.link_lossy.specs.Seen.{ReturnedSeen}
use Rattle.link_lossy.specs.declared.serve.ServeErr.TheVariants as refusals
use Rattle.link_lossy.specs.Carriers.{Answers, Arrived, CarrierSeen, Comes, Fails, IsLost, Reaches, Starves, after_call, is_lost_by, link_of, loses, losses, with_packets}
use Rattle.link_lossy.proofs.Divisions.{same_number}
use Rattle.link_lossy.proofs.Losing.{by_reply, fate, not_all, told}

-- tries that are lost are behind one another: so many of them, and then more
pub lost_first : (test : ℕ → Bool) (packets tries more : ℕ) → all_lost test packets tries ≡ true → packets_after test packets (tries + more) ≡ packets_after test (packets_before test packets tries) more
unfolding all_lost packets_after packets_before
lost_first test packets zero more all = ap (packets_after test packets) (omega arith)
lost_first test packets (suc tries) more all =
    let both = and_parts (all_lost test packets tries) (is_lost test (packets_before test packets tries + 1)) all in
    ap (packets_after test packets) (omega arith) ∙ (lost_first test packets tries (suc more) both.0 ∙ rw (both.1) refl)

-- all of them
pub lost_all : (test : ℕ → Bool) (packets tries : ℕ) → all_lost test packets tries ≡ true → packets_after test packets tries ≡ packets_before test packets tries
unfolding packets_after
lost_all test packets tries all = let e : tries ≡ tries + zero = omega arith in ap (packets_after test packets) e ∙ lost_first test packets tries zero all

-- some of them, and then one that is not lost
pub lost_some : (test : ℕ → Bool) (packets all tries : ℕ) → tries < all → all_lost test packets tries ≡ true → is_lost test (packets_before test packets tries + 1) ≡ false
    → packets_after test packets all ≡ packets_before test packets tries + 2
unfolding packets_after
lost_some test packets all tries few lost came =
    let more : ℕ = all - suc tries in
    let e : tries + suc more ≡ all = omega arith in
    ap (packets_after test packets) (sym e) ∙ (lost_first test packets tries (suc more) lost ∙ rw came refl)

-- a link of the same test has the same number
pub every_is : (n m given other : ℕ) → (every_seen m other).loses ≡ (every_seen n given).loses → m ≡ n
every_is n m given other test = same_number m n other given test

packets_is : (n m p q : ℕ) → m ≡ n → p ≡ q → ◌≡◌ {A = CarrierSeen} (record { every = m; packets = p; waits = false }) (record { every = n; packets = q; waits = false })
packets_is n m p q e f = rw (e, f) refl

-- what the carrier is after a call that was lost
pub carried_lost : (old : CarrierSeen) (m other : ℕ) → LoseAll TRIES (link_of old) (every_seen m other)
    → (is_lost_by old ≡ true) × (◌≡◌ {A = CarrierSeen} (record { every = m; packets = other; waits = false }) (after_call old))
carried_lost old m other tries =
    let t = told (loses old) TRIES (link_of old) (every_seen m other) refl tries in
    (t.all, packets_is old.every m other (packets_after (loses old) old.packets TRIES) (every_is old.every m old.packets other t.test) (t.packets ∙ sym (lost_all (loses old) old.packets TRIES t.all)))

-- after one whose reply came
pub carried_back : (old : CarrierSeen) (m other tries : ℕ) (mid : LinkSeen) → tries < TRIES → LoseAll tries (link_of old) mid → Arrives mid (every_seen m other)
    → (is_lost_by old ≡ false) × (◌≡◌ {A = CarrierSeen} (record { every = m; packets = other; waits = false }) (after_call old))
carried_back old m other tries mid few earlier came =
    let first : LinkSeen = link_of old in
    let last : LinkSeen = every_seen m other in
    let test : ℕ → Bool = loses old in
    let t = told test tries first mid refl earlier in
    let one = fate test false mid came.0 t.test came.1 in
    let two = fate test false came.0 last (came.1.test ∙ t.test) came.2 ∙ ap (λ (n : ℕ). test (n + 1)) came.1.packets in
    let both = by_reply test (mid.packets + 1) false one two in
    let at : mid.packets ≡ packets_before test old.packets tries = t.packets in
    let gone : is_lost test (packets_before test old.packets tries + 1) ≡ false = subst (λ (n : ℕ). is_lost test (n + 1) ≡ false) at both.1 in
    let sent : other ≡ packets_before test old.packets tries + 2 = omega (arith, came.1.packets, came.2.packets, at) in (
      not_all test TRIES tries first mid last refl few earlier came,
      packets_is old.every m other (packets_after test old.packets TRIES) (every_is old.every m old.packets other (came.2.test ∙ came.1.test ∙ t.test)) (sent ∙ sym (lost_some test old.packets TRIES tries few t.all gone)),
    )

-- the request of a try arrived
pub carried_there : (old : CarrierSeen) (m other tries : ℕ) (mid : LinkSeen) → tries < TRIES → LoseAll tries (link_of old) mid → Sends false mid (every_seen m other)
    → Reaches old tries other × (m ≡ old.every)
carried_there old m other tries mid few earlier came =
    let first : LinkSeen = link_of old in
    let test : ℕ → Bool = loses old in
    let t = told test tries first mid refl earlier in
    let one = fate test false mid (every_seen m other) t.test came in
    let at : mid.packets ≡ packets_before test old.packets tries = t.packets in (
      record {
        few = few;
        lost = t.all;
        arrived = sym (subst (λ (n : ℕ). false ≡ test (n + 1)) at one);
        is = came.packets ∙ ap (λ (n : ℕ). n + 1) at;
      },
      every_is old.every m old.packets other (came.test ∙ t.test),
    )

-- a carrier's link as it was opened
pub link_is : (c : CarrierSeen) (n p : ℕ) (w : Bool) → ◌≡◌ {A = CarrierSeen} (record { every = n; packets = p; waits = w }) c → every_seen n p ≡ link_of c
link_is c n p w is = ap link_of is

pub lost_is : (old : CarrierSeen) (m other : ℕ) (r : Result Served LinkErr) → LoseAll TRIES (link_of old) (every_seen m other) → r ≡ Err (errs.Link (other / m))
    → IsLost old (record { every = m; packets = other; waits = false }) r
lost_is old m other r tries is =
    let both = carried_lost old m other tries in
    record { lost = both.0; carrier = both.1; result = is }

-- there is a reply exactly if memory did not run out
pub has_reply : (number caller : ℕ) (answer : Result Served ServeErr) (bytes : List ℕ) (r : ReturnedSeen) → reply_of number caller answer bytes ≡ Some r → is_memory answer ≡ false
has_reply number caller (Ok served) bytes r e = refl
has_reply number caller (Err (refusals.StoreFault disk count)) bytes r e = refl
has_reply number caller (Err refusals.TrailFull) bytes r e = refl
has_reply number caller (Err refusals.Memory) bytes r e = absurd cc

pub has_none : (number caller : ℕ) (answer : Result Served ServeErr) (bytes : List ℕ) → reply_of number caller answer bytes ≡ None → is_memory answer ≡ true
has_none number caller (Ok served) bytes e = absurd cc
has_none number caller (Err (refusals.StoreFault disk count)) bytes e = absurd cc
has_none number caller (Err refusals.TrailFull) bytes e = absurd cc
has_none number caller (Err refusals.Memory) bytes e = refl

-- the carrier after a call for which memory lacked as it was served
pub starves_is : (old self : CarrierSeen) (n p : ℕ) (w : Bool) (tries : ℕ) → ◌≡◌ {A = CarrierSeen} (record { every = n; packets = p; waits = w }) self → Arrived old tries self → Starves old (record { every = n; packets = p; waits = false })
starves_is old self n p w tries is a =
    let came : Sends false a.mid (every_seen n p) = subst (λ (x : LinkSeen). Sends false a.mid x) (sym (link_is self n p w is)) a.came in
    let both = carried_there old n p tries a.mid a.few a.lost came in
    record { tries = tries; packets = p; reaches = both.0; is = packets_is old.every n p p both.1 refl }

-- how a call ends whose request arrived: its reply comes, or each try is lost
pub ends_lost : (old self : CarrierSeen) (n p : ℕ) (w : Bool) (tries m other : ℕ) (served : Result Served ServeErr) (out : List ℕ) (r : Result Served LinkErr) (came : Bool) → is_memory served ≡ false → ◌≡◌ {A = CarrierSeen} (record { every = n; packets = p; waits = w }) self → Arrived old tries self
    → ((first mid : LinkSeen) → LoseAll tries first mid → Sends false mid (every_seen n p) → Comes first came (every_seen m other)) → came ≡ false → r ≡ Err (errs.Link (other / m))
    → Answers (is_memory served) old (record { every = m; packets = other; waits = false }) served out out r
ends_lost old self n p w tries m other served out r came fed is a tells lost answer =
    let there : Sends false a.mid (every_seen n p) = subst (λ (x : LinkSeen). Sends false a.mid x) (sym (link_is self n p w is)) a.came in
    let all : LoseAll TRIES (link_of old) (every_seen m other) = subst (λ (b : Bool). Comes (link_of old) b (every_seen m other)) lost (tells (link_of old) a.mid a.lost there) in
    subst (λ (b : Bool). Answers b old (record { every = m; packets = other; waits = false }) served out out r) (sym fed) (inl (lost_is old m other r all answer, refl))

pub ends_back : (old self : CarrierSeen) (n p : ℕ) (w : Bool) (tries m other : ℕ) (served : Result Served ServeErr) (out_old out_new : List ℕ) (r : Result Served LinkErr) (came : Bool) → is_memory served ≡ false → ◌≡◌ {A = CarrierSeen} (record { every = n; packets = p; waits = w }) self → Arrived old tries self
    → ((first mid : LinkSeen) → LoseAll tries first mid → Sends false mid (every_seen n p) → Comes first came (every_seen m other)) → came ≡ true → r ≡ answer_to served → out_new ≡ shown served out_old out_old
    → Answers (is_memory served) old (record { every = m; packets = other; waits = false }) served out_old out_new r
ends_back old self n p w tries m other served out_old out_new r came fed is a tells arrives answer out =
    let there : Sends false a.mid (every_seen n p) = subst (λ (x : LinkSeen). Sends false a.mid x) (sym (link_is self n p w is)) a.came in
    let k = subst (λ (b : Bool). Comes (link_of old) b (every_seen m other)) arrives (tells (link_of old) a.mid a.lost there) in
    let both = carried_back old m other k.0 k.2.0 k.1 k.2.1 k.2.2 in
    subst (λ (b : Bool). Answers b old (record { every = m; packets = other; waits = false }) served out_old out_new r) (sym fed)
    (inr (record { came = both.0; carrier = both.1; result = answer; out = out }))
