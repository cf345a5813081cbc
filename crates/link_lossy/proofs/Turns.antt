-- What follows for calls that are made in turn.
use Rattle.std.proofs.Common.{◌≡◌, ◌≢◌, ℕ, ◌+◌, ◌<◌, ◌≤◌, Bool, true, false, cond, inl, inr, List, [], ◌∷◌, ◌++◌, Some, Result, Ok, Err, refl, ap, subst, ◌∙◌, arith}
use Rattle.std.specs.Prelude.{◌⊎◌, is_some}
use Rattle.std.specs.List.{AllByRecursion}
use Rattle.link_lossy.specs.declared.request.Request.{Request}
use Rattle.link_lossy.specs.declared.serve.Served.{Served}
use Rattle.link_lossy.specs.declared.serve.ServeErr.{ServeErr}
use Rattle.link_lossy.specs.declared.serve.ServeErr.TheVariants as refusals
use Rattle.link_lossy.specs.declared.refusal.LinkErr.TheVariants as errs
use Rattle.link_lossy.specs.declared.calling.TheConstants.{TRIES}
use Rattle.link_lossy.specs.Services.{answer_to}
use Rattle.link_lossy.specs.Calls.{AnswersIts, Begins, Call, Came, Did, Ended, IsCall, Rises, Unsent, Wire, count_in, counts_told, is_link, numbers_served}
use Rattle.link_lossy.proofs.Losing.{passed}
use Rattle.link_lossy.proofs.Ending.{bounds}

-- numbers of which each is above all before it, and all are at least this one
record RisesFrom (least : ℕ) (numbers : List ℕ) : Type 0 where
  pub rises : Rises numbers
  pub from : AllByRecursion (λ n. least ≤ n) numbers

weaker : (low high : ℕ) (numbers : List ℕ) → low ≤ high → AllByRecursion (λ n. high ≤ n) numbers → AllByRecursion (λ n. low ≤ n) numbers
weaker low high [] below all = tt
weaker low high (n ∷ ns) below all = (omega (arith, all.0), weaker low high ns below all.1)

above : (low high : ℕ) (numbers : List ℕ) → low < high → AllByRecursion (λ n. high ≤ n) numbers → AllByRecursion (λ n. low < n) numbers
above low high [] below all = tt
above low high (n ∷ ns) below all = (omega (arith, all.0), above low high ns below all.1)

lower : (low high : ℕ) (numbers : List ℕ) → low ≤ high → RisesFrom high numbers → RisesFrom low numbers
lower low high numbers below r = record { rises = r.rises; from = weaker low high numbers below r.from }

in_front : (low n high : ℕ) (numbers : List ℕ) → low ≤ n → n < high → RisesFrom high numbers → RisesFrom low (n ∷ numbers)
in_front low n high numbers least below r = record {
  rises = (above n high numbers below r.from, r.rises);
  from = (least, weaker low high numbers (omega arith) r.from);
}

-- THE NUMBERS THAT WERE SERVED
number_if : (served : Bool) (low high : ℕ) (numbers : List ℕ) → low < high → RisesFrom high numbers → RisesFrom low ((cond served (low ∷ []) []) ++ numbers)
number_if true low high numbers below r = in_front low low high numbers (omega arith) below r
number_if false low high numbers below r = lower low high numbers (omega arith) r

numbers_from : {V : Type 0} (served : V → Request → Result Served ServeErr → List ℕ → V → Type 0) (wire : Wire) (calls : List (Call V)) → Begins wire calls → AllByRecursion (IsCall served) calls → RisesFrom wire.next (numbers_served calls)
numbers_from served wire [] begins are = record { rises = tt; from = tt }
numbers_from served wire (c ∷ cs) begins are =
    let rest = numbers_from served c.after cs begins.1 are.1 in
    let r = number_if (is_some c.service) c.before.next c.after.next (numbers_served cs) (omega (arith, are.0.number)) rest in
    subst (λ (n : ℕ). RisesFrom n (numbers_served (c ∷ cs))) (ap (λ (w : Wire). w.next) begins.0) r

pub numbers_rise : {V : Type 0} (served : V → Request → Result Served ServeErr → List ℕ → V → Type 0) (wire : Wire) (calls : List (Call V)) → Begins wire calls → AllByRecursion (IsCall served) calls → Rises (numbers_served calls)
numbers_rise served wire calls begins are = (numbers_from served wire calls begins are).rises

-- THE COUNTS THAT WERE TOLD
no_count : (answer : Result Served ServeErr) → count_in (answer_to answer) ≡ []
no_count (Ok served) = refl
no_count (Err (refusals.StoreFault disk count)) = refl
no_count (Err refusals.TrailFull) = refl
no_count (Err refusals.Memory) = refl

-- counts that rise from one on, where none of it was told
none_told : {V : Type 0} (c : Call V) (told counts : List ℕ) → told ≡ [] → c.before.link.count ≤ c.after.link.count → RisesFrom (c.after.link.count + 1) counts → RisesFrom (c.before.link.count + 1) (told ++ counts)
none_told c told counts none below r = rw none (lower (c.before.link.count + 1) (c.after.link.count + 1) counts (omega arith) r)

count_by : {V : Type 0} (c : Call V) (counts : List ℕ) → Unsent c ⊎ Ended c → RisesFrom (c.after.link.count + 1) counts → RisesFrom (c.before.link.count + 1) (count_in c.result ++ counts)
count_by c counts (inl u) r = none_told c (count_in c.result) counts (ap count_in u.result) (rw u.link (omega arith)) r
count_by c counts (inr (inl l)) r =
    let p = passed TRIES c.before.link c.after.link l.tries in
    rw (ap count_in l.result) (in_front (c.before.link.count + 1) c.after.link.count (c.after.link.count + 1) counts (omega (arith, p.count)) (omega arith) r)
count_by c counts (inr (inr (inl s))) r = none_told c (count_in c.result) counts (ap count_in s.result) (bounds c (inr (inl s))).count r
count_by c counts (inr (inr (inr a))) r = none_told c (count_in c.result) counts (ap count_in a.result ∙ no_count a.service.answer) (bounds c (inr (inr a))).count r

counts_from : {V : Type 0} (served : V → Request → Result Served ServeErr → List ℕ → V → Type 0) (wire : Wire) (calls : List (Call V)) → Begins wire calls → AllByRecursion (IsCall served) calls → RisesFrom (wire.link.count + 1) (counts_told calls)
counts_from served wire [] begins are = record { rises = tt; from = tt }
counts_from served wire (c ∷ cs) begins are =
    let rest = counts_from served c.after cs begins.1 are.1 in
    let r = count_by c (counts_told cs) are.0.ended rest in
    subst (λ (n : ℕ). RisesFrom (n + 1) (counts_told (c ∷ cs))) (ap (λ (w : Wire). w.link.count) begins.0) r

pub counts_rise : {V : Type 0} (served : V → Request → Result Served ServeErr → List ℕ → V → Type 0) (wire : Wire) (calls : List (Call V)) → Begins wire calls → AllByRecursion (IsCall served) calls → Rises (counts_told calls)
counts_rise served wire calls begins are = (counts_from served wire calls begins are).rises

-- AN ANSWER IS ITS SERVICE'S
its : {V : Type 0} (served : V → Request → Result Served ServeErr → List ℕ → V → Type 0) (c : Call V) → Did served c c.service → Came c → AnswersIts served c
its served c did a =
    let d : Did served c (Some a.service) = subst (Did served c) a.is did in
    record { service = a.service; is = a.is; did = d.0; result = a.result; out = a.out }

its_by : {V : Type 0} (served : V → Request → Result Served ServeErr → List ℕ → V → Type 0) (c : Call V) → Did served c c.service → Unsent c ⊎ Ended c → is_link c.result ≡ false → c.result ≢ Err errs.Memory → AnswersIts served c
its_by served c did (inl u) known enough = absurd (enough u.result)
its_by served c did (inr (inl l)) known enough = absurd (let e = ap is_link l.result in cc)
its_by served c did (inr (inr (inl s))) known enough = absurd (enough s.result)
its_by served c did (inr (inr (inr a))) known enough = its served c did a

pub answers_its : {V : Type 0} (served : V → Request → Result Served ServeErr → List ℕ → V → Type 0) (c : Call V) → IsCall served c → is_link c.result ≡ false → c.result ≢ Err errs.Memory → AnswersIts served c
answers_its served c is known enough = its_by served c is.did is.ended known enough
