-- One more event for a caller, in the list of the counters.
use Rattle.std.proofs.Common.{◌≡◌, ℕ, zero, suc, ◌+◌, ◌<◌, Bool, true, false, cond, eqb, ltb, List, [], ◌∷◌, ◌++◌, length, get_or, set, Some, None, refl, sym, ap, ◌∙◌, arith}
use Rattle.std.specs.List.{position, position_or_len}
use Rattle.std.proofs.lemmas.Bool.{ltb-false}
use Rattle.std.proofs.lemmas.List.Sums.{fails_before_first}
use Rattle.std.proofs.lemmas.List.Quantifiers.{position-Some}
use Rattle.std.proofs.lemmas.Bool.Decides.{nat_tests}
use Rattle.tower_log.specs.declared.counters.Counter.{Counter}
use Rattle.tower_log.specs.Counters.{count_of}

-- the counter at the first place of a caller tells its count
pub count_of-at : (list : List Counter) (place caller : ℕ) (d : Counter) → place < length list → eqb (get_or list place d).caller caller ≡ true → ((k : ℕ) → k < place → eqb (get_or list k d).caller caller ≡ false)
    → count_of list caller ≡ (get_or list place d).count
count_of-at [] place caller d lt is before = absurd (omega arith)
count_of-at (counter ∷ list) zero caller d lt is before = ap (λ b. cond b counter.count (count_of list caller)) is
count_of-at (counter ∷ list) (suc place) caller d lt is before =
    ap (λ b. cond b counter.count (count_of list caller)) (before 0 (omega arith)) ∙ count_of-at list place caller d (omega arith) is (λ k h. before (suc k) (omega arith))

step-here : (b : Bool) (n m : ℕ) → cond b (n + 1) m ≡ cond b n m + cond b 1 0
step-here true n m = refl
step-here false n m = omega arith

other-caller : (x caller c : ℕ) → eqb x caller ≡ false → eqb x c ≡ true → eqb caller c ≡ false
other-caller x caller c other same = grind (arith, nat_tests)

-- past another caller's counter
step-past : (b : Bool) (n m m' k : ℕ) → (b ≡ true → k ≡ 0) → m' ≡ m + k → cond b n m' ≡ cond b n m + k
step-past true n m m' k here e = let z = here refl in omega arith
step-past false n m m' k here e = e

-- that counter, with one more
pub count_of-more : (list : List Counter) (place caller n c : ℕ) (d : Counter) → place < length list → eqb (get_or list place d).caller caller ≡ true → ((k : ℕ) → k < place → eqb (get_or list k d).caller caller ≡ false)
    → n ≡ (get_or list place d).count + 1 → count_of (set list place (record { caller = (get_or list place d).caller; count = n })) c ≡ count_of list c + cond (eqb caller c) 1 0
count_of-more [] place caller n c d lt is before e = absurd (omega arith)
count_of-more (counter ∷ list) zero caller n c d lt is before e =
    let same : counter.caller ≡ caller = grind (arith, nat_tests) in
    ap (λ m. cond (eqb counter.caller c) m (count_of list c)) e ∙ (step-here (eqb counter.caller c) counter.count (count_of list c)
    ∙ ap (λ m. cond (eqb counter.caller c) counter.count (count_of list c) + cond (eqb m c) 1 0) same)
count_of-more (counter ∷ list) (suc place) caller n c d lt is before e =
    step-past (eqb counter.caller c) counter.count (count_of list c) _ (cond (eqb caller c) 1 0)
    (λ here. ap (λ b. cond b 1 0) (other-caller counter.caller caller c (before 0 (omega arith)) here))
    (count_of-more list place caller n c d (omega arith) is (λ k h. before (suc k) (omega arith)) e)

-- a counter for a caller that had none
pub count_of-new : (list : List Counter) (caller c : ℕ) (d : Counter) → ((k : ℕ) → k < length list → eqb (get_or list k d).caller caller ≡ false)
    → count_of (list ++ record { caller = caller; count = 1 } ∷ []) c ≡ count_of list c + cond (eqb caller c) 1 0
count_of-new [] caller c d none = omega arith
count_of-new (counter ∷ list) caller c d none =
    step-past (eqb counter.caller c) counter.count (count_of list c) _ (cond (eqb caller c) 1 0)
    (λ here. ap (λ b. cond b 1 0) (other-caller counter.caller caller c (none 0 (omega arith)) here))
    (count_of-new list caller c d (λ k h. none (suc k) (omega arith)))

-- the same, where a search for the caller found the counter
pub count_of-found : (list : List Counter) (place caller : ℕ) (x : Counter) → Some place ≡ position (λ (counter : Counter). eqb counter.caller caller) list → x ≡ get_or list place x → count_of list caller ≡ x.count
count_of-found list place caller x found is =
    let at = position-Some (λ (counter : Counter). eqb counter.caller caller) list place x (sym found) in
    count_of-at list place caller x at.0 at.1 at.2 ∙ ap (λ (counter : Counter). counter.count) (sym is)

pub count_of-raised : (list : List Counter) (place caller c : ℕ) (x : Counter) → Some place ≡ position (λ (counter : Counter). eqb counter.caller caller) list → x ≡ get_or list place x
    → count_of (set list place (record { caller = x.caller; count = x.count + 1 })) c ≡ count_of list c + cond (eqb caller c) 1 0
count_of-raised list place caller c x found is =
    let at = position-Some (λ (counter : Counter). eqb counter.caller caller) list place x (sym found) in
    ap (λ (y : Counter). count_of (set list place (record { caller = y.caller; count = y.count + 1 })) c) is
    ∙ count_of-more list place caller ((get_or list place x).count + 1) c x at.0 at.1 at.2 refl

not-some : (b : Bool) (n : ℕ) → None ≡ cond b (Some n) None → b ≡ false
not-some true n e = absurd cc
not-some false n e = refl

-- the same, where it found none
pub count_of-begun : (list : List Counter) (caller c : ℕ) → None ≡ position (λ (counter : Counter). eqb counter.caller caller) list
    → count_of (list ++ record { caller = caller; count = 1 } ∷ []) c ≡ count_of list c + cond (eqb caller c) 1 0
count_of-begun list caller c none =
    let is_by : Counter → Bool = λ counter. eqb counter.caller caller in
    let past = ltb-false (position_or_len is_by list) (length list) (not-some (ltb (position_or_len is_by list) (length list)) (position_or_len is_by list) none) in
    let some : Counter = record { caller = caller; count = 0 } in
    count_of-new list caller c some (λ k lt. fails_before_first is_by list k some (omega arith))
