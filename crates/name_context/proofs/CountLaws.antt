-- One more entry for a caller, in the list of the counts.
use Rattle.std.proofs.Common.{◌≡◌, ℕ, zero, suc, ◌+◌, ◌<◌, Bool, true, false, cond, eqb, ltb, List, [], ◌∷◌, ◌++◌, length, get_or, set, Some, None, refl, sym, ap, ◌∙◌, arith}
use Rattle.std.specs.List.{position, position_or_len}
use Rattle.std.proofs.lemmas.Bool.{ltb-false}
use Rattle.std.proofs.lemmas.List.Sums.{fails_before_first}
use Rattle.std.proofs.lemmas.List.Quantifiers.{position-Some}
use Rattle.std.proofs.lemmas.Bool.Decides.{nat_tests}
use Rattle.name_context.specs.declared.history.Count.{Count}
use Rattle.name_context.specs.HistoryView.{count_in}

-- the first at the first place of a caller tells its count
pub count_in-at : (list : List Count) (place caller : ℕ) (d : Count) → place < length list → eqb (get_or list place d).caller caller ≡ true → ((k : ℕ) → k < place → eqb (get_or list k d).caller caller ≡ false)
    → count_in list caller ≡ (get_or list place d).count
count_in-at [] place caller d lt is before = absurd (omega arith)
count_in-at (first ∷ list) zero caller d lt is before = ap (λ b. cond b first.count (count_in list caller)) is
count_in-at (first ∷ list) (suc place) caller d lt is before =
    ap (λ b. cond b first.count (count_in list caller)) (before 0 (omega arith)) ∙ count_in-at list place caller d (omega arith) is (λ k h. before (suc k) (omega arith))

step-here : (b : Bool) (n m : ℕ) → cond b (n + 1) m ≡ cond b n m + cond b 1 0
step-here true n m = refl
step-here false n m = omega arith

other-caller : (x caller c : ℕ) → eqb x caller ≡ false → eqb x c ≡ true → eqb caller c ≡ false
other-caller x caller c other same = grind (arith, nat_tests)

-- past another caller's first
step-past : (b : Bool) (n m m' k : ℕ) → (b ≡ true → k ≡ 0) → m' ≡ m + k → cond b n m' ≡ cond b n m + k
step-past true n m m' k here e = let z = here refl in omega arith
step-past false n m m' k here e = e

-- that first, with one more
pub count_in-more : (list : List Count) (place caller n c : ℕ) (d : Count) → place < length list → eqb (get_or list place d).caller caller ≡ true → ((k : ℕ) → k < place → eqb (get_or list k d).caller caller ≡ false)
    → n ≡ (get_or list place d).count + 1 → count_in (set list place (record { caller = (get_or list place d).caller; count = n })) c ≡ count_in list c + cond (eqb caller c) 1 0
count_in-more [] place caller n c d lt is before e = absurd (omega arith)
count_in-more (first ∷ list) zero caller n c d lt is before e =
    let same : first.caller ≡ caller = grind (arith, nat_tests) in
    ap (λ m. cond (eqb first.caller c) m (count_in list c)) e ∙ (step-here (eqb first.caller c) first.count (count_in list c)
    ∙ ap (λ m. cond (eqb first.caller c) first.count (count_in list c) + cond (eqb m c) 1 0) same)
count_in-more (first ∷ list) (suc place) caller n c d lt is before e =
    step-past (eqb first.caller c) first.count (count_in list c) _ (cond (eqb caller c) 1 0)
    (λ here. ap (λ b. cond b 1 0) (other-caller first.caller caller c (before 0 (omega arith)) here))
    (count_in-more list place caller n c d (omega arith) is (λ k h. before (suc k) (omega arith)) e)

-- a first for a caller that had none
pub count_in-new : (list : List Count) (caller c : ℕ) (d : Count) → ((k : ℕ) → k < length list → eqb (get_or list k d).caller caller ≡ false)
    → count_in (list ++ record { caller = caller; count = 1 } ∷ []) c ≡ count_in list c + cond (eqb caller c) 1 0
count_in-new [] caller c d none = omega arith
count_in-new (first ∷ list) caller c d none =
    step-past (eqb first.caller c) first.count (count_in list c) _ (cond (eqb caller c) 1 0)
    (λ here. ap (λ b. cond b 1 0) (other-caller first.caller caller c (none 0 (omega arith)) here))
    (count_in-new list caller c d (λ k h. none (suc k) (omega arith)))

-- the same, where a search for the caller found the first
pub count_in-found : (list : List Count) (place caller : ℕ) (x : Count) → Some place ≡ position (λ (first : Count). eqb first.caller caller) list → x ≡ get_or list place x → count_in list caller ≡ x.count
count_in-found list place caller x found is =
    let at = position-Some (λ (first : Count). eqb first.caller caller) list place x (sym found) in
    count_in-at list place caller x at.0 at.1 at.2 ∙ ap (λ (first : Count). first.count) (sym is)

pub count_in-raised : (list : List Count) (place caller c : ℕ) (x : Count) → Some place ≡ position (λ (first : Count). eqb first.caller caller) list → x ≡ get_or list place x
    → count_in (set list place (record { caller = x.caller; count = x.count + 1 })) c ≡ count_in list c + cond (eqb caller c) 1 0
count_in-raised list place caller c x found is =
    let at = position-Some (λ (first : Count). eqb first.caller caller) list place x (sym found) in
    ap (λ (y : Count). count_in (set list place (record { caller = y.caller; count = y.count + 1 })) c) is
    ∙ count_in-more list place caller ((get_or list place x).count + 1) c x at.0 at.1 at.2 refl

not-some : (b : Bool) (n : ℕ) → None ≡ cond b (Some n) None → b ≡ false
not-some true n e = absurd cc
not-some false n e = refl

-- the same, where it found none
pub count_in-begun : (list : List Count) (caller c : ℕ) → None ≡ position (λ (first : Count). eqb first.caller caller) list
    → count_in (list ++ record { caller = caller; count = 1 } ∷ []) c ≡ count_in list c + cond (eqb caller c) 1 0
count_in-begun list caller c none =
    let is_by : Count → Bool = λ first. eqb first.caller caller in
    let past = ltb-false (position_or_len is_by list) (length list) (not-some (ltb (position_or_len is_by list) (length list)) (position_or_len is_by list) none) in
    let some : Count = record { caller = caller; count = 0 } in
    count_in-new list caller c some (λ k lt. fails_before_first is_by list k some (omega arith))
