-- A test of numbers below a bound.
use Rattle.std.proofs.Common.{◌≡◌, ℕ, ◌+◌, ◌<◌, Bool, true, get_or, sym, ap, ◌∙◌, arith}
use Rattle.std.specs.List.{range_with_len}
use Rattle.std.proofs.lemmas.List.Folds.{list_any_at, Any-from_list_any}
use Rattle.std.proofs.lemmas.List.FromFn.{length-range_with_len, get_or-range_with_len}
use Rattle.idl_check.specs.Verdict.{any_below}

pub any_below_true : (n k : ℕ) (test : ℕ → Bool) → k < n → test k ≡ true → any_below n test ≡ true
any_below_true n k test below is =
    let long = length-range_with_len 0 n in
    let at : get_or (range_with_len 0 n) k 0 ≡ k = get_or-range_with_len 0 n k 0 below ∙ omega arith in
    list_any_at test (range_with_len 0 n) k 0 (omega arith) (ap test at ∙ is)

pub below_any : (n : ℕ) (test : ℕ → Bool) → any_below n test ≡ true → (k : ℕ) × (k < n) × (test k ≡ true)
below_any n test e =
    let found = Any-from_list_any test (range_with_len 0 n) e in
    let long = length-range_with_len 0 n in
    let low = found.2 in
    let below : found.0 < n = omega arith in
    let at : found.0 ≡ found.1 = (let same : found.0 ≡ 0 + found.0 = omega arith in same ∙ sym (get_or-range_with_len 0 n found.0 found.1 below) ∙ found.3) in
    (found.0, below, ap test at ∙ found.4)
