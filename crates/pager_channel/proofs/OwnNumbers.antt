-- An operation is found again by its number.
use Rattle.std.specs.Prelude.{◌==◌, ◌&&◌, not, position}
use Rattle.std.specs.List.{list_all, position_or_len}
use Rattle.std.proofs.Common.{◌≡◌, ℕ, zero, suc, ◌<◌, Bool, true, false, List, [], ◌∷◌, length, get_or, Some, ltb, refl, arith}
use Rattle.std.proofs.lemmas.Bool.{eq-eqb}
use Rattle.std.proofs.lemmas.Bool.Decides.{nat_tests}
use Rattle.std.proofs.lemmas.List.Sums.{position_or_len_is}
use Rattle.pager_channel.specs.declared.numbers.Ops.{Ops}
use Rattle.pager_channel.specs.declared.operation.Operation.{Operation}
use Rattle.pager_channel.specs.Own.{AreOwn, all_differ}
use Rattle.pager_channel.specs.Numbers.{which_of, number_of, IsOfObject, IsFoundAgain}

both : (a b : Bool) → (a && b) ≡ true → (a ≡ true) × (b ≡ true)
both true b e = (refl, e)
both false b e = absurd cc

unlike : (b : Bool) → not b ≡ true → b ≡ false
unlike true e = absurd cc
unlike false e = refl

-- what passes a test of each passes it at a place
passes_at : (p : ℕ → Bool) (xs : List ℕ) (k : ℕ) → list_all p xs ≡ true → k < length xs → p (get_or xs k 0) ≡ true
passes_at p [] k e h = absurd (omega arith)
passes_at p (x ∷ xs) zero e h = (both (p x) (list_all p xs) e).0
passes_at p (x ∷ xs) (suc k) e h = passes_at p xs k (both (p x) (list_all p xs) e).1 (omega arith)

differ_at : (xs : List ℕ) (i j : ℕ) → all_differ xs ≡ true → i < j → j < length xs → (get_or xs i 0 == get_or xs j 0) ≡ false
differ_at [] i j e lt h = absurd (omega arith)
differ_at (x ∷ xs) i zero e lt h = absurd (omega arith)
differ_at (x ∷ xs) zero (suc j) e lt h = unlike _ (passes_at (λ y. not (x == y)) xs j (both (list_all (λ y. not (x == y)) xs) (all_differ xs) e).0 (omega arith))
differ_at (x ∷ xs) (suc i) (suc j) e lt h = differ_at xs i j (both (list_all (λ y. not (x == y)) xs) (all_differ xs) e).1 (omega arith) (omega arith)

is_less : (a b : ℕ) → a < b → ltb a b ≡ true
is_less a b h = grind (arith, nat_tests)

-- the first number that is the one at a place is that one
own_place : (many k : ℕ) (xs : List ℕ) → AreOwn many xs → k < many → position (λ n. n == get_or xs k 0) xs ≡ Some k
own_place many k xs own inside =
    let count : length xs ≡ many = own.count in
    let at : position_or_len (λ n. n == get_or xs k 0) xs ≡ k =
    position_or_len_is (λ n. n == get_or xs k 0) xs k 0 (omega arith) (λ i lt. differ_at xs i k own.differ lt (omega arith)) (λ _. eq-eqb _ _ refl) in
    rw (at, is_less k (length xs) (omega arith)) refl

own_number : (ops : Ops) (which : Operation) (flags : ℕ) → IsOfObject flags which → which_of ops flags (number_of ops which) ≡ Some which
own_number ops Operation.PageIn flags o = rw (o.file, o.cache, own_place 5 0 ops.pager ops.pager_own (omega arith)) refl
own_number ops Operation.PageOut flags o = rw (o.file, o.cache, own_place 5 1 ops.pager ops.pager_own (omega arith)) refl
own_number ops Operation.WriteOut flags o = rw (o.file, o.cache, own_place 5 2 ops.pager ops.pager_own (omega arith)) refl
own_number ops Operation.Sync flags o = rw (o.file, o.cache, own_place 5 3 ops.pager ops.pager_own (omega arith)) refl
own_number ops Operation.Done flags o = rw (o.file, o.cache, own_place 5 4 ops.pager ops.pager_own (omega arith)) refl
own_number ops Operation.FlushBack flags o = rw (o.file, o.cache, own_place 6 0 ops.cache ops.cache_own (omega arith)) refl
own_number ops Operation.DenyWrites flags o = rw (o.file, o.cache, own_place 6 1 ops.cache ops.cache_own (omega arith)) refl
own_number ops Operation.WriteBack flags o = rw (o.file, o.cache, own_place 6 2 ops.cache ops.cache_own (omega arith)) refl
own_number ops Operation.DeleteRange flags o = rw (o.file, o.cache, own_place 6 3 ops.cache ops.cache_own (omega arith)) refl
own_number ops Operation.ZeroFill flags o = rw (o.file, o.cache, own_place 6 4 ops.cache ops.cache_own (omega arith)) refl
own_number ops Operation.Destroy flags o = rw (o.file, o.cache, own_place 6 5 ops.cache ops.cache_own (omega arith)) refl
own_number ops Operation.Bind flags o = rw (o.file, own_place 7 0 ops.file ops.file_own (omega arith)) refl
own_number ops Operation.Read flags o = rw (o.file, own_place 7 1 ops.file ops.file_own (omega arith)) refl
own_number ops Operation.Write flags o = rw (o.file, own_place 7 2 ops.file ops.file_own (omega arith)) refl
own_number ops Operation.Clear flags o = rw (o.file, own_place 7 3 ops.file ops.file_own (omega arith)) refl
own_number ops Operation.FileSync flags o = rw (o.file, own_place 7 4 ops.file ops.file_own (omega arith)) refl
own_number ops Operation.GetLength flags o = rw (o.file, own_place 7 5 ops.file ops.file_own (omega arith)) refl
own_number ops Operation.SetLength flags o = rw (o.file, own_place 7 6 ops.file ops.file_own (omega arith)) refl

pub found_again : (ops : Ops) (which : Operation) → IsFoundAgain ops which
found_again ops which = record { found = own_number ops which }
