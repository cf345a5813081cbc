-- Each once, of one list after the other.
use Rattle.std.proofs.Common.{◌≡◌, ℕ, zero, suc, ◌+◌, ◌∙◌, List, [], ◌∷◌, ◌++◌, map, Bool, true, false, cond, length, refl, sym, ap, slice_get, ◌≤◌, arith, add-one}
use Rattle.idl_reader.specs.Tree.{DeclTree}
use Rattle.idl_tables.specs.Tables.{own_at}
use Rattle.idl_tables.specs.Lines.{has_spot, once_after, next_from, lines_to}

pub once_append : (before xs ys : List ℕ) → once_after before (xs ++ ys) ≡ once_after (once_after before xs) ys
once_append before [] ys = refl
once_append before (x ∷ xs) ys = cases (has_spot x before) (once_append before xs ys) (once_append (before ++ x ∷ []) xs ys) where
  cases : (b : Bool) → once_after before (xs ++ ys) ≡ once_after (once_after before xs) ys → once_after (before ++ x ∷ []) (xs ++ ys) ≡ once_after (once_after (before ++ x ∷ []) xs) ys
      → cond b (once_after before (xs ++ ys)) (once_after (before ++ x ∷ []) (xs ++ ys)) ≡ once_after (cond b (once_after before xs) (once_after (before ++ x ∷ []) xs)) ys
  cases true a b = a
  cases false a b = b

pub lines_none : (spots lines : List (List ℕ)) → lines ≡ map (λ bases. []) spots → lines ≡ lines_to 0 spots
unfolding lines_to
lines_none spots lines e = e

pub lines_next : (n : ℕ) (spots lines next : List (List ℕ)) → lines ≡ lines_to n spots → next ≡ next_from lines 0 spots → next ≡ lines_to (n + 1) spots
unfolding lines_to
lines_next n spots lines next e f = f ∙ ap (λ ls. next_from ls 0 spots) e ∙ sym (ap (λ m. lines_to m spots) (add-one n))

pub own_beyond : (ds : List DeclTree) (k : ℕ) → length ds ≤ k → own_at (slice_get ds k) ≡ []
own_beyond [] k h = refl
own_beyond (d ∷ ds) zero h = absurd (omega arith)
own_beyond (d ∷ ds) (suc k) h = own_beyond ds k (omega arith)
