-- An operation that is not found, and the first that is missing of two lists, one behind the other.
use Rattle.std.specs.Prelude.{slice_get, slice_index}
use Rattle.std.specs.Option.{ok_or}
use Rattle.std.proofs.Common.{◌≡◌, ◌<◌, ℕ, zero, suc, List, [], ◌∷◌, ◌++◌, length, Option, Some, None, Result, IfErr, refl, sym, subst, arith}
use Rattle.std.proofs.lemmas.Option.{slice_get_within}
use Rattle.pager_channel.specs.declared.operation.Operation.{Operation}
use Rattle.idl_tables.specs.TableSet.{Tabled, IsNumberOf}
use Rattle.run_texts.specs.OperationNames.{called}
use Rattle.run_texts.specs.Found.{IsNumber, IsThere, IsMissing, AreNumbers, IsFirstMissing}

missing_or_found : (set : Tabled) (which : Operation) (found : Option ℕ) → ((n : ℕ) → IsNumber set which n → found ≡ Some n) → IfErr (ok_or found which) (λ missing. (missing ≡ which) × IsMissing set which)
missing_or_found set which (Some n) only = tt
missing_or_found set which None only = (refl, (λ there. let e = only there.0 there.1 in absurd cc))

-- an operation that is not found by its words is missing
pub not_found : (set : Tabled) (which : Operation) (found : Option ℕ) (interface name : List ℕ) → interface ≡ (called which).interface → name ≡ (called which).name
    → ((n : ℕ) → IsNumberOf set interface name n → found ≡ Some n) → (answer : Result ℕ Operation) → answer ≡ ok_or found which → IfErr answer (λ missing. (missing ≡ which) × IsMissing set which)
not_found set which found interface name of_interface of_name only answer is =
    let by_words : (n : ℕ) → IsNumber set which n → found ≡ Some n =
    λ n there. only n (subst (λ (w : List ℕ). IsNumberOf set w name n) (sym of_interface) (subst (λ (w : List ℕ). IsNumberOf set (called which).interface w n) (sym of_name) there))
    in
    subst (λ (r : Result ℕ Operation). IfErr r (λ missing. (missing ≡ which) × IsMissing set which)) (sym is) (missing_or_found set which found by_words)

of_front : (xs ys : List Operation) (k : ℕ) (one : Operation) → slice_get xs k ≡ Some one → slice_get (xs ++ ys) k ≡ Some one
of_front [] ys k one e = absurd cc
of_front (x ∷ xs) ys zero one e = e
of_front (x ∷ xs) ys (suc k) one e = of_front xs ys k one e

in_front : (xs ys : List Operation) (k : ℕ) (one : Operation) → k < length xs → slice_get (xs ++ ys) k ≡ Some one → slice_get xs k ≡ Some one
in_front [] ys k one low e = absurd (omega arith)
in_front (x ∷ xs) ys zero one low e = e
in_front (x ∷ xs) ys (suc k) one low e = in_front xs ys k one (omega arith) e

module _ (set : Tabled) (which : Operation) where
  -- the first of the front one is the first of both
  pub missing_in_front : (xs ys : List Operation) → IsFirstMissing set xs which → IsFirstMissing set (xs ++ ys) which
  missing_in_front xs ys m =
      let within = slice_get_within xs m.place which m.stands in
      record {
        place = m.place;
        stands = of_front xs ys m.place which m.stands;
        missing = m.missing;
        before = λ k one low e. m.before k one low (in_front xs ys k one (omega arith) e);
      }

  one_later : (x : Operation) (ys : List Operation) → IsThere set x → IsFirstMissing set ys which → IsFirstMissing set (x ∷ ys) which
  one_later x ys there m = record { place = suc m.place; stands = m.stands; missing = m.missing; before = before } where
    before : (k : ℕ) (one : Operation) → k < suc m.place → slice_get (x ∷ ys) k ≡ Some one → IsThere set one
    before zero one low e = let same : x ≡ one = cc in subst (λ o. IsThere set o) same there
    before (suc k) one low e = m.before k one (omega arith) e

  -- if each of the front one has a number, the first of the other is the first of both
  pub missing_behind : (xs ys : List Operation) → ((k : ℕ) (one : Operation) → slice_get xs k ≡ Some one → IsThere set one) → IsFirstMissing set ys which → IsFirstMissing set (xs ++ ys) which
  missing_behind [] ys there m = m
  missing_behind (x ∷ xs) ys there m = one_later x (xs ++ ys) (there 0 x refl) (missing_behind xs ys (λ k one e. there (suc k) one e) m)

-- each that has a number is there
pub are_there : (set : Tabled) (xs : List Operation) (numbers : List ℕ) → AreNumbers set xs numbers → (k : ℕ) (one : Operation) → slice_get xs k ≡ Some one → IsThere set one
are_there set xs numbers are k one e = (slice_index numbers k, are.each k one e)
