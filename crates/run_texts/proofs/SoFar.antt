-- The numbers of the first of some operations, one after the other.
use Rattle.std.specs.Prelude.{slice_get, slice_index, slice_set}
use Rattle.std.proofs.Common.{◌≡◌, ◌≢◌, ◌<◌, ◌≤◌, ◌+◌, ℕ, List, length, get_or, Some, ◌⊎◌, inl, inr, sym, ap, subst, ◌∙◌, arith}
use Rattle.std.proofs.lemmas.Bool.{cases_order}
use Rattle.std.proofs.lemmas.List.{get_or-set_other}
use Rattle.std.proofs.lemmas.Grind.{get_or-set_at}
use Rattle.std.proofs.lemmas.Option.{slice_get_within, get_or_from_slice_get, slice_get-get_or}
use Rattle.pager_channel.specs.declared.operation.Operation.{Operation}
use Rattle.idl_tables.specs.TableSet.{Tabled}
use Rattle.run_texts.specs.Found.{IsNumber, IsMissing, AreNumbers, IsFirstMissing}

-- those before the place have these numbers
abbrev pub SoFar : Tabled → List Operation → List ℕ → ℕ → Type 0
SoFar set operations numbers place = (k : ℕ) (one : Operation) → k < place → slice_get operations k ≡ Some one → IsNumber set one (slice_index numbers k)

module _ (set : Tabled) (operations : List Operation) (numbers : List ℕ) (place : ℕ) (d : Operation) (so_far : SoFar set operations numbers place) where
  pub one_more : (number : ℕ) → place < length numbers → IsNumber set (get_or operations place d) number → SoFar set operations (slice_set numbers place number) (place + 1)
  one_more number long is k one low e = which (cases_order k place) where
    which : (k ≡ place) ⊎ ((k < place) ⊎ (place < k)) → IsNumber set one (slice_index (slice_set numbers place number) k)
    which (inl here) =
        let same : get_or operations place d ≡ one = ap (λ i. get_or operations i d) (sym here) ∙ get_or_from_slice_get operations k one d e in
        subst (λ (n : ℕ). IsNumber set one n) (sym (get_or-set_at numbers place k number 0 here long)) (subst (λ (o : Operation). IsNumber set o number) same is)
    which (inr (inl before)) =
        let other : k ≢ place = λ same. let below = before in absurd (omega arith) in
        subst (λ (n : ℕ). IsNumber set one n) (sym (get_or-set_other numbers place k number 0 other)) (so_far k one before e)
    which (inr (inr behind)) = absurd (omega arith)

  pub first_missing : (which : Operation) → place < length operations → which ≡ get_or operations place d → IsMissing set (get_or operations place d) → IsFirstMissing set operations which
  first_missing which low is missing = record {
    place = place;
    stands = slice_get-get_or operations place d low ∙ ap (λ (o : Operation). Some o) (sym is);
    missing = subst (λ (o : Operation). IsMissing set o) (sym is) missing;
    before = λ k one before e. (slice_index numbers k, so_far k one before e);
  }

  pub all_numbered : length numbers ≡ length operations → length operations ≤ place → AreNumbers set operations numbers
  all_numbered count done = record { count = count; each = λ k which at. let within = slice_get_within operations k which at in so_far k which (omega arith) at }
