-- Operations of different names have different numbers, so the numbers of some of one interface differ.
use Rattle.std.specs.Prelude.{◌==◌, ◌&&◌, not, slice_get}
use Rattle.std.specs.List.{list_all}
use Rattle.std.specs.Str.{bytes_eq}
use Rattle.std.proofs.Common.{◌≡◌, ℕ, suc, List, [], ◌∷◌, Bool, true, false, Some, refl, sym, ap, subst, ◌∙◌, arith}
use Rattle.std.proofs.lemmas.Bool.{both_ways, and_parts, and_from, not-true, eqb-true}
use Rattle.idl_reader.specs.Tree.{idl_tree}
use Rattle.idl_check.proofs.NameTests.{same_text, text_same}
use Rattle.idl_check.proofs.Apart.{names_apart}
use Rattle.idl_check.proofs.Exactly.{settled_of_fits}
use Rattle.idl_tables.specs.Tables as tables
use Rattle.idl_tables.specs.TableSet.{Tabled, IsTabled, IsNumberOf}
use Rattle.pager_channel.specs.declared.operation.Operation.{Operation}
use Rattle.pager_channel.specs.Own.{all_differ}
use Rattle.run_texts.specs.OperationNames.{called}
use Rattle.run_texts.specs.Found.{IsNumber, AreNumbers}
use Rattle.run_texts.specs.declared.ops.TheConstants.{PAGER, CACHE, FILE}

-- a number is that of one name
one_name : (set : Tabled) → IsTabled set → (interface one other : List ℕ) (number : ℕ) → IsNumberOf set interface one number → IsNumberOf set interface other number → one ≡ other
one_name set is interface one other number a b =
    let same_place : a.at ≡ b.at = names_apart [] (idl_tree set.idl) (settled_of_fits (idl_tree set.idl) is.fits).different a.at b.at a.decl b.decl a.decl_at b.decl_at (a.called ∙ sym b.called) in
    let tables_are : Some a.table ≡ Some b.table = sym a.table_at ∙ ap (λ i. slice_get set.tables i) same_place ∙ b.table_at in
    let same_table : a.table ≡ b.table = cc in
    let ops_are : Some a.op ≡ Some b.op = sym a.op_at ∙ ap (λ t. slice_get t number) same_table ∙ b.op_at in
    let same_op : a.op ≡ b.op = cc in
    sym a.op_called ∙ ap (λ (o : tables.Operation). o.name) same_op ∙ b.op_called

-- of one interface, and not of one name
abbrev unlike : Operation → Operation → Bool
unlike one other = bytes_eq (called one).interface (called other).interface && not (bytes_eq (called one).name (called other).name)

module _ (set : Tabled) (is : IsTabled set) where
  numbers_unlike : (one other : Operation) (m n : ℕ) → IsNumber set one m → IsNumber set other n → unlike one other ≡ true → not (m == n) ≡ true
  numbers_unlike one other m n a b e = cases (m == n) refl where
    parts : (bytes_eq (called one).interface (called other).interface ≡ true) × (not (bytes_eq (called one).name (called other).name) ≡ true)
    parts = and_parts (bytes_eq (called one).interface (called other).interface) (not (bytes_eq (called one).name (called other).name)) e

    same_name : m ≡ n → (called one).name ≡ (called other).name
    same_name h =
        one_name set is (called other).interface (called one).name (called other).name n
        (subst (λ i. IsNumberOf set i (called one).name n) (same_text (called one).interface (called other).interface parts.0) (subst (λ k. IsNumber set one k) h a))
        b

    cases : (t : Bool) → (m == n) ≡ t → not t ≡ true
    cases false h = refl
    cases true h =
        absurd (both_ways (bytes_eq (called one).name (called other).name) (not-true (bytes_eq (called one).name (called other).name) parts.1) (text_same (called one).name (called other).name (same_name (eqb-true m n h))))

  rest_numbered : (one : Operation) (n : ℕ) (operations : List Operation) (numbers : List ℕ) → AreNumbers set (one ∷ operations) (n ∷ numbers) → AreNumbers set operations numbers
  rest_numbered one n operations numbers are = let count = are.count in record { count = omega arith; each = λ place which at. are.each (suc place) which at }

  others_differ : (one : Operation) (m : ℕ) → IsNumber set one m → (operations : List Operation) (numbers : List ℕ) → AreNumbers set operations numbers → list_all (λ other. unlike one other) operations ≡ true → list_all (λ n. not (m == n)) numbers ≡ true
  others_differ one m a operations [] are e = refl
  others_differ one m a [] (n ∷ numbers) are e = let count = are.count in absurd (omega arith)
  others_differ one m a (other ∷ operations) (n ∷ numbers) are e =
      let parts = and_parts (unlike one other) (list_all (λ other. unlike one other) operations) e in
      and_from (not (m == n)) (list_all (λ n. not (m == n)) numbers) (numbers_unlike one other m n a (are.each 0 other refl) parts.0)
      (others_differ one m a operations numbers (rest_numbered other n operations numbers are) parts.1)

  abbrev all_unlike : List Operation → Bool
  all_unlike [] = true
  all_unlike (one ∷ operations) = list_all (λ other. unlike one other) operations && all_unlike operations

  numbers_differ : (operations : List Operation) (numbers : List ℕ) → AreNumbers set operations numbers → all_unlike operations ≡ true → all_differ numbers ≡ true
  numbers_differ operations [] are e = refl
  numbers_differ [] (n ∷ numbers) are e = let count = are.count in absurd (omega arith)
  numbers_differ (one ∷ operations) (n ∷ numbers) are e =
      let parts = and_parts (list_all (λ other. unlike one other) operations) (all_unlike operations) e in
      let rest = rest_numbered one n operations numbers are in
      and_from (list_all (λ m. not (n == m)) numbers) (all_differ numbers) (others_differ one n (are.each 0 one refl) operations numbers rest parts.0) (numbers_differ operations numbers rest parts.1)

  pub pager_differ : (numbers : List ℕ) → AreNumbers set PAGER numbers → all_differ numbers ≡ true
  pager_differ numbers are = numbers_differ PAGER numbers are refl

  pub cache_differ : (numbers : List ℕ) → AreNumbers set CACHE numbers → all_differ numbers ≡ true
  cache_differ numbers are = numbers_differ CACHE numbers are refl

  pub file_differ : (numbers : List ℕ) → AreNumbers set FILE numbers → all_differ numbers ≡ true
  file_differ numbers are = numbers_differ FILE numbers are refl
