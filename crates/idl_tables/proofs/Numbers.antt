-- The number of an operation, by the search and by the tables.
use Rattle.std.proofs.Common.{◌≡◌, ℕ, zero, suc, ◌+◌, ◌<◌, List, [], ◌∷◌, length, Bool, true, false, ◌&&◌, cond, get_or, Option, Some, None, ◌⊎◌, inl, inr, refl, sym, ap, subst, ◌∙◌, arith, add-zero}
use Rattle.std.specs.Prelude.{slice_get}
use Rattle.std.specs.Str.{bytes_eq}
use Rattle.std.proofs.lemmas.Bool.{both_ways, and_parts, cases_order}
use Rattle.std.proofs.lemmas.Option.{slice_get_within, get_or_from_slice_get, slice_get-get_or}
use Rattle.idl_reader.specs.Tree.{DeclTree, idl_tree}
use Rattle.idl_check.specs.Names.{decl_name, is_interface}
use Rattle.idl_check.proofs.NameTests.{same_text, text_same}
use Rattle.idl_check.proofs.Apart.{names_apart}
use Rattle.idl_check.proofs.Exactly.{AreSettled, settled_of_fits}
use Rattle.idl_tables.specs.Lines.{spot}
use Rattle.idl_tables.specs.Tables.{Operation, tables_of, number_from, table_named, number_in}
use Rattle.idl_tables.specs.Differ.{HaveOwnNames}
use Rattle.idl_tables.specs.TableSet.{Tabled, IsTabled, IsNumberOf}
use Rattle.idl_tables.proofs.Few.{few_operations}
use Rattle.idl_tables.proofs.Rule.{spot_stands, spot_within, table_found, tables_follow}
use Rattle.idl_tables.proofs.Sharing.{tables_differ}

-- an operation of the name has this number, counted from n
record HasNumber (n : ℕ) (name : List ℕ) (ops : List Operation) (number : ℕ) : Type 0 where
  k : ℕ
  op : Operation
  op_at : slice_get ops k ≡ Some op
  called : op.name ≡ name
  number_is : number ≡ n + k

number_found : (n : ℕ) (name : List ℕ) (ops : List Operation) (number : ℕ) → number_from n name ops ≡ Some number → HasNumber n name ops number
number_found n name [] number e = absurd cc
number_found n name (op ∷ ops) number e = cases (bytes_eq op.name name) refl e (λ h. number_found (n + 1) name ops number h) where
  later : HasNumber (n + 1) name ops number → HasNumber n name (op ∷ ops) number
  later h = let is = h.number_is in record { k = suc h.k; op = h.op; op_at = h.op_at; called = h.called; number_is = omega arith }

  cases : (b : Bool) → bytes_eq op.name name ≡ b → cond b (Some n) (number_from (n + 1) name ops) ≡ Some number → (number_from (n + 1) name ops ≡ Some number → HasNumber (n + 1) name ops number) → HasNumber n name (op ∷ ops) number
  cases true is h rest = let same : n ≡ number = cc in record { k = 0; op = op; op_at = refl; called = same_text op.name name is; number_is = sym same ∙ sym (add-zero n) }
  cases false isnt h rest = later (rest h)

-- one of the name is found
some_number : (n : ℕ) (name : List ℕ) (ops : List Operation) (k : ℕ) (op : Operation) → slice_get ops k ≡ Some op → op.name ≡ name → (number : ℕ) × (number_from n name ops ≡ Some number)
some_number n name [] k op at called = absurd cc
some_number n name (x ∷ ops) k op at called = cases (bytes_eq x.name name) refl k at (λ j h. some_number (n + 1) name ops j op h called) where
  at_first : (bytes_eq x.name name ≡ false) → slice_get (x ∷ ops) zero ≡ Some op → ⊥
  at_first isnt h = let same : x ≡ op = cc in both_ways (bytes_eq x.name name) isnt (text_same x.name name (ap (λ (o : Operation). o.name) same ∙ called))

  cases : (b : Bool) → bytes_eq x.name name ≡ b → (j : ℕ) → slice_get (x ∷ ops) j ≡ Some op → ((j : ℕ) → slice_get ops j ≡ Some op → (number : ℕ) × (number_from (n + 1) name ops ≡ Some number))
      → (number : ℕ) × (cond b (Some n) (number_from (n + 1) name ops) ≡ Some number)
  cases true is j h rest = (n, refl)
  cases false isnt zero h rest = absurd (at_first isnt h)
  cases false isnt (suc j) h rest = rest j h

same_number : (ops : List Operation) → HaveOwnNames ops → (j k : ℕ) (one other : Operation) → slice_get ops j ≡ Some one → slice_get ops k ≡ Some other → one.name ≡ other.name → j ≡ k
same_number ops alone j k one other here there same = which (cases_order j k) where
  at_j : (d : Operation) → get_or ops j d ≡ one
  at_j d = get_or_from_slice_get ops j one d here

  at_k : (d : Operation) → get_or ops k d ≡ other
  at_k d = get_or_from_slice_get ops k other d there

  which : (j ≡ k) ⊎ ((j < k) ⊎ (k < j)) → j ≡ k
  which (inl e) = e
  which (inr (inl low)) = absurd (alone j k one low (slice_get_within ops k other there) (ap (λ (o : Operation). o.name) (at_j one) ∙ same ∙ sym (ap (λ (o : Operation). o.name) (at_k one))))
  which (inr (inr low)) = absurd (alone k j one low (slice_get_within ops j one here) (ap (λ (o : Operation). o.name) (at_k one) ∙ sym same ∙ sym (ap (λ (o : Operation). o.name) (at_j one))))

number_is : (name : List ℕ) (ops : List Operation) → HaveOwnNames ops → (k : ℕ) (op : Operation) → slice_get ops k ≡ Some op → op.name ≡ name → number_from 0 name ops ≡ Some k
number_is name ops alone k op at called =
    let some = some_number 0 name ops k op at called in
    let found = number_found 0 name ops some.0 some.1 in
    let none_before = found.number_is in
    let same : found.k ≡ k = same_number ops alone found.k k found.op op found.op_at at (found.called ∙ sym called) in
    let number : some.0 ≡ k = omega arith in
    some.1 ∙ ap (λ n. Some n) number

-- the table of an interface of the name
record HasTable (tables : List (List Operation)) (n : ℕ) (ds : List DeclTree) (name : List ℕ) (table : List Operation) : Type 0 where
  i : ℕ
  decl : DeclTree
  decl_at : slice_get ds i ≡ Some decl
  face : is_interface decl ≡ true
  called : (decl_name decl).text ≡ name
  table_is : table ≡ get_or tables (n + i) []

named_found : (tables : List (List Operation)) (n : ℕ) (ds : List DeclTree) (name : List ℕ) (table : List Operation) → table_named tables n ds name ≡ Some table → HasTable tables n ds name table
named_found tables n [] name table e = absurd cc
named_found tables n (d ∷ ds) name table e = cases (is_interface d && bytes_eq (decl_name d).text name) refl e (λ h. named_found tables (n + 1) ds name table h) where
  later : HasTable tables (n + 1) ds name table → HasTable tables n (d ∷ ds) name table
  later h = let place : n + 1 + h.i ≡ n + suc h.i = omega arith in record { i = suc h.i; decl = h.decl; decl_at = h.decl_at; face = h.face; called = h.called; table_is = h.table_is ∙ ap (λ m. get_or tables m []) place }

  cases : (b : Bool) → (is_interface d && bytes_eq (decl_name d).text name) ≡ b → cond b (Some (get_or tables n [])) (table_named tables (n + 1) ds name) ≡ Some table
      → (table_named tables (n + 1) ds name ≡ Some table → HasTable tables (n + 1) ds name table) → HasTable tables n (d ∷ ds) name table
  cases true is h rest =
      let both = and_parts (is_interface d) (bytes_eq (decl_name d).text name) is in
      let same : get_or tables n [] ≡ table = cc in
      record { i = 0; decl = d; decl_at = refl; face = both.0; called = same_text (decl_name d).text name both.1; table_is = sym same ∙ ap (λ m. get_or tables m []) (sym (add-zero n)) }
  cases false isnt h rest = later (rest h)

module _ (set : Tabled) (is : IsTabled set) where
  abbrev decls : List DeclTree
  decls = idl_tree set.idl

  abbrev settled : AreSettled decls
  settled = settled_of_fits decls is.fits

  tall : length set.tables ≡ length decls
  tall = ap (λ ts. length ts) is.tabled ∙ (tables_follow decls settled).all

  module _ (interface name : List ℕ) (number : ℕ) where
    number_of_table : (table : List Operation) → table_named set.tables 0 decls interface ≡ Some table → number_from 0 name table ≡ Some number → IsNumberOf set interface name number
    number_of_table table is_named found =
        let t = named_found set.tables 0 decls interface table is_named in
        let f = number_found 0 name table number found in
        let none_before : 0 + t.i ≡ t.i = omega arith in
        let within = slice_get_within decls t.i t.decl t.decl_at in
        let long = tall in
        let number_at : number ≡ f.k = (let e = f.number_is in omega arith) in
        record {
          at = t.i;
          decl = t.decl;
          decl_at = t.decl_at;
          face = t.face;
          called = t.called;
          table = table;
          table_at = slice_get-get_or set.tables t.i [] (omega arith) ∙ ap (λ ts. Some ts) (ap (λ m. get_or set.tables m []) (sym none_before) ∙ sym t.table_is);
          op = f.op;
          op_at = ap (λ m. slice_get table m) number_at ∙ f.op_at;
          op_called = f.called;
        }

    pub is_number : number_in name (table_named set.tables 0 decls interface) ≡ Some number → IsNumberOf set interface name number
    is_number e = cases (table_named set.tables 0 decls interface) refl e where
      cases : (o : Option (List Operation)) → table_named set.tables 0 decls interface ≡ o → number_in name o ≡ Some number → IsNumberOf set interface name number
      cases None named h = absurd cc
      cases (Some table) named h = number_of_table table named h

    pub number_found_there : IsNumberOf set interface name number → number_in name (table_named set.tables 0 decls interface) ≡ Some number
    number_found_there n =
        let below = spot_within decls interface n.at (record { decl = n.decl; there = n.decl_at; named = n.called }) in
        let s = spot_stands decls interface below in
        let place : spot decls interface ≡ n.at = names_apart [] decls settled.different (spot decls interface) n.at s.decl n.decl s.there n.decl_at (s.named ∙ sym n.called) in
        let there : slice_get decls (spot decls interface) ≡ Some n.decl = ap (λ m. slice_get decls m) place ∙ n.decl_at in
        let none_before : 0 + spot decls interface ≡ spot decls interface = omega arith in
        let table : get_or set.tables (0 + spot decls interface) [] ≡ n.table = ap (λ m. get_or set.tables m []) (none_before ∙ place) ∙ get_or_from_slice_get set.tables n.at n.table [] n.table_at in
        let within = slice_get_within set.tables n.at n.table n.table_at in
        let long = ap (λ ts. length ts) is.tabled in
        let alone : HaveOwnNames n.table =
        subst (λ (t : List Operation). HaveOwnNames t)
        (ap (λ ts. get_or ts n.at []) (sym is.tabled) ∙ get_or_from_slice_get set.tables n.at n.table [] n.table_at)
        (tables_differ decls is.fits n.at [] (omega arith))
        in
        ap (λ o. number_in name o) (table_found set.tables 0 decls interface n.decl there n.face ∙ ap (λ t. Some t) table) ∙ number_is name n.table alone number n.op n.op_at n.op_called

    pub number_fits : number_in name (table_named set.tables 0 decls interface) ≡ Some number → number < 65536
    number_fits e =
        let n = is_number e in
        let within = slice_get_within set.tables n.at n.table n.table_at in
        let long = ap (λ ts. length ts) is.tabled in
        let few = few_operations decls is.said is.fits n.at [] (omega arith) in
        let table : get_or (tables_of decls) n.at [] ≡ n.table = ap (λ ts. get_or ts n.at []) (sym is.tabled) ∙ get_or_from_slice_get set.tables n.at n.table [] n.table_at in
        let inside = slice_get_within n.table number n.op n.op_at in
        omega (arith, ap (λ t. length t) table, few)

    -- an answer that is what the search finds
    pub answer_is : (answer : Option ℕ) → answer ≡ number_in name (table_named set.tables 0 decls interface) → (answer ≡ Some number → IsNumberOf set interface name number) × (IsNumberOf set interface name number → answer ≡ Some number)
    answer_is answer e = ((λ some. is_number (sym e ∙ some)), (λ n. e ∙ number_found_there n))
