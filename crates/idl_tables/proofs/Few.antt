-- A table has at most as many operations as a text can declare.
use Rattle.std.proofs.Common.{◌≡◌, ℕ, zero, suc, ◌+◌, ◌<◌, ◌≤◌, ◌*◌, ◌==◌, List, [], ◌∷◌, length, Bool, true, false, ◌||◌, cond, get_or, Option, Some, None, refl, sym, ap, subst, ◌∙◌, arith}
use Rattle.std.specs.Prelude.{slice_get, All}
use Rattle.std.specs.List.{AllByRecursion}
use Rattle.std.proofs.lemmas.Bool.{or_parts, or_right, or_left, eqb-true, eqb-false, eq-eqb, false_from_ne_true, both_ways}
use Rattle.std.proofs.lemmas.List.{length-map, length-append}
use Rattle.std.proofs.lemmas.Option.{slice_get-get_or, get_or_from_slice_get}
use Rattle.idl_reader.specs.Grammar.{IsDecl, AreDecls}
use Rattle.idl_reader.specs.Tree.{DeclTree, StructOf, EnumOf, InterfaceOf}
use Rattle.idl_check.specs.Names.{decl_name, op_names}
use Rattle.idl_check.specs.FitsTogether.{FitsTogether}
use Rattle.idl_check.proofs.Exactly.{settled_of_fits}
use Rattle.idl_tables.specs.Lines.{has_spot, lines_of}
use Rattle.idl_tables.specs.Tables.{Operation, own_of, own_at, line_table, tables_of}
use Rattle.idl_tables.proofs.Has.{Distinct, line_distinct, line_within}
use Rattle.idl_tables.proofs.Rule.{table_at, tables_follow}

-- ---- different numbers below a bound are no more than it

abbrev without : ℕ → List ℕ → List ℕ
without n [] = []
without n (k ∷ ks) = cond (k == n) (without n ks) (k ∷ without n ks)

without_all : (n : ℕ) (ks : List ℕ) → has_spot n ks ≡ false → length (without n ks) ≡ length ks
without_all n [] h = refl
without_all n (k ∷ ks) h =
    let both = or_parts (k == n) (has_spot n ks) h in
    ap (λ b. length (cond b (without n ks) (k ∷ without n ks))) both.0 ∙ ap (λ m. suc m) (without_all n ks both.1)

-- what is left was there, and is another
left_there : (n j : ℕ) (ks : List ℕ) → has_spot j (without n ks) ≡ true → (has_spot j ks ≡ true) × (j ≡ n → ⊥)
left_there n j [] h = absurd cc
left_there n j (k ∷ ks) h = cases (k == n) refl h (λ e. left_there n j ks e) where
  front : (k == n) ≡ false → (b : Bool) → (j_here : (k == j) ≡ b) → (b || has_spot j (without n ks)) ≡ true → (has_spot j (without n ks) ≡ true → (has_spot j ks ≡ true) × (j ≡ n → ⊥)) → (has_spot j (k ∷ ks) ≡ true) × (j ≡ n → ⊥)
  front isnt true j_here e rest = (or_left (k == j) (has_spot j ks) j_here, λ same. eqb-false k n isnt (eqb-true k j j_here ∙ same))
  front isnt false j_here e rest = let later = rest e in (or_right (k == j) (has_spot j ks) later.0, later.1)

  cases : (b : Bool) → (k == n) ≡ b → has_spot j (cond b (without n ks) (k ∷ without n ks)) ≡ true → (has_spot j (without n ks) ≡ true → (has_spot j ks ≡ true) × (j ≡ n → ⊥)) → (has_spot j (k ∷ ks) ≡ true) × (j ≡ n → ⊥)
  cases true is e rest = let later = rest e in (or_right (k == j) (has_spot j ks) later.0, later.1)
  cases false isnt e rest = front isnt (k == j) refl e rest

distinct_without : (n : ℕ) (ks : List ℕ) → Distinct ks → Distinct (without n ks)
distinct_without n [] d = tt
distinct_without n (k ∷ ks) d = cases (k == n) (distinct_without n ks d.1) where
  cases : (b : Bool) → Distinct (without n ks) → Distinct (cond b (without n ks) (k ∷ without n ks))
  cases true rest = rest
  cases false rest = (false_from_ne_true (has_spot k (without n ks)) (λ is. both_ways (has_spot k ks) d.0 (left_there n k ks is).0), rest)

one_less : (n : ℕ) (ks : List ℕ) → Distinct ks → length ks ≤ length (without n ks) + 1
one_less n [] d = omega arith
one_less n (k ∷ ks) d = cases (k == n) refl (one_less n ks d.1) where
  cases : (b : Bool) → (k == n) ≡ b → length ks ≤ length (without n ks) + 1 → suc (length ks) ≤ length (cond b (without n ks) (k ∷ without n ks)) + 1
  cases true is rest = let all = without_all n ks (subst (λ m. has_spot m ks ≡ false) (eqb-true k n is) d.0) in omega arith
  cases false isnt rest = omega arith

few_below : (n : ℕ) (ks : List ℕ) → Distinct ks → ((k : ℕ) → has_spot k ks ≡ true → k < n) → length ks ≤ n
few_below zero [] d below = omega arith
few_below zero (k ∷ ks) d below = let low = below k (or_left (k == k) (has_spot k ks) (eq-eqb k k refl)) in absurd (omega arith)
few_below (suc n) ks d below =
    let rest = few_below n (without n ks) (distinct_without n ks d) (λ k h. let there = left_there n k ks h in let low = below k there.0 in let other : k ≡ n → ⊥ = there.1 in omega arith) in
    let one = one_less n ks d in
    omega arith

-- ---- operations

few_of_decl : (d : DeclTree) → IsDecl d → length (op_names d) ≤ 64
few_of_decl (StructOf name fields) is = omega arith
few_of_decl (EnumOf name names) is = omega arith
few_of_decl (InterfaceOf name bases ops) is = let few = is.2.1 in omega (arith, length-map ops (λ op. op.name), few)

each_decl : (decls : List DeclTree) → AllByRecursion IsDecl decls → (k : ℕ) (d : DeclTree) → slice_get decls k ≡ Some d → IsDecl d
each_decl [] all k d at = absurd cc
each_decl (e ∷ es) all zero d at = let same : e ≡ d = cc in subst (λ (x : DeclTree). IsDecl x) same all.0
each_decl (e ∷ es) all (suc k) d at = each_decl es all.1 k d at

module _ (decls : List DeclTree) (said : AreDecls decls) where
  few_at : (k : ℕ) → length (own_at (slice_get decls k)) ≤ 64
  unfolding own_of
  few_at k = cases (slice_get decls k) refl where
    cases : (o : Option DeclTree) → slice_get decls k ≡ o → length (own_at o) ≤ 64
    cases None is = omega arith
    cases (Some d) is = omega (arith, length-map (op_names d) (λ word. let op : Operation = record { name = word.text; declarer = (decl_name d).text } in op), few_of_decl d (each_decl decls said.0 k d is))

  few_of_line : (line : List ℕ) → length (line_table decls line) ≤ 64 * length line
  unfolding line_table
  few_of_line [] = omega arith
  few_of_line (k ∷ line) = omega (arith, length-append (own_at (slice_get decls k)) (line_table decls line), few_at k, few_of_line line)

  -- no table has more
  pub few_operations : FitsTogether decls → All (λ table. length table ≤ 256 * 64) (tables_of decls)
  few_operations fits = λ i e below.
      let settled = settled_of_fits decls fits in
      let all = (tables_follow decls settled).all in
      let none = EnumOf (record { text = []; place = 0 }) [] in
      let d = get_or decls i none in
      let here = slice_get-get_or decls i none (omega arith) in
      let line = get_or (lines_of decls) i [] in
      let line_few = few_below (length decls) line (line_distinct decls settled i d here) (λ k h. line_within decls settled i k d here h) in
      let decls_few = said.1 in
      let ops = few_of_line line in
      let is : get_or (tables_of decls) i e ≡ line_table decls line =
      get_or_from_slice_get (tables_of decls) i (get_or (tables_of decls) i []) e (slice_get-get_or (tables_of decls) i [] below) ∙ table_at decls (lines_of decls) i
      in
      subst (λ (t : List Operation). length t ≤ 256 * 64) (sym is) (omega arith)
