-- The operations of a line where each declaration stands once are those of its declarations, each operation once.
use Rattle.std.proofs.Common.{◌≡◌, ℕ, ◌==◌, List, [], ◌∷◌, ◌++◌, map, Bool, true, false, ◌&&◌, ◌||◌, cond, get_or, Option, Some, None, ◌⊎◌, inl, inr, refl, sym, ap, subst, ◌∙◌, append_assoc}
use Rattle.std.specs.Prelude.{slice_get}
use Rattle.std.specs.List.{flat_map}
use Rattle.std.specs.Str.{bytes_eq}
use Rattle.std.proofs.lemmas.Bool.{or_cases, and_parts, eqb-true, eq-eqb}
use Rattle.std.proofs.lemmas.List.{append-nil, map-append}
use Rattle.std.proofs.lemmas.List.Folds.{list_any-append}
use Rattle.std.proofs.lemmas.Grind.{flat_map-append}
use Rattle.std.proofs.lemmas.Slice.Eq.{bytes_eq-Decides}
use Rattle.idl_reader.specs.declared.idl.Word.{Word}
use Rattle.idl_reader.specs.Tree.{DeclTree}
use Rattle.idl_check.specs.Names.{decl_name, has_name, op_names}
use Rattle.idl_check.specs.Verdict.{repeat_among, repeat_in}
use Rattle.idl_check.proofs.Apart.{names_apart, ops_apart}
use Rattle.idl_tables.specs.Lines.{has_spot, once_after, merged}
use Rattle.idl_tables.specs.Tables.{Operation, own_of, own_at, line_table}
use Rattle.idl_tables.specs.Rule.{same_operation, has_operation, each_once}
use Rattle.idl_tables.proofs.Once.{once_append}

or_first : (a b : Bool) → a ≡ true → (a || b) ≡ true
or_first a b e = ap (λ t. t || b) e

or_second : (a b : Bool) → b ≡ true → (a || b) ≡ true
or_second true b e = refl
or_second false b e = e

or_neither : (a b : Bool) → a ≡ false → b ≡ false → (a || b) ≡ false
or_neither a b e f = ap (λ t. t || b) e ∙ f

neither : (a b : Bool) → (a || b) ≡ false → (a ≡ false) × (b ≡ false)
neither true b e = absurd cc
neither false b e = (refl, e)

not_true : (b : Bool) → (b ≡ true → ⊥) → b ≡ false
not_true true h = absurd (h refl)
not_true false h = refl

same_text : (t : List ℕ) → bytes_eq t t ≡ true
same_text t = (bytes_eq-Decides t t).1 refl

has-append : (x : Operation) (xs ys : List Operation) → has_operation x (xs ++ ys) ≡ (has_operation x xs || has_operation x ys)
has-append x xs ys = list_any-append (λ other. same_operation other x) xs ys

has_itself : (x : Operation) (xs : List Operation) → has_operation x (x ∷ xs) ≡ true
has_itself x xs = or_first (same_operation x x) (has_operation x xs) (ap (λ t. t && bytes_eq x.declarer x.declarer) (same_text x.name) ∙ same_text x.declarer)

-- what stands already is left out
skip : (acc xs ys : List Operation) → ((x : Operation) → has_operation x xs ≡ true → has_operation x acc ≡ true) → each_once acc (xs ++ ys) ≡ each_once acc ys
skip acc [] ys known = refl
skip acc (x ∷ xs) ys known =
    ap (λ b. cond b (each_once acc (xs ++ ys)) (each_once (acc ++ x ∷ []) (xs ++ ys))) (known x (has_itself x xs))
    ∙ skip acc xs ys (λ y h. known y (or_second (same_operation x y) (has_operation y xs) h))

abbrev op_of : List ℕ → Word → Operation
op_of declarer word = record { name = word.text; declarer = declarer }

-- the operations of one declarer are told apart by their names
other_names : (declarer : List ℕ) (word : Word) (words : List Word) → has_name word.text words ≡ false → has_operation (op_of declarer word) (map (λ w. op_of declarer w) words) ≡ false
other_names declarer word [] h = refl
other_names declarer word (w ∷ words) h =
    let both = neither (bytes_eq w.text word.text) (has_name word.text words) h in
    or_neither (same_operation (op_of declarer w) (op_of declarer word)) (has_operation (op_of declarer word) (map (λ w. op_of declarer w) words))
    (ap (λ t. t && bytes_eq declarer declarer) both.0)
    (other_names declarer word words both.1)

no_repeat_first : (before : List Word) (word : Word) (words : List Word) → repeat_among before (word ∷ words) ≡ None → (has_name word.text before ≡ false) × (repeat_among (before ++ word ∷ []) words ≡ None)
no_repeat_first before word words none = cases (has_name word.text before) refl none where
  cases : (b : Bool) → has_name word.text before ≡ b → cond b (Some word.place) (repeat_among (before ++ word ∷ []) words) ≡ None → (has_name word.text before ≡ false) × (repeat_among (before ++ word ∷ []) words ≡ None)
  cases true e h = absurd cc
  cases false e h = (e, h)

-- what is new is added
fresh : (declarer : List ℕ) (acc : List Operation) (before words : List Word) (ys : List Operation) → ((x : Operation) → has_operation x (map (λ w. op_of declarer w) words) ≡ true → has_operation x acc ≡ false) → repeat_among before words ≡ None
    → each_once (acc ++ map (λ w. op_of declarer w) before) (map (λ w. op_of declarer w) words ++ ys) ≡ each_once ((acc ++ map (λ w. op_of declarer w) before) ++ map (λ w. op_of declarer w) words) ys
fresh declarer acc before [] ys new none = ap (λ l. each_once l ys) (sym (append-nil (acc ++ map (λ w. op_of declarer w) before)))
fresh declarer acc before (word ∷ words) ys new none =
    let own : List Word → List Operation = map (λ w. op_of declarer w) in
    let x = op_of declarer word in
    let first = no_repeat_first before word words none in
    let isnt : has_operation x (acc ++ own before) ≡ false = has-append x acc (own before) ∙ or_neither (has_operation x acc) (has_operation x (own before)) (new x (has_itself x (own words))) (other_names declarer word before first.0) in
    let more : acc ++ own (before ++ word ∷ []) ≡ (acc ++ own before) ++ x ∷ [] = ap (λ l. acc ++ l) (map-append (λ w. op_of declarer w) before (word ∷ [])) ∙ sym (append_assoc acc (own before) (x ∷ [])) in
    ap (λ b. cond b (each_once (acc ++ own before) (own words ++ ys)) (each_once ((acc ++ own before) ++ x ∷ []) (own words ++ ys))) isnt
    ∙ ap (λ l. each_once l (own words ++ ys)) (sym more)
    ∙ fresh declarer acc (before ++ word ∷ []) words ys (λ y h. new y (or_second (same_operation x y) (has_operation y (own words)) h)) first.1
    ∙ ap (λ l. each_once (l ++ own words) ys) more
    ∙ ap (λ l. each_once l ys) (append_assoc (acc ++ own before) (x ∷ []) (own words))

declarer_is : (declarer : List ℕ) (words : List Word) (x : Operation) → has_operation x (map (λ w. op_of declarer w) words) ≡ true → declarer ≡ x.declarer
declarer_is declarer [] x h = absurd cc
declarer_is declarer (w ∷ words) x h = cases (or_cases (same_operation (op_of declarer w) x) (has_operation x (map (λ w. op_of declarer w) words)) h) (declarer_is declarer words x) where
  cases : (same_operation (op_of declarer w) x ≡ true) ⊎ (has_operation x (map (λ w. op_of declarer w) words) ≡ true) → (has_operation x (map (λ w. op_of declarer w) words) ≡ true → declarer ≡ x.declarer) → declarer ≡ x.declarer
  cases (inl is) others = (bytes_eq-Decides declarer x.declarer).0 (and_parts (bytes_eq w.text x.name) (bytes_eq declarer x.declarer) is).1
  cases (inr later) others = others later

module _ (decls : List DeclTree) (none : repeat_in [] decls ≡ None) where
  abbrev own : ℕ → List Operation
  own k = own_at (slice_get decls k)

  abbrev own_all : List ℕ → List Operation
  own_all ks = flat_map (λ k. own_at (slice_get decls k)) ks

  -- who declares an operation
  owner : (k : ℕ) (x : Operation) → has_operation x (own k) ≡ true → (d : DeclTree) × (slice_get decls k ≡ Some d) × ((decl_name d).text ≡ x.declarer)
  unfolding own_of
  owner k x h = cases (slice_get decls k) refl h where
    cases : (o : Option DeclTree) → slice_get decls k ≡ o → has_operation x (own_at o) ≡ true → (d : DeclTree) × (slice_get decls k ≡ Some d) × ((decl_name d).text ≡ x.declarer)
    cases None e is = absurd cc
    cases (Some d) e is = (d, e, declarer_is (decl_name d).text (op_names d) x is)

  one_owner : (j k : ℕ) (x : Operation) → has_operation x (own j) ≡ true → has_operation x (own k) ≡ true → j ≡ k
  one_owner j k x a b =
      let one = owner j x a in
      let other = owner k x b in
      names_apart [] decls none j k one.0 other.0 one.1 other.1 (one.2 ∙ sym other.2)

  known : (ks : List ℕ) (k : ℕ) → has_spot k ks ≡ true → (x : Operation) → has_operation x (own k) ≡ true → has_operation x (own_all ks) ≡ true
  known [] k h x is = absurd cc
  known (j ∷ ks) k h x is = cases (or_cases (j == k) (has_spot k ks) h) (λ later. known ks k later x is) where
    cases : ((j == k) ≡ true) ⊎ (has_spot k ks ≡ true) → (has_spot k ks ≡ true → has_operation x (own_all ks) ≡ true) → has_operation x (own j ++ own_all ks) ≡ true
    cases (inl same) others = has-append x (own j) (own_all ks) ∙ or_first (has_operation x (own j)) (has_operation x (own_all ks)) (subst (λ (i : ℕ). has_operation x (own i) ≡ true) (sym (eqb-true j k same)) is)
    cases (inr later) others = has-append x (own j) (own_all ks) ∙ or_second (has_operation x (own j)) (has_operation x (own_all ks)) (others later)

  unknown : (ks : List ℕ) (k : ℕ) → has_spot k ks ≡ false → (x : Operation) → has_operation x (own k) ≡ true → has_operation x (own_all ks) ≡ false
  unknown [] k h x is = refl
  unknown (j ∷ ks) k h x is =
      let both = neither (j == k) (has_spot k ks) h in
      has-append x (own j) (own_all ks)
      ∙ or_neither (has_operation x (own j)) (has_operation x (own_all ks))
      (not_true (has_operation x (own j)) (λ there. let same = eq-eqb j k (one_owner j k x there is) in let isnt = both.0 in absurd cc))
      (unknown ks k both.1 x is)

  added : (k : ℕ) (acc ys : List Operation) → ((x : Operation) → has_operation x (own k) ≡ true → has_operation x acc ≡ false) → each_once acc (own k ++ ys) ≡ each_once (acc ++ own k) ys
  unfolding own_of
  added k acc ys new = cases (slice_get decls k) refl new where
    cases : (o : Option DeclTree) → slice_get decls k ≡ o → ((x : Operation) → has_operation x (own_at o) ≡ true → has_operation x acc ≡ false) → each_once acc (own_at o ++ ys) ≡ each_once (acc ++ own_at o) ys
    cases None e new' = ap (λ l. each_once l ys) (sym (append-nil acc))
    cases (Some d) e new' =
        let f : Word → Operation = λ w. op_of (decl_name d).text w in
        ap (λ l. each_once l (map f (op_names d) ++ ys)) (sym (append-nil acc))
        ∙ fresh (decl_name d).text acc [] (op_names d) ys new' (ops_apart decls none k d e)
        ∙ ap (λ l. each_once (l ++ map f (op_names d)) ys) (append-nil acc)

  one_more : (before : List ℕ) (k : ℕ) → own_all (before ++ k ∷ []) ≡ own_all before ++ own k
  one_more before k = flat_map-append (λ k. own_at (slice_get decls k)) before (k ∷ []) ∙ ap (λ l. own_all before ++ l) (append-nil (own k))

  once_is : (before ks : List ℕ) → own_all (once_after before ks) ≡ each_once (own_all before) (own_all ks)
  once_is before [] = refl
  once_is before (k ∷ ks) = cases (has_spot k before) refl (once_is before ks) (once_is (before ++ k ∷ []) ks) where
    cases : (b : Bool) → has_spot k before ≡ b → own_all (once_after before ks) ≡ each_once (own_all before) (own_all ks) → own_all (once_after (before ++ k ∷ []) ks) ≡ each_once (own_all (before ++ k ∷ [])) (own_all ks)
        → own_all (cond b (once_after before ks) (once_after (before ++ k ∷ []) ks)) ≡ each_once (own_all before) (own k ++ own_all ks)
    cases true e out in_it = out ∙ sym (skip (own_all before) (own k) (own_all ks) (known before k e))
    cases false e out in_it =
        in_it
        ∙ ap (λ l. each_once l (own_all ks)) (one_more before k)
        ∙ sym (added k (own_all before) (own_all ks) (unknown before k e))

  merged_is : (lines : List (List ℕ)) (before bases : List ℕ) → merged lines before bases ≡ once_after before (flat_map (λ b. get_or lines b []) bases)
  merged_is lines before [] = refl
  merged_is lines before (b ∷ bases) =
      merged_is lines (once_after before (get_or lines b [])) bases
      ∙ sym (once_append before (get_or lines b []) (flat_map (λ b. get_or lines b []) bases))

  own_of_lines : (lines : List (List ℕ)) (bases : List ℕ) → own_all (flat_map (λ b. get_or lines b []) bases) ≡ flat_map (λ b. own_all (get_or lines b [])) bases
  own_of_lines lines [] = refl
  own_of_lines lines (b ∷ bases) =
      flat_map-append (λ k. own_at (slice_get decls k)) (get_or lines b []) (flat_map (λ b. get_or lines b []) bases)
      ∙ ap (λ l. own_all (get_or lines b []) ++ l) (own_of_lines lines bases)

  -- the operations of the lines of the bases in order, each declaration once, are those of the bases in order, each once
  pub merged_operations : (lines : List (List ℕ)) (bases : List ℕ) → line_table decls (merged lines [] bases) ≡ each_once [] (flat_map (λ b. line_table decls (get_or lines b [])) bases)
  unfolding line_table
  merged_operations lines bases =
      ap (λ l. own_all l) (merged_is lines [] bases)
      ∙ once_is [] (flat_map (λ b. get_or lines b []) bases)
      ∙ ap (λ l. each_once [] l) (own_of_lines lines bases)
