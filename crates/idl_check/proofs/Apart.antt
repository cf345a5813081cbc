-- Declarations that fit together have different names, and so have the operations of one of them; and each base is an interface.
use Rattle.std.proofs.Common.{◌≡◌, ℕ, zero, suc, List, [], ◌∷◌, ◌++◌, map, Bool, true, false, ◌||◌, cond, Option, Some, None, refl, sym, ap, subst, ◌∙◌}
use Rattle.std.specs.Prelude.{slice_get}
use Rattle.std.specs.List.{flat_map}
use Rattle.std.specs.Str.{bytes_eq}
use Rattle.std.proofs.lemmas.List.Folds.{list_any-append}
use Rattle.std.proofs.lemmas.Slice.Eq.{bytes_eq-Decides}
use Rattle.idl_reader.specs.declared.idl.Word.{Word}
use Rattle.idl_reader.specs.Tree.{OpTree, DeclTree, StructOf, EnumOf, InterfaceOf}
use Rattle.idl_check.specs.Names.{decl_name, has_name, bases_of, op_names}
use Rattle.idl_check.specs.Verdict.{or_else, repeat_among, repeat_in_ops, repeat_in_decl, repeat_in, first_failing}

neither : (a b : Bool) → (a || b) ≡ false → (a ≡ false) × (b ≡ false)
neither true b e = absurd cc
neither false b e = (refl, e)

or_else_none : (a b : Option ℕ) → or_else a b ≡ None → (a ≡ None) × (b ≡ None)
or_else_none None b e = (refl, e)
or_else_none (Some place) b e = absurd cc

-- what no repetition says of the first declaration, and of the rest
record Apart (before : List Word) (d : DeclTree) (ds : List DeclTree) : Type 0 where
  new : has_name (decl_name d).text before ≡ false
  own : repeat_in_decl d ≡ None
  rest : repeat_in (before ++ decl_name d ∷ []) ds ≡ None

apart : (before : List Word) (d : DeclTree) (ds : List DeclTree) → repeat_in before (d ∷ ds) ≡ None → Apart before d ds
apart before d ds none = cases (has_name (decl_name d).text before) refl none where
  cases : (b : Bool) → has_name (decl_name d).text before ≡ b → cond b (Some (decl_name d).place) (or_else (repeat_in_decl d) (repeat_in (before ++ decl_name d ∷ []) ds)) ≡ None → Apart before d ds
  cases true e h = absurd cc
  cases false e h =
      let both = or_else_none (repeat_in_decl d) (repeat_in (before ++ decl_name d ∷ []) ds) h in
      record { new = e; own = both.0; rest = both.1 }

new_of_two : (name : List ℕ) (before : List Word) (word : Word) → has_name name (before ++ word ∷ []) ≡ false → (has_name name before ≡ false) × (bytes_eq word.text name ≡ false)
new_of_two name before word h =
    let both = neither (has_name name before) (has_name name (word ∷ [])) (sym (list_any-append (λ w. bytes_eq w.text name) before (word ∷ [])) ∙ h) in
    (both.0, (neither (bytes_eq word.text name) false both.1).0)

later_is_new : (before : List Word) (ds : List DeclTree) → repeat_in before ds ≡ None → (j : ℕ) (e : DeclTree) → slice_get ds j ≡ Some e → has_name (decl_name e).text before ≡ false
later_is_new before [] none j e at = absurd cc
later_is_new before (d ∷ ds) none zero e at =
    let same : d ≡ e = cc in
    subst (λ (x : DeclTree). has_name (decl_name x).text before ≡ false) same (apart before d ds none).new
later_is_new before (d ∷ ds) none (suc j) e at =
    (new_of_two (decl_name e).text before (decl_name d) (later_is_new (before ++ decl_name d ∷ []) ds (apart before d ds none).rest j e at)).0

first_is_other : (before : List Word) (d : DeclTree) (ds : List DeclTree) → repeat_in before (d ∷ ds) ≡ None → (j : ℕ) (e : DeclTree) → slice_get ds j ≡ Some e → bytes_eq (decl_name d).text (decl_name e).text ≡ false
first_is_other before d ds none j e at =
    (new_of_two (decl_name e).text before (decl_name d) (later_is_new (before ++ decl_name d ∷ []) ds (apart before d ds none).rest j e at)).1

-- a name is that of one declaration
pub names_apart : (before : List Word) (ds : List DeclTree) → repeat_in before ds ≡ None → (i j : ℕ) (d e : DeclTree) → slice_get ds i ≡ Some d → slice_get ds j ≡ Some e → (decl_name d).text ≡ (decl_name e).text → i ≡ j
names_apart before [] none i j d e at there same = absurd cc
names_apart before (x ∷ ds) none zero zero d e at there same = refl
names_apart before (x ∷ ds) none zero (suc j) d e at there same =
    let here : x ≡ d = cc in
    let isnt = first_is_other before x ds none j e there in
    let is = (bytes_eq-Decides (decl_name x).text (decl_name e).text).1 (ap (λ (y : DeclTree). (decl_name y).text) here ∙ same) in
    absurd cc
names_apart before (x ∷ ds) none (suc i) zero d e at there same =
    let here : x ≡ e = cc in
    let isnt = first_is_other before x ds none i d at in
    let is = (bytes_eq-Decides (decl_name x).text (decl_name d).text).1 (ap (λ (y : DeclTree). (decl_name y).text) here ∙ sym same) in
    absurd cc
names_apart before (x ∷ ds) none (suc i) (suc j) d e at there same =
    ap (λ n. suc n) (names_apart (before ++ decl_name x ∷ []) ds (apart before x ds none).rest i j d e at there same)

own_apart : (before : List Word) (ds : List DeclTree) → repeat_in before ds ≡ None → (i : ℕ) (d : DeclTree) → slice_get ds i ≡ Some d → repeat_in_decl d ≡ None
own_apart before [] none i d at = absurd cc
own_apart before (x ∷ ds) none zero d at =
    let same : x ≡ d = cc in
    subst (λ (y : DeclTree). repeat_in_decl y ≡ None) same (apart before x ds none).own
own_apart before (x ∷ ds) none (suc i) d at = own_apart (before ++ decl_name x ∷ []) ds (apart before x ds none).rest i d at

names_of_ops : (before : List Word) (ops : List OpTree) → repeat_in_ops before ops ≡ None → repeat_among before (map (λ op. op.name) ops) ≡ None
names_of_ops before [] none = refl
names_of_ops before (op ∷ ops) none = cases (has_name op.name.text before) none (names_of_ops (before ++ op.name ∷ []) ops) where
  cases : (b : Bool) → cond b (Some op.name.place) (or_else (repeat_among [] (map (λ param. param.name) op.params)) (repeat_in_ops (before ++ op.name ∷ []) ops)) ≡ None
      → (repeat_in_ops (before ++ op.name ∷ []) ops ≡ None → repeat_among (before ++ op.name ∷ []) (map (λ op. op.name) ops) ≡ None)
      → cond b (Some op.name.place) (repeat_among (before ++ op.name ∷ []) (map (λ op. op.name) ops)) ≡ None
  cases true h rest = absurd cc
  cases false h rest = rest (or_else_none (repeat_among [] (map (λ param. param.name) op.params)) (repeat_in_ops (before ++ op.name ∷ []) ops) h).1

ops_of_decl : (d : DeclTree) → repeat_in_decl d ≡ None → repeat_among [] (op_names d) ≡ None
ops_of_decl (StructOf name fields) none = refl
ops_of_decl (EnumOf name names) none = refl
ops_of_decl (InterfaceOf name bases ops) none = names_of_ops [] ops (or_else_none (repeat_among [] bases) (repeat_in_ops [] ops) none).1

-- no two operations of one declaration have one name
pub ops_apart : (ds : List DeclTree) → repeat_in [] ds ≡ None → (i : ℕ) (d : DeclTree) → slice_get ds i ≡ Some d → repeat_among [] (op_names d) ≡ None
ops_apart ds none i d at = ops_of_decl d (own_apart [] ds none i d at)

both_pass : (test : Word → Bool) (xs ys : List Word) → first_failing test (xs ++ ys) ≡ None → (first_failing test xs ≡ None) × (first_failing test ys ≡ None)
both_pass test [] ys none = (refl, none)
both_pass test (x ∷ xs) ys none = cases (test x) none (both_pass test xs ys) where
  cases : (b : Bool) → cond b (first_failing test (xs ++ ys)) (Some x.place) ≡ None → (first_failing test (xs ++ ys) ≡ None → (first_failing test xs ≡ None) × (first_failing test ys ≡ None))
      → (cond b (first_failing test xs) (Some x.place) ≡ None) × (first_failing test ys ≡ None)
  cases true h rest = rest h
  cases false h rest = absurd cc

-- what holds of the bases of all declarations holds of those of each
pub bases_pass : (test : Word → Bool) (ds : List DeclTree) → first_failing test (flat_map (λ d. bases_of d) ds) ≡ None → (i : ℕ) (d : DeclTree) → slice_get ds i ≡ Some d → first_failing test (bases_of d) ≡ None
bases_pass test [] none i d at = absurd cc
bases_pass test (x ∷ ds) none zero d at =
    let same : x ≡ d = cc in
    subst (λ (y : DeclTree). first_failing test (bases_of y) ≡ None) same (both_pass test (bases_of x) (flat_map (λ d. bases_of d) ds) none).0
bases_pass test (x ∷ ds) none (suc i) d at = bases_pass test ds (both_pass test (bases_of x) (flat_map (λ d. bases_of d) ds) none).1 i d at
