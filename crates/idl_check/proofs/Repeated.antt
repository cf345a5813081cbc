-- The first name that is repeated.
use Rattle.std.proofs.Common.{◌≡◌, ℕ, ◌<◌, ◌≤◌, List, [], ◌∷◌, ◌++◌, length, map, take, get_or, cond, Option, Some, None, ◌⊎◌, inl, inr, refl, sym, ap, ◌∙◌, subst, arith}
use Rattle.std.specs.Prelude.{Any}
use Rattle.std.specs.List.{flat_map}
use Rattle.std.proofs.lemmas.List.{get_or-take, length-take, map-id}
use Rattle.std.proofs.lemmas.Option.{slice_get-get_or, slice_get_within, get_or_from_slice_get}
use Rattle.idl_reader.specs.declared.idl.Word.{Word}
use Rattle.idl_reader.specs.Tree.{OpTree, DeclTree, StructOf, EnumOf, InterfaceOf}
use Rattle.idl_check.specs.declared.why.UnfitWhy.TheVariants.{Repeated}
use Rattle.idl_check.specs.Names.{decl_name, has_name}
use Rattle.idl_check.specs.Verdict.{or_else, repeat_among, repeat_in_ops, repeat_in_decl, repeat_in}
use Rattle.idl_check.specs.FitsTogether.{AreDifferent, StandsAgain, lists_in, Holds}
use Rattle.idl_check.proofs.Lists.{none_of_nil, any_here, any_later, any_cases, any_at, any_left, any_right, any_map, map_any, any_flat_map, flat_map_any}
use Rattle.idl_check.proofs.Rises.{Rises, IsPlaceOf, rises_front, rises_rest, before}
use Rattle.idl_check.proofs.Twice.{search_from, Again, FindsInner, words_from, finds_some, finds_none, finds_least, again_inside, again_from, from_again}

-- ---- words alone

abbrev itself : Word → Word
itself w = w

abbrev no_place : Word → Option ℕ
no_place w = None

abbrev Nowhere : Word → ℕ → Type 0
Nowhere w place = ⊥

abbrev no_words : Word → List Word
no_words w = []

among_is : (seen words : List Word) → repeat_among seen words ≡ search_from itself no_place Nowhere no_words seen words
among_is seen [] = refl
among_is seen (w ∷ ws) = ap (λ (o : Option ℕ). cond (has_name w.text seen) (Some w.place) o) (among_is (seen ++ w ∷ []) ws)

finds_nowhere : FindsInner itself no_place Nowhere no_words
finds_nowhere = record { some = λ w place e. absurd cc; none = λ w place e a. a; inside = λ w place a. absurd a; least = λ w low first place r e a. absurd a }

never : (words : List Word) (place : ℕ) → Any (λ w. Nowhere w place) words → ⊥
never words place a = a.4

pub among_some : (words : List Word) (place : ℕ) → repeat_among [] words ≡ Some place → StandsAgain words place
among_some words place e = which (from_again itself no_place Nowhere no_words words place (finds_some itself no_place Nowhere no_words finds_nowhere [] words place (sym (among_is [] words) ∙ e))) where
  which : StandsAgain (map itself words) place ⊎ Any (λ w. Nowhere w place) words → StandsAgain words place
  which (inl twice) = subst (λ (ws : List Word). StandsAgain ws place) (map-id words) twice
  which (inr nowhere) = absurd (never words place nowhere)

again_of : (words : List Word) (place : ℕ) → StandsAgain words place → Again itself no_place Nowhere no_words [] words place
again_of words place twice = again_from itself no_place Nowhere no_words words place (inl (subst (λ (ws : List Word). StandsAgain ws place) (sym (map-id words)) twice))

pub among_none : (words : List Word) (place : ℕ) → repeat_among [] words ≡ None → StandsAgain words place → ⊥
among_none words place e twice = finds_none itself no_place Nowhere no_words finds_nowhere [] words place (sym (among_is [] words) ∙ e) (again_of words place twice)

each_alone : (words : List Word) → words_from itself no_place Nowhere no_words words ≡ words
each_alone [] = refl
each_alone (w ∷ ws) = ap (λ (l : List Word). w ∷ l) (each_alone ws)

pub among_least : (words : List Word) (low first place : ℕ) → Rises low words → repeat_among [] words ≡ Some first → StandsAgain words place → first ≤ place
among_least words low first place r e twice =
    finds_least itself no_place Nowhere no_words finds_nowhere [] words low first place (subst (λ (ws : List Word). Rises low ws) (sym (each_alone words)) r) (sym (among_is [] words) ∙ e) (again_of words place twice)

pub again_is_word : (words : List Word) (place : ℕ) → StandsAgain words place → IsPlaceOf words place
again_is_word words place twice = any_at (λ (w : Word). place ≡ w.place) words twice.number twice.word twice.word_at twice.place_is

-- ---- the operations of an interface, and the parameters of each

abbrev op_name : OpTree → Word
op_name op = op.name

abbrev param_names : OpTree → List Word
param_names op = map (λ param. param.name) op.params

abbrev params_again : OpTree → Option ℕ
params_again op = repeat_among [] (map (λ param. param.name) op.params)

abbrev ParamsAgain : OpTree → ℕ → Type 0
ParamsAgain op place = StandsAgain (map (λ param. param.name) op.params) place

ops_is : (seen : List Word) (ops : List OpTree) → repeat_in_ops seen ops ≡ search_from op_name params_again ParamsAgain param_names seen ops
ops_is seen [] = refl
ops_is seen (op ∷ ops) = ap (λ (o : Option ℕ). cond (has_name op.name.text seen) (Some op.name.place) (or_else (params_again op) o)) (ops_is (seen ++ op.name ∷ []) ops)

finds_params : FindsInner op_name params_again ParamsAgain param_names
finds_params = record {
  some = λ op place e. among_some (param_names op) place e;
  none = λ op place e a. among_none (param_names op) place e a;
  inside = λ op place a. again_is_word (param_names op) place a;
  least = λ op low first place r e a. among_least (param_names op) low first place r e a;
}

-- a name of an operation, or of a parameter, that is repeated
abbrev OpsAgain : List OpTree → ℕ → Type 0
OpsAgain ops place = StandsAgain (map (λ op. op.name) ops) place ⊎ Any (λ op. ParamsAgain op place) ops

ops_some : (ops : List OpTree) (place : ℕ) → repeat_in_ops [] ops ≡ Some place → OpsAgain ops place
ops_some ops place e = from_again op_name params_again ParamsAgain param_names ops place (finds_some op_name params_again ParamsAgain param_names finds_params [] ops place (sym (ops_is [] ops) ∙ e))

ops_none : (ops : List OpTree) (place : ℕ) → repeat_in_ops [] ops ≡ None → OpsAgain ops place → ⊥
ops_none ops place e a = finds_none op_name params_again ParamsAgain param_names finds_params [] ops place (sym (ops_is [] ops) ∙ e) (again_from op_name params_again ParamsAgain param_names ops place a)

abbrev names_of_ops : List OpTree → List Word
names_of_ops ops = words_from op_name params_again ParamsAgain param_names ops

ops_least : (ops : List OpTree) (low first place : ℕ) → Rises low (names_of_ops ops) → repeat_in_ops [] ops ≡ Some first → OpsAgain ops place → first ≤ place
ops_least ops low first place r e a = finds_least op_name params_again ParamsAgain param_names finds_params [] ops low first place r (sym (ops_is [] ops) ∙ e) (again_from op_name params_again ParamsAgain param_names ops place a)

ops_inside : (ops : List OpTree) (place : ℕ) → OpsAgain ops place → IsPlaceOf (names_of_ops ops) place
ops_inside ops place a = again_inside op_name params_again ParamsAgain param_names finds_params [] ops place (again_from op_name params_again ParamsAgain param_names ops place a)

-- ---- one declaration

-- the names that a declaration declares beside its own, in the order of the text
abbrev pub inner_names : DeclTree → List Word
inner_names (StructOf name fields) = map (λ field. field.name) fields
inner_names (EnumOf name names) = names
inner_names (InterfaceOf name bases ops) = bases ++ flat_map (λ op. op.name ∷ map (λ param. param.name) op.params) ops

abbrev DeclAgain : DeclTree → ℕ → Type 0
DeclAgain d place = Any (λ words. StandsAgain words place) (lists_in d)

abbrev Twice : ℕ → List Word → Type 0
Twice place words = StandsAgain words place

one_list : (place : ℕ) (words : List Word) → Any (Twice place) (words ∷ []) → StandsAgain words place
one_list place words a = which (any_cases (Twice place) words [] a) where
  which : StandsAgain words place ⊎ Any (Twice place) [] → StandsAgain words place
  which (inl here) = here
  which (inr nowhere) = absurd (none_of_nil (Twice place) nowhere)

-- the lists of an interface
module _ (bases : List Word) (ops : List OpTree) (place : ℕ) where
  abbrev more_lists : List (List Word)
  more_lists = map (λ op. op.name) ops ∷ map (λ op. map (λ param. param.name) op.params) ops

  of_ops : OpsAgain ops place → Any (Twice place) more_lists
  of_ops (inl names) = any_here (Twice place) (map (λ op. op.name) ops) (map (λ op. param_names op) ops) names
  of_ops (inr params) = any_later (Twice place) (map (λ op. op.name) ops) (map (λ op. param_names op) ops) (any_map (Twice place) param_names ops params)

  in_ops : Any (Twice place) more_lists → OpsAgain ops place
  in_ops a = which (any_cases (Twice place) (map (λ op. op.name) ops) (map (λ op. param_names op) ops) a) where
    which : StandsAgain (map (λ op. op.name) ops) place ⊎ Any (Twice place) (map (λ op. param_names op) ops) → OpsAgain ops place
    which (inl names) = inl names
    which (inr params) = inr (map_any (Twice place) param_names ops params)

  of_bases : StandsAgain bases place → Any (Twice place) (bases ∷ more_lists)
  of_bases twice = any_here (Twice place) bases more_lists twice

  of_interface : Any (Twice place) (bases ∷ more_lists) → StandsAgain bases place ⊎ OpsAgain ops place
  of_interface a = which (any_cases (Twice place) bases more_lists a) where
    which : StandsAgain bases place ⊎ Any (Twice place) more_lists → StandsAgain bases place ⊎ OpsAgain ops place
    which (inl here) = inl here
    which (inr later) = inr (in_ops later)

decl_some : (d : DeclTree) (place : ℕ) → repeat_in_decl d ≡ Some place → DeclAgain d place
decl_some (StructOf name fields) place e = any_here (Twice place) (map (λ field. field.name) fields) [] (among_some (map (λ field. field.name) fields) place e)
decl_some (EnumOf name names) place e = any_here (Twice place) names [] (among_some names place e)
decl_some (InterfaceOf name bases ops) place e = cases (repeat_among [] bases) refl e where
  cases : (o : Option ℕ) → repeat_among [] bases ≡ o → or_else o (repeat_in_ops [] ops) ≡ Some place → DeclAgain (InterfaceOf name bases ops) place
  cases None is h = any_later (Twice place) bases (more_lists bases ops place) (of_ops bases ops place (ops_some ops place h))
  cases (Some p) is h = let same : p ≡ place = cc in of_bases bases ops place (among_some bases place (is ∙ ap (λ n. Some n) same))

decl_none : (d : DeclTree) (place : ℕ) → repeat_in_decl d ≡ None → DeclAgain d place → ⊥
decl_none (StructOf name fields) place e a = among_none (map (λ field. field.name) fields) place e (one_list place (map (λ field. field.name) fields) a)
decl_none (EnumOf name names) place e a = among_none names place e (one_list place names a)
decl_none (InterfaceOf name bases ops) place e a = cases (repeat_among [] bases) refl e (of_interface bases ops place a) where
  cases : (o : Option ℕ) → repeat_among [] bases ≡ o → or_else o (repeat_in_ops [] ops) ≡ None → StandsAgain bases place ⊎ OpsAgain ops place → ⊥
  cases None is h (inl twice) = among_none bases place is twice
  cases None is h (inr later) = ops_none ops place h later
  cases (Some p) is h which = absurd cc

decl_inside : (d : DeclTree) (place : ℕ) → DeclAgain d place → IsPlaceOf (inner_names d) place
decl_inside (StructOf name fields) place a = again_is_word (map (λ field. field.name) fields) place (one_list place (map (λ field. field.name) fields) a)
decl_inside (EnumOf name names) place a = again_is_word names place (one_list place names a)
decl_inside (InterfaceOf name bases ops) place a = which (of_interface bases ops place a) where
  which : StandsAgain bases place ⊎ OpsAgain ops place → IsPlaceOf (bases ++ names_of_ops ops) place
  which (inl twice) = any_left (λ (w : Word). place ≡ w.place) bases (names_of_ops ops) (again_is_word bases place twice)
  which (inr later) = any_right (λ (w : Word). place ≡ w.place) bases (names_of_ops ops) (ops_inside ops place later)

decl_least : (d : DeclTree) (low first place : ℕ) → Rises low (inner_names d) → repeat_in_decl d ≡ Some first → DeclAgain d place → first ≤ place
decl_least (StructOf name fields) low first place r e a = among_least (map (λ field. field.name) fields) low first place r e (one_list place (map (λ field. field.name) fields) a)
decl_least (EnumOf name names) low first place r e a = among_least names low first place r e (one_list place names a)
decl_least (InterfaceOf name bases ops) low first place r e a = cases (repeat_among [] bases) refl e (of_interface bases ops place a) where
  cases : (o : Option ℕ) → repeat_among [] bases ≡ o → or_else o (repeat_in_ops [] ops) ≡ Some first → StandsAgain bases place ⊎ OpsAgain ops place → first ≤ place
  cases None is h (inl twice) = absurd (among_none bases place is twice)
  cases None is h (inr later) = ops_least ops low first place (rises_rest low bases (names_of_ops ops) r) h later
  cases (Some p) is h (inl twice) =
      let same : p ≡ first = cc in
      among_least bases low first place (rises_front low bases (names_of_ops ops) r) (is ∙ ap (λ n. Some n) same) twice
  cases (Some p) is h (inr later) =
      let same : p ≡ first = cc in
      let found = again_is_word bases first (among_some bases first (is ∙ ap (λ n. Some n) same)) in
      let low_first = before low bases (names_of_ops ops) r first place found (ops_inside ops place later) in
      omega arith

-- ---- all declarations

abbrev name_of : DeclTree → Word
name_of d = decl_name d

all_is : (seen : List Word) (ds : List DeclTree) → repeat_in seen ds ≡ search_from name_of repeat_in_decl DeclAgain inner_names seen ds
all_is seen [] = refl
all_is seen (d ∷ ds) = ap (λ (o : Option ℕ). cond (has_name (decl_name d).text seen) (Some (decl_name d).place) (or_else (repeat_in_decl d) o)) (all_is (seen ++ decl_name d ∷ []) ds)

finds_decls : FindsInner name_of repeat_in_decl DeclAgain inner_names
finds_decls = record { some = decl_some; none = decl_none; inside = decl_inside; least = decl_least }

-- the names that declarations declare, in the order of the text
abbrev pub declared_names : List DeclTree → List Word
declared_names ds = flat_map (λ d. decl_name d ∷ inner_names d) ds

module _ (decls : List DeclTree) (place : ℕ) where
  again_holds : StandsAgain (map (λ d. decl_name d) decls) place ⊎ Any (λ d. DeclAgain d place) decls → Holds decls Repeated place
  again_holds (inl names) = any_here (Twice place) (map (λ d. decl_name d) decls) (flat_map (λ d. lists_in d) decls) names
  again_holds (inr within) = any_later (Twice place) (map (λ d. decl_name d) decls) (flat_map (λ d. lists_in d) decls) (any_flat_map (Twice place) (λ d. lists_in d) decls within)

  holds_again : Holds decls Repeated place → Again name_of repeat_in_decl DeclAgain inner_names [] decls place
  holds_again a = again_from name_of repeat_in_decl DeclAgain inner_names decls place (which (any_cases (Twice place) (map (λ d. decl_name d) decls) (flat_map (λ d. lists_in d) decls) a)) where
    which : StandsAgain (map (λ d. decl_name d) decls) place ⊎ Any (Twice place) (flat_map (λ d. lists_in d) decls) → StandsAgain (map (λ d. decl_name d) decls) place ⊎ Any (λ d. DeclAgain d place) decls
    which (inl names) = inl names
    which (inr within) = inr (flat_map_any (Twice place) (λ d. lists_in d) decls within)

  pub repeated_some : repeat_in [] decls ≡ Some place → Holds decls Repeated place
  repeated_some e = again_holds (from_again name_of repeat_in_decl DeclAgain inner_names decls place (finds_some name_of repeat_in_decl DeclAgain inner_names finds_decls [] decls place (sym (all_is [] decls) ∙ e)))

  pub repeated_none : repeat_in [] decls ≡ None → Holds decls Repeated place → ⊥
  repeated_none e h = finds_none name_of repeat_in_decl DeclAgain inner_names finds_decls [] decls place (sym (all_is [] decls) ∙ e) (holds_again h)

  pub repeated_least : (low first : ℕ) → Rises low (declared_names decls) → repeat_in [] decls ≡ Some first → Holds decls Repeated place → first ≤ place
  repeated_least low first r e h = finds_least name_of repeat_in_decl DeclAgain inner_names finds_decls [] decls low first place r (sym (all_is [] decls) ∙ e) (holds_again h)

-- ---- words that differ

twice_of_pair : (words : List Word) (i j : ℕ) (d : Word) → i < j → j < length words → (get_or words i d).text ≡ (get_or words j d).text → StandsAgain words (get_or words j d).place
twice_of_pair words i j d low below same = record {
  number = j;
  word = get_or words j d;
  word_at = slice_get-get_or words j d below;
  before = any_at (λ (w : Word). w.text ≡ (get_or words j d).text) (take j words) i (get_or words i d)
      (let cut = length-take j words in
      slice_get-get_or (take j words) i d (omega arith) ∙ ap (λ (w : Word). Some w) (get_or-take j words i d low))
      same;
  place_is = refl;
}

-- no two words are equal exactly where none stands again
pub different_unless : (words : List Word) → ((place : ℕ) → StandsAgain words place → ⊥) → AreDifferent words
different_unless words none = λ i j d low below same. none (get_or words j d).place (twice_of_pair words i j d low below same)

pub different_not_again : (words : List Word) (place : ℕ) → AreDifferent words → StandsAgain words place → ⊥
different_not_again words place differ twice =
    let has = twice.before in
    let below = has.2 in
    let cut = length-take twice.number words in
    let high = slice_get_within words twice.number twice.word twice.word_at in
    let one : get_or words has.0 has.1 ≡ has.1 = sym (get_or-take twice.number words has.0 has.1 (omega arith)) ∙ has.3 in
    let other : get_or words twice.number has.1 ≡ twice.word = get_or_from_slice_get words twice.number twice.word has.1 twice.word_at in
    differ has.0 twice.number has.1 (omega arith) high (ap (λ (w : Word). w.text) one ∙ has.4 ∙ ap (λ (w : Word). w.text) (sym other))
