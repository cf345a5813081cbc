-- A name is declared by one line: all lines of an accepted text that declare it are alike, and the names of the mounted lists
-- differ.
use Rattle.std.proofs.Common.{◌≡◌, ℕ, zero, suc, List, [], ◌∷◌, ◌++◌, map, Bool, true, false, ◌&&◌, ◌||◌, Option, Some, None, refl, sym, ap, subst, ◌∙◌, inl, inr}
use Rattle.std.specs.Prelude.{slice_get}
use Rattle.std.specs.List.{list_any, filter, filter_map, cons_option, fold, AllByRecursion}
use Rattle.std.specs.Str.{bytes_eq}
use Rattle.std.proofs.lemmas.Slice.Eq.{bytes_eq-Decides}
use Rattle.std.proofs.lemmas.Bool.{or_cases, or_parts, or_from, or_left, or_right, and_parts, both_ways, false≢true, cond_both}
use Rattle.stack_text.specs.declared.stack.StackLine.{StackLine}
use Rattle.stack_text.specs.declared.stack.StackLine.TheVariants.{File, Layer}
use Rattle.stack_text.specs.declared.stack.LayerKind.TheVariants.{Disk}
use Rattle.stack_accept.specs.Lines.{is_file, is_disk, name_of, machine_of, is_word, is_named}
use Rattle.stack_accept.specs.Rules.{is_taken, KeepsRules}
use Rattle.stack_accept.specs.Mount.{file_of, disk_of, with_machine, machines_of}
use Rattle.stack_accept.specs.Sound.{AreDifferent}
use Rattle.stack_accept.proofs.Lists.{same_value, list_any_filter, list_any_weaker, list_any_push}
use Rattle.stack_accept.proofs.NodeLaws.{taken_later}
use Rattle.stack_accept.proofs.BackLaws.{bytes_turn}
use Rattle.stack_accept.proofs.DiskLaws.{has, AreDistinct}

-- a line's own name is taken behind it
pub own_taken : (earlier : List StackLine) (line : StackLine) (name : List ℕ) → is_named name line ≡ true → is_taken (earlier ++ line ∷ []) name ≡ true
own_taken earlier line name e = list_any_push (λ l. is_named name l) earlier line ∙ or_right (is_taken earlier name) (is_named name line) e

all_unnamed : (P : StackLine → Type 0) (name : List ℕ) (lines : List StackLine) → list_any (λ line. is_named name line) lines ≡ false → AllByRecursion (λ line. is_named name line ≡ true → P line) lines
all_unnamed P name [] e = tt
all_unnamed P name (line ∷ lines) e =
    let parts = or_parts (is_named name line) (list_any (λ l. is_named name l) lines) e in
    ((λ named. absurd (both_ways (is_named name line) parts.0 named)), all_unnamed P name lines parts.1)

-- every line of a name passes a test that one of them passes
pub all_named : (p : StackLine → Bool) (name : List ℕ) (earlier lines : List StackLine) → KeepsRules earlier lines → list_any (λ line. p line && is_named name line) lines ≡ true
    → AllByRecursion (λ line. is_named name line ≡ true → p line ≡ true) lines
all_named p name earlier [] kept e = absurd (false≢true e)
all_named p name earlier (line ∷ lines) kept e =
    elim (or_cases (p line && is_named name line) (list_any (λ l. p l && is_named name l) lines) e) [
      | inl here ↦
          let both = and_parts (p line) (is_named name line) here in
          ((λ named. both.0), all_unnamed (λ l. p l ≡ true) name lines (taken_later (earlier ++ line ∷ []) lines name kept.1 (own_taken earlier line name both.1)))
      | inr later ↦
          let some : list_any (λ l. is_named name l) lines ≡ true = list_any_weaker (λ l. p l && is_named name l) (λ l. is_named name l) (λ l is. (and_parts (p l) (is_named name l) is).1) lines later in (
            λ named. absurd (both_ways (list_any (λ l. is_named name l) lines) (taken_later (earlier ++ line ∷ []) lines name kept.1 (own_taken earlier line name named)) some),
            all_named p name (earlier ++ line ∷ []) lines kept.1 later,
          )
    ]

-- names by place

has_at : (names : List (List ℕ)) (a : ℕ) (name : List ℕ) → slice_get names a ≡ Some name → has names name ≡ true
has_at [] a name e = absurd cc
has_at (own ∷ names) zero name e = or_left (bytes_eq own name) (has names name) ((bytes_eq-Decides own name).1 (same_value own name e))
has_at (own ∷ names) (suc a) name e = or_right (bytes_eq own name) (has names name) (has_at names a name e)

pub distinct_apart : (names : List (List ℕ)) → AreDistinct names → AreDifferent names
distinct_apart [] h a b name at at' = absurd cc
distinct_apart (own ∷ names) h zero zero name at at' = refl
distinct_apart (own ∷ names) h zero (suc b) name at at' =
    absurd (both_ways (has names own) h.0 (ap (λ n. has names n) (same_value own name at) ∙ has_at names b name at'))
distinct_apart (own ∷ names) h (suc a) zero name at at' =
    absurd (both_ways (has names own) h.0 (ap (λ n. has names n) (same_value own name at') ∙ has_at names a name at))
distinct_apart (own ∷ names) h (suc a) (suc b) name at at' = ap suc (distinct_apart names h.1 a b name at at')

-- the names that lines declare

abbrev pub names_of : List StackLine → List (List ℕ)
names_of lines = filter_map (λ line. name_of line) lines

has_option : (own : Option (List ℕ)) (names : List (List ℕ)) (name : List ℕ) → has (cons_option own names) name ≡ (is_word own name || has names name)
has_option None names name = refl
has_option (Some own) names name = refl

pub has_names : (lines : List StackLine) (name : List ℕ) → has (names_of lines) name ≡ list_any (λ line. is_named name line) lines
has_names [] name = refl
has_names (line ∷ lines) name = has_option (name_of line) (names_of lines) name ∙ ap (λ t. is_named name line || t) (has_names lines name)

pub distinct_option : (own : Option (List ℕ)) (names : List (List ℕ)) → ((name : List ℕ) → own ≡ Some name → has names name ≡ false) → AreDistinct names → AreDistinct (cons_option own names)
distinct_option None names new h = h
distinct_option (Some own) names new h = (new own refl, h)

pub named_own : (line : StackLine) (name : List ℕ) → name_of line ≡ Some name → is_named name line ≡ true
named_own line name e = ap (λ o. is_word o name) e ∙ (bytes_eq-Decides name name).1 refl

-- those of the lines that pass a test
pub names_distinct : (p : StackLine → Bool) (earlier lines : List StackLine) → KeepsRules earlier lines → AreDistinct (names_of (filter p lines))
names_distinct p earlier [] kept = tt
names_distinct p earlier (line ∷ lines) kept =
    let rest = names_distinct p (earlier ++ line ∷ []) lines kept.1 in
    let new : (name : List ℕ) → name_of line ≡ Some name → has (names_of (filter p lines)) name ≡ false =
    λ name is.
    has_names (filter p lines) name
    ∙ list_any_filter (λ l. is_named name l) p lines (taken_later (earlier ++ line ∷ []) lines name kept.1 (own_taken earlier line name (named_own line name is))) in
    cond_both (p line) (line ∷ filter p lines) (filter p lines) (λ ls. AreDistinct (names_of ls)) (λ _. distinct_option (name_of line) (names_of (filter p lines)) new rest) (λ _. rest)

-- the files' names, and the disks'

file_name : (line : StackLine) (lines : List StackLine) → map (λ file. file.name) (filter_map (λ l. file_of l) lines) ≡ names_of (filter (λ l. is_file l) lines)
    → map (λ file. file.name) (filter_map (λ l. file_of l) (line ∷ lines)) ≡ names_of (filter (λ l. is_file l) (line ∷ lines))
file_name (File name pages) lines e = ap (λ names. name ∷ names) e
file_name _ lines e = e

file_names : (lines : List StackLine) → map (λ file. file.name) (filter_map (λ line. file_of line) lines) ≡ names_of (filter (λ line. is_file line) lines)
file_names [] = refl
file_names (line ∷ lines) = file_name line lines (file_names lines)

disk_name : (line : StackLine) (lines : List StackLine) → filter_map (λ l. disk_of l) lines ≡ names_of (filter (λ l. is_disk l) lines) → filter_map (λ l. disk_of l) (line ∷ lines) ≡ names_of (filter (λ l. is_disk l) (line ∷ lines))
disk_name (Layer name machine Disk) lines e = ap (λ names. name ∷ names) e
disk_name _ lines e = e

disk_names : (lines : List StackLine) → filter_map (λ line. disk_of line) lines ≡ names_of (filter (λ line. is_disk line) lines)
disk_names [] = refl
disk_names (line ∷ lines) = disk_name line lines (disk_names lines)

pub files_differ : (lines : List StackLine) → KeepsRules [] lines → AreDifferent (map (λ file. file.name) (filter_map (λ line. file_of line) lines))
files_differ lines kept = subst AreDifferent (sym (file_names lines)) (distinct_apart _ (names_distinct (λ line. is_file line) [] lines kept))

pub disks_differ : (lines : List StackLine) → KeepsRules [] lines → AreDifferent (filter_map (λ line. disk_of line) lines)
disks_differ lines kept = subst AreDifferent (sym (disk_names lines)) (distinct_apart _ (names_distinct (λ line. is_disk line) [] lines kept))

-- the machines' names

has_push : (names : List (List ℕ)) (last name : List ℕ) → has names name ≡ false → bytes_eq last name ≡ false → has (names ++ last ∷ []) name ≡ false
has_push names last name none apart = list_any_push (λ own. bytes_eq own name) names last ∙ or_from (has names name) (bytes_eq last name) none apart

distinct_push : (names : List (List ℕ)) (last : List ℕ) → has names last ≡ false → AreDistinct names → AreDistinct (names ++ last ∷ [])
distinct_push [] last none h = (refl, tt)
distinct_push (own ∷ names) last none h =
    let parts = or_parts (bytes_eq own last) (has names last) none in
    (has_push names last own h.0 (bytes_turn own last parts.0), distinct_push names last parts.1 h.1)

distinct_machine : (names : List (List ℕ)) (machine : Option (List ℕ)) → AreDistinct names → AreDistinct (with_machine names machine)
distinct_machine names None h = h
distinct_machine names (Some name) h = cond_both (has names name) names (names ++ name ∷ []) AreDistinct (λ _. h) (λ none. distinct_push names name none h)

distinct_onto : (names : List (List ℕ)) (lines : List StackLine) → AreDistinct names → AreDistinct (fold (λ ns line. with_machine ns (machine_of line)) names lines)
distinct_onto names [] h = h
distinct_onto names (line ∷ lines) h = distinct_onto (with_machine names (machine_of line)) lines (distinct_machine names (machine_of line) h)

pub machines_differ : (lines : List StackLine) → AreDifferent (machines_of lines)
machines_differ lines = distinct_apart (machines_of lines) (distinct_onto [] lines tt)
