-- The ground of an accepted text has each disk once. The parts of storage that stand under nothing yet have, together, each
-- disk so far once; at the end the first node is the only part left.
use Rattle.std.proofs.Common.{◌≡◌, ℕ, List, [], ◌∷◌, ◌++◌, reverse, Bool, true, false, not, ◌&&◌, ◌||◌, cond, refl, sym, ap, subst, ◌∙◌, inl, inr, append_assoc}
use Rattle.std.specs.List.{list_any, filter, flat_map, AllByRecursion}
use Rattle.std.specs.List.Sorted.{IsPermutation}
use Rattle.std.specs.Str.{bytes_eq}
use Rattle.std.proofs.lemmas.Slice.Eq.{bytes_eq-Decides}
use Rattle.std.proofs.lemmas.Bool.{cases_Bool, or_cases, or_parts, or_from, or_left, or_right, and_parts, and_from, both_ways, false≢true, not_from_true, not_from_false, false_from_ne_true, cond-false, cond-true, cond_both}
use Rattle.std.proofs.lemmas.List.Sorted.{IsPermutation-refl, IsPermutation-trans, IsPermutation-append_left, IsPermutation-append_right, IsPermutation-append_comm}
use Rattle.stack_text.specs.declared.stack.StackLine.{StackLine}
use Rattle.stack_text.specs.declared.stack.StackLine.TheVariants.{Page, File, Layer}
use Rattle.stack_text.specs.declared.stack.LayerKind.TheVariants.{Mirror, Upper}
use Rattle.stack_text.specs.declared.stack.UpperKind.TheVariants.{Coherency}
use Rattle.stack_accept.specs.declared.rule.Rule.TheVariants.{EarlierLayer}
use Rattle.stack_accept.specs.Lines.{is_storage, is_named, stands_on, is_declared, is_storage_name, is_used, is_coherent_storage}
use Rattle.stack_accept.specs.Rules.{keeps, is_taken}
use Rattle.stack_accept.proofs.Lists.{list_any_filter}
use Rattle.stack_accept.proofs.BackLaws.{KeepsBack, any_reverse, tail_back, declared_back, old_storage, bytes_turn}

-- a part of storage: a disk, a mirror, or a coherency layer on one
abbrev pub is_part : List StackLine → StackLine → Bool
is_part back line = is_storage line || is_coherent_storage back line

abbrev pub part_named : List StackLine → List ℕ → Bool
part_named [] name = false
part_named (line ∷ back) name = (is_part back line && is_named name line) || part_named back name

-- the line puts the part of the name into its own
abbrev pub takes : List StackLine → StackLine → List ℕ → Bool
takes back (Layer own machine (Mirror left right)) name = bytes_eq left name || bytes_eq right name
takes back (Layer own machine (Upper Coherency below)) name = is_storage_name back below && bytes_eq below name
takes back _ name = false

abbrev pub is_put : List StackLine → List ℕ → Bool
is_put [] name = false
is_put (line ∷ back) name = takes back line name || is_put back name

abbrev pub own_name : StackLine → List ℕ
own_name (Page size) = []
own_name (File name pages) = name
own_name (Layer name machine kind) = name

-- the names of the parts that stand in no other
abbrev pub left_by : List StackLine → StackLine → List (List ℕ) → List (List ℕ)
left_by back line names = filter (λ name. not (takes back line name)) names

abbrev pub parts : List StackLine → List (List ℕ)
parts [] = []
parts (line ∷ back) = cond (is_part back line) (own_name line ∷ left_by back line (parts back)) (parts back)

-- lists of names

abbrev pub has : List (List ℕ) → List ℕ → Bool
has names name = list_any (λ own. bytes_eq own name) names

abbrev pub AreDistinct : List (List ℕ) → Type 0
AreDistinct [] = Unit {0}
AreDistinct (name ∷ names) = (has names name ≡ false) × AreDistinct names

pub distinct_filter : (keep : List ℕ → Bool) (names : List (List ℕ)) → AreDistinct names → AreDistinct (filter keep names)
distinct_filter keep [] h = tt
distinct_filter keep (name ∷ names) h =
    cond_both (keep name) (name ∷ filter keep names) (filter keep names) AreDistinct
    (λ _. (list_any_filter (λ own. bytes_eq own name) keep names h.0, distinct_filter keep names h.1)) (λ _. distinct_filter keep names h.1)

pub has_filter : (keep : List ℕ → Bool) (names : List (List ℕ)) (name : List ℕ) → has names name ≡ true → keep name ≡ true → has (filter keep names) name ≡ true
has_filter keep [] name e k = absurd (false≢true e)
has_filter keep (own ∷ names) name e k =
    elim (or_cases (bytes_eq own name) (has names name) e) [
      | inl here ↦
          let same : keep own ≡ true = ap keep ((bytes_eq-Decides own name).0 here) ∙ k in
          ap (λ ns. has ns name) (cond-true (keep own) (own ∷ filter keep names) (filter keep names) same) ∙ or_left (bytes_eq own name) _ here
      | inr later ↦
          let rest = has_filter keep names name later k in
          cond_both (keep own) (own ∷ filter keep names) (filter keep names) (λ ns. has ns name ≡ true) (λ _. or_right (bytes_eq own name) (has (filter keep names) name) rest) (λ _. rest)
    ]

pub all_filter : (P : List ℕ → Type 0) (keep : List ℕ → Bool) (names : List (List ℕ)) → AllByRecursion P names → AllByRecursion (λ name. P name × (keep name ≡ true)) (filter keep names)
all_filter P keep [] h = tt
all_filter P keep (name ∷ names) h =
    let rest = all_filter P keep names h.1 in
    cond_both (keep name) (name ∷ filter keep names) (filter keep names) (AllByRecursion (λ n. P n × (keep n ≡ true))) (λ k. ((h.0, k), rest)) (λ _. rest)

pub all_weaker : {X : Type 0} (P Q : X → Type 0) → ((x : X) → P x → Q x) → (xs : List X) → AllByRecursion P xs → AllByRecursion Q xs
all_weaker P Q f [] h = tt
all_weaker P Q f (x ∷ xs) h = (f x h.0, all_weaker P Q f xs h.1)

pub filter_same : (p q : List ℕ → Bool) → ((name : List ℕ) → p name ≡ q name) → (names : List (List ℕ)) → filter p names ≡ filter q names
filter_same p q e [] = refl
filter_same p q e (name ∷ names) = ap (λ t. cond t (name ∷ filter p names) (filter p names)) (e name) ∙ ap (λ ns. cond (q name) (name ∷ ns) ns) (filter_same p q e names)

pub filter_all : (p : List ℕ → Bool) → ((name : List ℕ) → p name ≡ true) → (names : List (List ℕ)) → filter p names ≡ names
filter_all p e [] = refl
filter_all p e (name ∷ names) = cond-true (p name) (name ∷ filter p names) (filter p names) (e name) ∙ ap (λ ns. name ∷ ns) (filter_all p e names)

pub filter_both : (p q : List ℕ → Bool) (names : List (List ℕ)) → filter (λ name. not (p name || q name)) names ≡ filter (λ name. not (p name)) (filter (λ name. not (q name)) names)
filter_both p q [] = refl
filter_both p q (name ∷ names) = cases (p name) (q name) refl refl (filter_both p q names) where
  cases : (a b : Bool) → p name ≡ a → q name ≡ b → filter (λ n. not (p n || q n)) names ≡ filter (λ n. not (p n)) (filter (λ n. not (q n)) names) → filter (λ n. not (p n || q n)) (name ∷ names) ≡ filter (λ n. not (p n)) (filter (λ n. not (q n)) (name ∷ names))
  cases a true e f rest =
      let dropped : filter (λ n. not (q n)) (name ∷ names) ≡ filter (λ n. not (q n)) names = ap (λ t. cond (not t) (name ∷ filter (λ n. not (q n)) names) (filter (λ n. not (q n)) names)) f in
      let both : not (p name || q name) ≡ false = ap not (or_right (p name) (q name) f) in
      cond-false (not (p name || q name)) (name ∷ filter (λ n. not (p n || q n)) names) (filter (λ n. not (p n || q n)) names) both ∙ rest ∙ ap (filter (λ n. not (p n))) (sym dropped)
  cases true false e f rest =
      let held : filter (λ n. not (q n)) (name ∷ names) ≡ name ∷ filter (λ n. not (q n)) names = ap (λ t. cond (not t) (name ∷ filter (λ n. not (q n)) names) (filter (λ n. not (q n)) names)) f in
      let both : not (p name || q name) ≡ false = ap not (or_left (p name) (q name) e) in
      cond-false (not (p name || q name)) (name ∷ filter (λ n. not (p n || q n)) names) (filter (λ n. not (p n || q n)) names) both ∙ rest
      ∙ sym (ap (filter (λ n. not (p n))) held ∙ cond-false (not (p name)) (name ∷ filter (λ n. not (p n)) (filter (λ n. not (q n)) names)) (filter (λ n. not (p n)) (filter (λ n. not (q n)) names)) (ap not e))
  cases false false e f rest =
      let held : filter (λ n. not (q n)) (name ∷ names) ≡ name ∷ filter (λ n. not (q n)) names = ap (λ t. cond (not t) (name ∷ filter (λ n. not (q n)) names) (filter (λ n. not (q n)) names)) f in
      let both : not (p name || q name) ≡ true = ap not (or_from (p name) (q name) e f) in
      cond-true (not (p name || q name)) (name ∷ filter (λ n. not (p n || q n)) names) (filter (λ n. not (p n || q n)) names) both ∙ ap (λ ns. name ∷ ns) (rest)
      ∙ sym (ap (filter (λ n. not (p n))) held ∙ cond-true (not (p name)) (name ∷ filter (λ n. not (p n)) (filter (λ n. not (q n)) names)) (filter (λ n. not (p n)) (filter (λ n. not (q n)) names)) (ap not e))

-- one name taken out of a list

swap_front : (a b c : List ℕ) → IsPermutation (a ++ (b ++ c)) (b ++ (a ++ c))
swap_front a b c =
    subst (λ xs. IsPermutation xs (b ++ (a ++ c))) (append_assoc a b c)
    (subst (λ ys. IsPermutation ((a ++ b) ++ c) ys) (append_assoc b a c) (IsPermutation-append_left c (a ++ b) (b ++ a) (IsPermutation-append_comm a b)))

abbrev pub without : List ℕ → List (List ℕ) → List (List ℕ)
without name names = filter (λ own. not (bytes_eq name own)) names

without_none : (name : List ℕ) (names : List (List ℕ)) → has names name ≡ false → without name names ≡ names
without_none name [] e = refl
without_none name (own ∷ names) e =
    let apart = or_parts (bytes_eq own name) (has names name) e in
    cond-true (not (bytes_eq name own)) (own ∷ without name names) (without name names) (not_from_false (bytes_eq name own) (bytes_turn own name apart.0)) ∙ ap (λ ns. own ∷ ns) (without_none name names apart.1)

pub take_out : (g : List ℕ → List ℕ) (names : List (List ℕ)) (name : List ℕ) → AreDistinct names → has names name ≡ true → IsPermutation (flat_map g names) (g name ++ flat_map g (without name names))
take_out g [] name d e = absurd (false≢true e)
take_out g (own ∷ names) name d e =
    elim (cases_Bool (bytes_eq own name)) [
      | inl here ↦
          let same = (bytes_eq-Decides own name).0 here in
          let none : has names name ≡ false = ap (λ n. has names n) (sym same) ∙ d.0 in
          let gone : without name (own ∷ names) ≡ names =
          cond-false (not (bytes_eq name own)) (own ∷ without name names) (without name names) (not_from_true (bytes_eq name own) ((bytes_eq-Decides name own).1 (sym same))) ∙ without_none name names none in
          subst (λ ns. IsPermutation (flat_map g (own ∷ names)) (g name ++ flat_map g ns)) (sym gone)
          (subst (λ n. IsPermutation (flat_map g (own ∷ names)) (g n ++ flat_map g names)) same (IsPermutation-refl (flat_map g (own ∷ names))))
      | inr not_here ↦
          let later : has names name ≡ true = elim (or_cases (bytes_eq own name) (has names name) e) [ inl here ↦ absurd (both_ways (bytes_eq own name) not_here here) | inr l ↦ l ] in
          let held : without name (own ∷ names) ≡ own ∷ without name names =
          cond-true (not (bytes_eq name own)) (own ∷ without name names) (without name names) (not_from_false (bytes_eq name own) (bytes_turn own name not_here)) in
          let rest = take_out g names name d.1 later in
          subst (λ ns. IsPermutation (flat_map g (own ∷ names)) (g name ++ flat_map g ns)) (sym held)
          (IsPermutation-trans (flat_map g (own ∷ names)) (g own ++ (g name ++ flat_map g (without name names))) (g name ++ (g own ++ flat_map g (without name names)))
          (IsPermutation-append_right (g own) (flat_map g names) (g name ++ flat_map g (without name names)) rest) (swap_front (g own) (g name) (flat_map g (without name names))))
    ]

-- what a line takes is declared behind it, and used

pub takes_declared : (back : List StackLine) (line : StackLine) (name : List ℕ) → keeps EarlierLayer (reverse back) line ≡ true → takes back line name ≡ true → is_taken back name ≡ true
takes_declared back (Layer own machine (Mirror left right)) name e t =
    let both = and_parts (is_declared (reverse back) left) (is_declared (reverse back) right) e in
    elim (or_cases (bytes_eq left name) (bytes_eq right name) t) [
      | inl l ↦ subst (λ n. is_taken back n ≡ true) ((bytes_eq-Decides left name).0 l) (declared_back back left both.0)
      | inr r ↦ subst (λ n. is_taken back n ≡ true) ((bytes_eq-Decides right name).0 r) (declared_back back right both.1)
    ]
takes_declared back (Layer own machine (Upper Coherency below)) name e t =
    subst (λ n. is_taken back n ≡ true) ((bytes_eq-Decides below name).0 (and_parts (is_storage_name back below) (bytes_eq below name) t).1) (declared_back back below e)
takes_declared back _ name e t = absurd (false≢true t)

pub put_declared : (back : List StackLine) (name : List ℕ) → KeepsBack back → is_put back name ≡ true → is_taken back name ≡ true
put_declared [] name keeps e = absurd (false≢true e)
put_declared (line ∷ back) name keeps e =
    elim (or_cases (takes back line name) (is_put back name) e) [
      | inl here ↦ or_right (is_named name line) (is_taken back name) (takes_declared back line name (keeps.0 EarlierLayer) here)
      | inr later ↦ or_right (is_named name line) (is_taken back name) (put_declared back name keeps.1 later)
    ]

pub takes_used : (back : List StackLine) (line : StackLine) (name : List ℕ) → takes back line name ≡ true → stands_on name line ≡ true
takes_used back (Layer own machine (Mirror left right)) name t = t
takes_used back (Layer own machine (Upper Coherency below)) name t = (and_parts (is_storage_name back below) (bytes_eq below name) t).1
takes_used back _ name t = absurd (false≢true t)

pub put_used : (back : List StackLine) (name : List ℕ) → is_put back name ≡ true → is_used back name ≡ true
put_used [] name e = absurd (false≢true e)
put_used (line ∷ back) name e =
    elim (or_cases (takes back line name) (is_put back name) e) [
      | inl here ↦ or_left (stands_on name line) (is_used back name) (takes_used back line name here)
      | inr later ↦ or_right (stands_on name line) (is_used back name) (put_used back name later)
    ]

pub unused_unput : (back : List StackLine) (name : List ℕ) → is_used (reverse back) name ≡ false → is_put back name ≡ false
unused_unput back name e = false_from_ne_true (is_put back name) (λ put. both_ways (is_used back name) (sym (any_reverse (λ line. stands_on name line) back) ∙ e) (put_used back name put))

-- a storage of the name is a part of it; so is what may be a mirror's side

pub storage_part : (back : List StackLine) (name : List ℕ) → is_storage_name back name ≡ true → part_named back name ≡ true
storage_part [] name e = e
storage_part (line ∷ back) name e =
    elim (or_cases (is_storage line && is_named name line) (is_storage_name back name) e) [
      | inl here ↦
          let both = and_parts (is_storage line) (is_named name line) here in
          or_left (is_part back line && is_named name line) (part_named back name) (and_from _ _ (or_left (is_storage line) (is_coherent_storage back line) both.0) both.1)
      | inr later ↦ or_right (is_part back line && is_named name line) (part_named back name) (storage_part back name later)
    ]

-- a coherency layer that stands on a storage stands on an older one
coherent_older : (newer back : List StackLine) (line : StackLine) → KeepsBack (newer ++ line ∷ back) → is_coherent_storage (newer ++ line ∷ back) line ≡ true → is_coherent_storage back line ≡ true
coherent_older newer back (Layer name machine (Upper Coherency below)) keeps e =
    let line = Layer name machine (Upper Coherency below) in
    let here = tail_back newer (line ∷ back) keeps in
    let regrouped : newer ++ line ∷ back ≡ (newer ++ line ∷ []) ++ back = sym (append_assoc newer (line ∷ []) back) in
    old_storage (newer ++ line ∷ []) back below (subst KeepsBack regrouped keeps) (declared_back back below (here.0 EarlierLayer)) (ap (λ ls. is_storage_name ls below) (sym regrouped) ∙ e)
coherent_older newer back _ keeps e = e

pub side_part : (newer back : List StackLine) (name : List ℕ) → KeepsBack (newer ++ back) → list_any (λ line. (is_storage line || is_coherent_storage (newer ++ back) line) && is_named name line) back ≡ true → part_named back name ≡ true
side_part newer [] name keeps e = e
side_part newer (line ∷ back) name keeps e =
    let regrouped : newer ++ line ∷ back ≡ (newer ++ line ∷ []) ++ back = sym (append_assoc newer (line ∷ []) back) in
    elim (or_cases ((is_storage line || is_coherent_storage (newer ++ line ∷ back) line) && is_named name line) (list_any (λ l. (is_storage l || is_coherent_storage (newer ++ line ∷ back) l) && is_named name l) back) e) [
      | inl here ↦
          let both = and_parts (is_storage line || is_coherent_storage (newer ++ line ∷ back) line) (is_named name line) here in
          let part : is_part back line ≡ true = elim (or_cases (is_storage line) (is_coherent_storage (newer ++ line ∷ back) line) both.0) [
            | inl s ↦ or_left (is_storage line) (is_coherent_storage back line) s
            | inr c ↦ or_right (is_storage line) (is_coherent_storage back line) (coherent_older newer back line keeps c)
          ] in
          or_left (is_part back line && is_named name line) (part_named back name) (and_from _ _ part both.1)
      | inr later ↦
          or_right (is_part back line && is_named name line) (part_named back name)
          (side_part (newer ++ line ∷ []) back name (subst KeepsBack regrouped keeps) (subst (λ ls. list_any (λ l. (is_storage l || is_coherent_storage ls l) && is_named name l) back ≡ true) regrouped later))
    ]
