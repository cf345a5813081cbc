-- The parts that are left have each disk so far once, and at the end the first node is the only one left.
use Rattle.std.proofs.Common.{◌≡◌, ℕ, suc, ◌<◌, ◌≤◌, List, [], ◌∷◌, ◌++◌, length, reverse, count_by, Bool, true, false, not, ◌&&◌, ◌||◌, Some, refl, sym, ap, subst, ◌∙◌, inl, inr, arith, append_assoc}
use Rattle.std.specs.List.{list_any, list_all, flat_map, find, AllByRecursion}
use Rattle.std.specs.List.Sorted.{IsPermutation}
use Rattle.std.specs.Str.{bytes_eq}
use Rattle.std.proofs.lemmas.Slice.Eq.{bytes_eq-Decides}
use Rattle.std.proofs.lemmas.Bool.{cases_Bool, or_cases, or_parts, or_from, or_left, or_right, and_parts, and_from, and_left, both_ways, false≢true, true≢false, not-true, not_from_true, not_from_false, false_from_ne_true, cond-false, cond-true, cond_both, eqb-true}
use Rattle.std.proofs.lemmas.List.{append-nil, reverse-reverse}
use Rattle.std.specs.Option.{option_map_or}
use Rattle.std.proofs.lemmas.List.Sorted.{IsPermutation-refl, IsPermutation-sym, IsPermutation-cons, IsPermutation-trans, IsPermutation-append_left, IsPermutation-append_right, IsPermutation-append_comm}
use Rattle.stack_text.specs.declared.stack.StackLine.{StackLine}
use Rattle.stack_text.specs.declared.stack.StackLine.TheVariants.{Layer}
use Rattle.stack_text.specs.declared.stack.LayerKind.TheVariants.{Disk, Mirror, Upper}
use Rattle.stack_text.specs.declared.stack.UpperKind.TheVariants.{Coherency}
use Rattle.stack_accept.specs.declared.rule.Rule.TheVariants.{NewName, EarlierLayer, MirrorSides, OneUser, OneGround, CoherentFirst}
use Rattle.stack_accept.specs.Lines.{is_disk, is_mirror, is_upper, is_coherency, is_storage, name_of, is_word, is_named, stands_on, is_storage_name, is_used, is_side, is_coherent_storage}
use Rattle.stack_accept.specs.Rules.{keeps, is_taken, may_be_side, may_use, is_unused, is_shared_layer, is_both_sides, has_user, is_first_node, KeepsRules}
use Rattle.stack_accept.specs.Plan.{OnCoherency, disks_in, plan_back, plan_on, numbers_below}
use Rattle.stack_accept.specs.Mount.{base_of, ground_name}
use Rattle.stack_accept.proofs.Lists.{count_by_cons, count_by_reverse, list_any_filter, list_any_weaker}
use Rattle.stack_accept.proofs.Kept.{kept_at_end}
use Rattle.stack_accept.proofs.NodeLaws.{word_is}
use Rattle.stack_accept.proofs.MountLaws.{kept, first_base, first_node, ground_storage}
use Rattle.stack_accept.proofs.BackLaws.{KeepsBack, keeps_back, any_reverse, tail_back, new_back, declared_back, old_storage, storage_more, plan_same, old_plan, bytes_same, all_reverse}
use Rattle.stack_accept.proofs.DiskLaws.{is_part, part_named, takes, is_put, own_name, left_by, parts, has, AreDistinct, without, distinct_filter, has_filter, all_filter, all_weaker, filter_same, filter_all, filter_both, take_out, takes_declared, put_declared, unused_unput, storage_part, side_part}

-- the disks of the layer of a name
abbrev pub disks_named : List StackLine → List ℕ → List ℕ
disks_named back name = disks_in (plan_back back name)

abbrev IsOpen : List StackLine → List ℕ → Type 0
IsOpen back name = (part_named back name ≡ true) × (is_put back name ≡ false)

pub record AreOpen (back : List StackLine) : Type 0 where
  pub distinct : AreDistinct (parts back)
  pub open_each : AllByRecursion (λ name. (part_named back name ≡ true) × (is_put back name ≡ false)) (parts back)
  pub members : (name : List ℕ) → part_named back name ≡ true → is_put back name ≡ false → has (parts back) name ≡ true
  pub disks : IsPermutation (flat_map (λ name. disks_named back name) (parts back)) (numbers_below (count_by (λ line. is_disk line) back))

part_taken : (back : List StackLine) (name : List ℕ) → part_named back name ≡ true → is_taken back name ≡ true
part_taken [] name e = e
part_taken (line ∷ back) name e =
    elim (or_cases (is_part back line && is_named name line) (part_named back name) e) [
      | inl here ↦ or_left (is_named name line) (is_taken back name) (and_parts (is_part back line) (is_named name line) here).1
      | inr later ↦ or_right (is_named name line) (is_taken back name) (part_taken back name later)
    ]

-- a part declares its own name
part_name : (back : List StackLine) (line : StackLine) → is_part back line ≡ true → name_of line ≡ Some (own_name line)
part_name back (Layer name machine kind) e = refl
part_name back _ e = absurd (false≢true e)

no_take : (back : List StackLine) (line : StackLine) (name : List ℕ) → is_part back line ≡ false → takes back line name ≡ false
no_take back (Layer own machine (Mirror left right)) name e = absurd (true≢false e)
no_take back (Layer own machine (Upper Coherency below)) name e = and_left (is_storage_name back below) (bytes_eq below name) e
no_take back _ name e = refl

no_disk : (back : List StackLine) (line : StackLine) → is_part back line ≡ false → is_disk line ≡ false
no_disk back (Layer own machine Disk) e = absurd (true≢false e)
no_disk back _ e = refl

-- what is left behind keeps its plan
same_disks : (line : StackLine) (back : List StackLine) (names : List (List ℕ)) → keeps NewName (reverse back) line ≡ true → AllByRecursion (λ name. is_taken back name ≡ true) names
    → flat_map (λ name. disks_named (line ∷ back) name) names ≡ flat_map (λ name. disks_named back name) names
same_disks line back [] new h = refl
same_disks line back (name ∷ names) new h =
    ap (λ ds. ds ++ flat_map (λ n. disks_named (line ∷ back) n) names) (ap disks_in (plan_same line back name (new_back line back name new h.0)))
    ∙ ap (λ ds. disks_named back name ++ ds) (same_disks line back names new h.1)

each_taken : (back : List StackLine) (names : List (List ℕ)) → AllByRecursion (IsOpen back) names → AllByRecursion (λ name. is_taken back name ≡ true) names
each_taken back names h = all_weaker (IsOpen back) (λ name. is_taken back name ≡ true) (λ name open_name. part_taken back name open_name.0) names h

-- a new name is not among those behind
not_behind : (back : List StackLine) (own : List ℕ) (names : List (List ℕ)) → is_taken back own ≡ false → AllByRecursion (λ name. is_taken back name ≡ true) names → has names own ≡ false
not_behind back own [] free h = refl
not_behind back own (name ∷ names) free h =
    or_from (bytes_eq name own) (has names own)
    (false_from_ne_true (bytes_eq name own) (λ same. both_ways (is_taken back own) free (ap (λ n. is_taken back n) (sym ((bytes_eq-Decides name own).0 same)) ∙ h.0)))
    (not_behind back own names free h.1)

own_free : (back : List StackLine) (line : StackLine) → keeps NewName (reverse back) line ≡ true → is_part back line ≡ true → is_taken back (own_name line) ≡ false
own_free back line new part =
    false_from_ne_true (is_taken back (own_name line)) (λ taken.
    let other = new_back line back (own_name line) new taken in
    both_ways (is_named (own_name line) line) other (ap (λ o. is_word o (own_name line)) (part_name back line part) ∙ bytes_same (own_name line)))

-- what a mirror's side or a coherency layer takes is a part that is left

taken_open : (back : List StackLine) (name : List ℕ) → AreOpen back → part_named back name ≡ true → is_used (reverse back) name ≡ false → has (parts back) name ≡ true
taken_open back name open_parts part unused = open_parts.members name part (unused_unput back name unused)

mirror_unused : (back : List StackLine) (own machine left right base : List ℕ) → may_use (reverse back) (Layer own machine (Mirror left right)) base ≡ true → (is_used (reverse back) base ≡ false) × (is_both_sides base (Layer own machine (Mirror left right)) ≡ false)
mirror_unused back own machine left right base e =
    elim (or_cases (is_unused (reverse back) (Layer own machine (Mirror left right)) base) (is_shared_layer (reverse back) (Layer own machine (Mirror left right)) base) e) [
      | inl unused ↦
          let both = and_parts (not (is_used (reverse back) base)) (not (is_both_sides base (Layer own machine (Mirror left right)))) unused in
          (not-true (is_used (reverse back) base) both.0, not-true (is_both_sides base (Layer own machine (Mirror left right))) both.1)
      | inr shared ↦ absurd (false≢true shared)
    ]

storage_unused : (back : List StackLine) (own machine below : List ℕ) → is_storage_name back below ≡ true → may_use (reverse back) (Layer own machine (Upper Coherency below)) below ≡ true → is_used (reverse back) below ≡ false
storage_unused back own machine below storage e =
    elim (or_cases (is_unused (reverse back) (Layer own machine (Upper Coherency below)) below) (is_shared_layer (reverse back) (Layer own machine (Upper Coherency below)) below) e) [
      | inl unused ↦ not-true (is_used (reverse back) below) (and_parts (not (is_used (reverse back) below)) (not (is_both_sides below (Layer own machine (Upper Coherency below)))) unused).0
      | inr shared ↦
          let not_side = and_parts (not (is_mirror (Layer own machine (Upper Coherency below))) && not (is_storage_name (reverse back) below)) (not (is_side (reverse back) below)) shared in
          let none = not-true (is_storage_name (reverse back) below) (and_parts (not (is_mirror (Layer own machine (Upper Coherency below)))) (not (is_storage_name (reverse back) below)) not_side.0).1 in
          absurd (both_ways (is_storage_name back below) (sym (any_reverse (λ line. is_storage line && is_named below line) back) ∙ none) storage)
    ]

fit_side : (back : List StackLine) (name : List ℕ) → KeepsBack back → may_be_side (reverse back) name ≡ true → part_named back name ≡ true
fit_side back name keeps e =
    side_part [] back name keeps
    (list_any_weaker (λ line. (is_storage line || is_coherent_storage (reverse back) line) && is_named name line) (λ line. (is_storage line || is_coherent_storage back line) && is_named name line)
    (λ line is.
    let both = and_parts (is_storage line || is_coherent_storage (reverse back) line) (is_named name line) is in
    and_from _ _ (elim (or_cases (is_storage line) (is_coherent_storage (reverse back) line) both.0) [
      | inl s ↦ or_left (is_storage line) (is_coherent_storage back line) s
      | inr c ↦ or_right (is_storage line) (is_coherent_storage back line) (turned line c)
    ]) both.1)
    back (sym (any_reverse (λ line. (is_storage line || is_coherent_storage (reverse back) line) && is_named name line) back) ∙ e)) where
      turned : (line : StackLine) → is_coherent_storage (reverse back) line ≡ true → is_coherent_storage back line ≡ true
      turned (Layer own machine (Upper Coherency below)) c = sym (any_reverse (λ line. is_storage line && is_named below line) back) ∙ c
      turned _ c = c

-- the disks after a part is added

abbrev disks_left : List StackLine → StackLine → List ℕ
disks_left back line = flat_map (λ name. disks_named back name) (left_by back line (parts back))

-- the part's own disks, and those of what is left, are each disk so far once
DisksStay : List StackLine → StackLine → Type 0
DisksStay back line = IsPermutation (disks_in (plan_on back line (λ base. plan_back back base)) ++ disks_left back line) (numbers_below (count_by (λ l. is_disk l) (line ∷ back)))

count_same : (back : List StackLine) (line : StackLine) → is_disk line ≡ false → count_by (λ l. is_disk l) (line ∷ back) ≡ count_by (λ l. is_disk l) back
count_same back line e =
    let counted = count_by_cons (λ l. is_disk l) line back in
    let none = cond-false {A = ℕ} (is_disk line) 1 0 e in
    omega (arith, counted, none)

disk_stays : (back : List StackLine) (name machine : List ℕ) → AreOpen back → DisksStay back (Layer name machine Disk)
unfolding DisksStay
disk_stays back name machine open_parts =
    let line = Layer name machine Disk in
    let count = count_by (λ l. is_disk l) back in
    let counted : count_by (λ l. is_disk l) (line ∷ back) ≡ suc count = count_by_cons (λ l. is_disk l) line back ∙ omega arith in
    let all : left_by back line (parts back) ≡ parts back = filter_all (λ n. not (takes back line n)) (λ n. refl) (parts back) in
    subst (λ n. IsPermutation (count ∷ disks_left back line) (numbers_below n)) (sym counted)
    (subst (λ ns. IsPermutation (count ∷ flat_map (λ n. disks_named back n) ns) (count ∷ numbers_below count)) (sym all)
    (IsPermutation-cons count (flat_map (λ n. disks_named back n) (parts back)) (numbers_below count) open_parts.disks))

mirror_stays : (back : List StackLine) (own machine left right : List ℕ) → AreOpen back → has (parts back) left ≡ true → has (parts back) right ≡ true → bytes_eq right left ≡ false → DisksStay back (Layer own machine (Mirror left right))
unfolding DisksStay
mirror_stays back own machine left right open_parts has_left has_right apart =
    let line = Layer own machine (Mirror left right) in
    let g : List ℕ → List ℕ = λ n. disks_named back n in
    let rest = without right (parts back) in
    let both : left_by back line (parts back) ≡ without left rest = filter_both (λ n. bytes_eq left n) (λ n. bytes_eq right n) (parts back) in
    let still : has rest left ≡ true = has_filter (λ n. not (bytes_eq right n)) (parts back) left has_left (not_from_false (bytes_eq right left) apart) in
    let first = take_out g (parts back) right open_parts.distinct has_right in
    let second = take_out g rest left (distinct_filter (λ n. not (bytes_eq right n)) (parts back) open_parts.distinct) still in
    let front : IsPermutation (flat_map g (parts back)) (g right ++ (g left ++ flat_map g (without left rest))) =
    IsPermutation-trans (flat_map g (parts back)) (g right ++ flat_map g rest) (g right ++ (g left ++ flat_map g (without left rest))) first
    (IsPermutation-append_right (g right) (flat_map g rest) (g left ++ flat_map g (without left rest)) second) in
    let grouped : IsPermutation (flat_map g (parts back)) ((g right ++ g left) ++ flat_map g (without left rest)) =
    subst (λ ds. IsPermutation (flat_map g (parts back)) ds) (sym (append_assoc (g right) (g left) (flat_map g (without left rest)))) front in
    let turned : IsPermutation (flat_map g (parts back)) ((g left ++ g right) ++ flat_map g (without left rest)) =
    IsPermutation-trans (flat_map g (parts back)) ((g right ++ g left) ++ flat_map g (without left rest)) ((g left ++ g right) ++ flat_map g (without left rest)) grouped
    (IsPermutation-append_left (flat_map g (without left rest)) (g right ++ g left) (g left ++ g right) (IsPermutation-append_comm (g right) (g left))) in
    let named : IsPermutation (flat_map g (parts back)) ((g left ++ g right) ++ flat_map g (left_by back line (parts back))) =
    subst (λ ns. IsPermutation (flat_map g (parts back)) ((g left ++ g right) ++ flat_map g ns)) (sym both) turned in
    subst (λ n. IsPermutation ((g left ++ g right) ++ flat_map g (left_by back line (parts back))) (numbers_below n)) (sym (count_same back line refl))
    (IsPermutation-trans ((g left ++ g right) ++ flat_map g (left_by back line (parts back))) (flat_map g (parts back)) (numbers_below (count_by (λ l. is_disk l) back))
    (IsPermutation-sym (flat_map g (parts back)) ((g left ++ g right) ++ flat_map g (left_by back line (parts back))) named) open_parts.disks)

coherency_stays : (back : List StackLine) (own machine below : List ℕ) → AreOpen back → is_storage_name back below ≡ true → has (parts back) below ≡ true → DisksStay back (Layer own machine (Upper Coherency below))
unfolding DisksStay
coherency_stays back own machine below open_parts storage has_below =
    let line = Layer own machine (Upper Coherency below) in
    let g : List ℕ → List ℕ = λ n. disks_named back n in
    let same : left_by back line (parts back) ≡ without below (parts back) =
    filter_same (λ n. not (takes back line n)) (λ n. not (bytes_eq below n)) (λ n. ap (λ t. not (t && bytes_eq below n)) storage) (parts back) in
    let out : IsPermutation (flat_map g (parts back)) (g below ++ flat_map g (left_by back line (parts back))) =
    subst (λ ns. IsPermutation (flat_map g (parts back)) (g below ++ flat_map g ns)) (sym same) (take_out g (parts back) below open_parts.distinct has_below) in
    subst (λ n. IsPermutation (g below ++ flat_map g (left_by back line (parts back))) (numbers_below n)) (sym (count_same back line refl))
    (IsPermutation-trans (g below ++ flat_map g (left_by back line (parts back))) (flat_map g (parts back)) (numbers_below (count_by (λ l. is_disk l) back))
    (IsPermutation-sym (flat_map g (parts back)) (g below ++ flat_map g (left_by back line (parts back))) out) open_parts.disks)

part_stays : (back : List StackLine) (line : StackLine) → KeepsBack (line ∷ back) → AreOpen back → is_part back line ≡ true → DisksStay back line
part_stays back (Layer name machine Disk) keeps open_parts part = disk_stays back name machine open_parts
part_stays back (Layer own machine (Mirror left right)) keeps open_parts part =
    let line = Layer own machine (Mirror left right) in
    let users = and_parts (may_use (reverse back) line left) (may_use (reverse back) line right) (keeps.0 OneUser) in
    let fit = and_parts (may_be_side (reverse back) left) (may_be_side (reverse back) right) (keeps.0 MirrorSides) in
    let free_left = mirror_unused back own machine left right left users.0 in
    let free_right = mirror_unused back own machine left right right users.1 in
    let apart : bytes_eq right left ≡ false = false_from_ne_true (bytes_eq right left) (λ same. both_ways (bytes_eq left left && bytes_eq right left) free_left.1 (and_from (bytes_eq left left) (bytes_eq right left) (bytes_same left) same)) in
    mirror_stays back own machine left right open_parts
    (taken_open back left open_parts (fit_side back left keeps.1 fit.0) free_left.0) (taken_open back right open_parts (fit_side back right keeps.1 fit.1) free_right.0) apart
part_stays back (Layer own machine (Upper Coherency below)) keeps open_parts part =
    coherency_stays back own machine below open_parts part
    (taken_open back below open_parts (storage_part back below part) (storage_unused back own machine below part (keeps.0 OneUser)))
part_stays back _ keeps open_parts part = absurd (false≢true part)

-- one line more

plan_of_own : (back : List StackLine) (line : StackLine) → is_part back line ≡ true → plan_back (line ∷ back) (own_name line) ≡ plan_on back line (λ base. plan_back back base)
plan_of_own back (Layer name machine kind) e = cond-true (bytes_eq name name) (plan_on back (Layer name machine kind) (λ base. plan_back back base)) (plan_back back name) (bytes_same name)
plan_of_own back _ e = absurd (false≢true e)

open_part : (back : List StackLine) (line : StackLine) → KeepsBack (line ∷ back) → AreOpen back → is_part back line ≡ true → AreOpen (line ∷ back)
unfolding DisksStay
open_part back line keeps open_parts part =
    let own = own_name line in
    let left = left_by back line (parts back) in
    let all : parts (line ∷ back) ≡ own ∷ left = cond-true (is_part back line) (own ∷ left) (parts back) part in
    let free = own_free back line (keeps.0 NewName) part in
    let taken = each_taken back (parts back) open_parts.open_each in
    let named : is_named own line ≡ true = ap (λ o. is_word o own) (part_name back line part) ∙ bytes_same own in
    let not_own : takes back line own ≡ false = false_from_ne_true (takes back line own) (λ t. both_ways (is_taken back own) free (takes_declared back line own (keeps.0 EarlierLayer) t)) in
    let not_put : is_put back own ≡ false = false_from_ne_true (is_put back own) (λ t. both_ways (is_taken back own) free (put_declared back own keeps.1 t)) in
    let mine : IsOpen (line ∷ back) own = (or_left (is_part back line && is_named own line) (part_named back own) (and_from _ _ part named), or_from (takes back line own) (is_put back own) not_own not_put) in
    let others : AllByRecursion (IsOpen (line ∷ back)) left =
    all_weaker (λ name. IsOpen back name × (not (takes back line name) ≡ true)) (IsOpen (line ∷ back))
    (λ name h. (or_right (is_part back line && is_named name line) (part_named back name) h.0.0, or_from (takes back line name) (is_put back name) (not-true (takes back line name) h.1) h.0.1))
    left (all_filter (IsOpen back) (λ name. not (takes back line name)) (parts back) open_parts.open_each) in
    let left_taken : AllByRecursion (λ name. is_taken back name ≡ true) left =
    all_weaker (λ name. (is_taken back name ≡ true) × (not (takes back line name) ≡ true)) (λ name. is_taken back name ≡ true) (λ name h. h.0)
    left (all_filter (λ name. is_taken back name ≡ true) (λ name. not (takes back line name)) (parts back) taken) in
    let member : (name : List ℕ) → part_named (line ∷ back) name ≡ true → is_put (line ∷ back) name ≡ false → has (own ∷ left) name ≡ true =
    λ name is unput.
    let apart = or_parts (takes back line name) (is_put back name) unput in
    elim (or_cases (is_part back line && is_named name line) (part_named back name) is) [
      | inl here ↦
          let same = word_is (name_of line) name (and_parts (is_part back line) (is_named name line) here).1 in
          or_left (bytes_eq own name) (has left name) (own_is line name (sym (part_name back line part) ∙ same))
      | inr later ↦ or_right (bytes_eq own name) (has left name) (has_filter (λ n. not (takes back line n)) (parts back) name (open_parts.members name later apart.1) (not_from_false (takes back line name) apart.0))
    ] in
    let disks : IsPermutation (flat_map (λ name. disks_named (line ∷ back) name) (own ∷ left)) (numbers_below (count_by (λ l. is_disk l) (line ∷ back))) =
    subst (λ ds. IsPermutation ds (numbers_below (count_by (λ l. is_disk l) (line ∷ back))))
    (sym (ap (λ ds. ds ++ flat_map (λ name. disks_named (line ∷ back) name) left) (ap disks_in (plan_of_own back line part))
    ∙ ap (λ ds. disks_in (plan_on back line (λ base. plan_back back base)) ++ ds) (same_disks line back left (keeps.0 NewName) left_taken)))
    (part_stays back line keeps open_parts part) in
    record {
      distinct = subst AreDistinct (sym all) (list_any_filter (λ n. bytes_eq n own) (λ n. not (takes back line n)) (parts back) (not_behind back own (parts back) free taken), distinct_filter (λ n. not (takes back line n)) (parts back) open_parts.distinct);
      open_each = subst (AllByRecursion (IsOpen (line ∷ back))) (sym all) (mine, others);
      members = λ name is unput. ap (λ ns. has ns name) all ∙ member name is unput;
      disks = subst (λ ns. IsPermutation (flat_map (λ name. disks_named (line ∷ back) name) ns) (numbers_below (count_by (λ l. is_disk l) (line ∷ back)))) (sym all) disks;
    } where
      own_is : (l : StackLine) (name : List ℕ) → Some (own_name l) ≡ Some name → bytes_eq (own_name l) name ≡ true
      own_is l name e = (bytes_eq-Decides (own_name l) name).1 (same (own_name l) name e) where
        same : (a b : List ℕ) → Some a ≡ Some b → a ≡ b
        same a b f = cc

open_other : (back : List StackLine) (line : StackLine) → KeepsBack (line ∷ back) → AreOpen back → is_part back line ≡ false → AreOpen (line ∷ back)
open_other back line keeps open_parts none =
    let all : parts (line ∷ back) ≡ parts back = cond-false (is_part back line) (own_name line ∷ left_by back line (parts back)) (parts back) none in
    let taken = each_taken back (parts back) open_parts.open_each in
    let each : AllByRecursion (IsOpen (line ∷ back)) (parts back) =
    all_weaker (IsOpen back) (IsOpen (line ∷ back)) (λ name h. (or_right (is_part back line && is_named name line) (part_named back name) h.0, or_from (takes back line name) (is_put back name) (no_take back line name none) h.1)) (parts back) open_parts.open_each in
    let disks : IsPermutation (flat_map (λ name. disks_named (line ∷ back) name) (parts back)) (numbers_below (count_by (λ l. is_disk l) (line ∷ back))) =
    subst (λ ds. IsPermutation ds (numbers_below (count_by (λ l. is_disk l) (line ∷ back)))) (sym (same_disks line back (parts back) (keeps.0 NewName) taken))
    (subst (λ n. IsPermutation (flat_map (λ name. disks_named back name) (parts back)) (numbers_below n)) (sym (count_same back line (no_disk back line none))) open_parts.disks) in
    record {
      distinct = subst AreDistinct (sym all) open_parts.distinct;
      open_each = subst (AllByRecursion (IsOpen (line ∷ back))) (sym all) each;
      members = λ name is unput.
          ap (λ ns. has ns name) all ∙ open_parts.members name
          (elim (or_cases (is_part back line && is_named name line) (part_named back name) is) [ inl here ↦ absurd (both_ways (is_part back line) none (and_parts (is_part back line) (is_named name line) here).0) | inr later ↦ later ])
          (or_parts (takes back line name) (is_put back name) unput).1;
      disks = subst (λ ns. IsPermutation (flat_map (λ name. disks_named (line ∷ back) name) ns) (numbers_below (count_by (λ l. is_disk l) (line ∷ back)))) (sym all) disks;
    }

pub are_open : (back : List StackLine) → KeepsBack back → AreOpen back
are_open [] keeps = record { distinct = tt; open_each = tt; members = λ name is unput. absurd (false≢true is); disks = IsPermutation-refl [] }
are_open (line ∷ back) keeps =
    let before = are_open back keeps.1 in
    elim (cases_Bool (is_part back line)) [ inl part ↦ open_part back line keeps before part | inr none ↦ open_other back line keeps before none ]

-- at the end of the text

some_left : (back : List StackLine) → list_any (λ line. is_storage line) back ≡ true → 0 < length (parts back)
some_left [] e = absurd (false≢true e)
some_left (line ∷ back) e =
    let own = own_name line ∷ left_by back line (parts back) in
    cond_both (is_part back line) own (parts back) (λ ns. 0 < length ns) (λ _. omega arith)
    (λ none. elim (or_cases (is_storage line) (list_any (λ l. is_storage l) back) e) [
      | inl here ↦ absurd (both_ways (is_part back line) none (or_left (is_storage line) (is_coherent_storage back line) here))
      | inr later ↦ some_left back later
    ])

-- an upper layer that stands on storage stands on an older one, and is a coherency layer
storage_under : (newer back : List StackLine) (line : StackLine) → KeepsBack (newer ++ line ∷ back) → is_upper line ≡ true → is_storage_name (newer ++ line ∷ back) (base_of line) ≡ true
    → (is_storage_name back (base_of line) ≡ true) × (is_coherency line ≡ true)
storage_under newer back (Layer own machine (Upper kind below)) keeps up storage =
    let line = Layer own machine (Upper kind below) in
    let here = tail_back newer (line ∷ back) keeps in
    let regrouped : newer ++ line ∷ back ≡ (newer ++ line ∷ []) ++ back = sym (append_assoc newer (line ∷ []) back) in
    let older = old_storage (newer ++ line ∷ []) back below (subst KeepsBack regrouped keeps) (declared_back back below (here.0 EarlierLayer)) (ap (λ ls. is_storage_name ls below) (sym regrouped) ∙ storage) in
    let turned : is_storage_name (reverse back) below ≡ true = any_reverse (λ l. is_storage l && is_named below l) back ∙ older in (
      older,
      elim (or_cases (is_coherency line) (not (is_storage_name (reverse back) below)) (here.0 CoherentFirst)) [
        | inl coherent ↦ coherent
        | inr other ↦ absurd (both_ways (is_storage_name (reverse back) below) (not-true (is_storage_name (reverse back) below) other) turned)
      ],
    )
storage_under newer back _ keeps up storage = absurd (false≢true up)

-- who stands on a storage takes it
storage_takes : (newer back : List StackLine) (line : StackLine) (name : List ℕ) → KeepsBack (newer ++ line ∷ back) → is_storage_name (newer ++ line ∷ back) name ≡ true → stands_on name line ≡ true → takes back line name ≡ true
storage_takes newer back (Layer own machine (Mirror left right)) name keeps storage e = e
storage_takes newer back (Layer own machine (Upper Coherency below)) name keeps storage e =
    let line = Layer own machine (Upper Coherency below) in
    let under = storage_under newer back line keeps refl (ap (λ n. is_storage_name (newer ++ line ∷ back) n) ((bytes_eq-Decides below name).0 e) ∙ storage) in
    and_from (is_storage_name back below) (bytes_eq below name) under.0 e
storage_takes newer back (Layer own machine (Upper kind below)) name keeps storage e =
    let line = Layer own machine (Upper kind below) in
    let under = storage_under newer back line keeps refl (ap (λ n. is_storage_name (newer ++ line ∷ back) n) ((bytes_eq-Decides below name).0 e) ∙ storage) in
    absurd (false≢true under.1)
storage_takes newer back _ name keeps storage e = absurd (false≢true e)

used_put : (newer back : List StackLine) (name : List ℕ) → KeepsBack (newer ++ back) → is_storage_name (newer ++ back) name ≡ true → is_used back name ≡ true → is_put back name ≡ true
used_put newer [] name keeps storage e = absurd (false≢true e)
used_put newer (line ∷ back) name keeps storage e =
    let regrouped : newer ++ line ∷ back ≡ (newer ++ line ∷ []) ++ back = sym (append_assoc newer (line ∷ []) back) in
    elim (or_cases (stands_on name line) (is_used back name) e) [
      | inl here ↦ or_left (takes back line name) (is_put back name) (storage_takes newer back line name keeps storage here)
      | inr later ↦
          or_right (takes back line name) (is_put back name)
          (used_put (newer ++ line ∷ []) back name (subst KeepsBack regrouped keeps) (ap (λ ls. is_storage_name ls name) (sym regrouped) ∙ storage) later)
    ]

mirror_takes : (back : List StackLine) (line : StackLine) (name : List ℕ) → (is_mirror line && stands_on name line) ≡ true → takes back line name ≡ true
mirror_takes back (Layer own machine (Mirror left right)) name e = e
mirror_takes back _ name e = absurd (false≢true e)

side_put : (back : List StackLine) (name : List ℕ) → is_side back name ≡ true → is_put back name ≡ true
side_put [] name e = absurd (false≢true e)
side_put (line ∷ back) name e =
    elim (or_cases (is_mirror line && stands_on name line) (is_side back name) e) [
      | inl here ↦ or_left (takes back line name) (is_put back name) (mirror_takes back line name here)
      | inr later ↦ or_right (takes back line name) (is_put back name) (side_put back name later)
    ]

storage_user : (lines : List StackLine) (line : StackLine) (name : List ℕ) → is_storage line ≡ true → is_named name line ≡ true → has_user lines line ≡ true → is_used lines name ≡ true
storage_user lines (Layer own machine Disk) name s n e = subst (λ m. is_used lines m ≡ true) ((bytes_eq-Decides own name).0 n) e
storage_user lines (Layer own machine (Mirror left right)) name s n e = subst (λ m. is_used lines m ≡ true) ((bytes_eq-Decides own name).0 n) e
storage_user lines _ name s n e = absurd (false≢true s)

-- a coherency layer on a storage that no mirror has as a side is a first node
coherent_first : (lines back : List StackLine) (line : StackLine) (name : List ℕ) → is_coherent_storage back line ≡ true → is_named name line ≡ true → is_side lines name ≡ false
    → ((base : List ℕ) → is_storage_name back base ≡ true → is_storage_name lines base ≡ true) → is_first_node lines line ≡ true
coherent_first lines back (Layer own machine (Upper Coherency below)) name c n side more =
    and_from (not (is_side lines own)) (not (not (is_storage_name lines below)))
    (not_from_false (is_side lines own) (ap (λ m. is_side lines m) ((bytes_eq-Decides own name).0 n) ∙ side))
    (not_from_false (not (is_storage_name lines below)) (not_from_true (is_storage_name lines below) (more below c)))
coherent_first lines back _ name c n side more = absurd (false≢true c)

-- a part that is left at the end is the first node
first_named : (lines newer back : List StackLine) (name : List ℕ) → reverse lines ≡ newer ++ back → KeepsBack (newer ++ back) → AllByRecursion (λ line. has_user lines line ≡ true) back → part_named back name ≡ true → is_put (reverse lines) name ≡ false
    → list_any (λ line. is_first_node lines line && is_named name line) back ≡ true
first_named lines newer [] name whole keeps users e unput = e
first_named lines newer (line ∷ back) name whole keeps users e unput =
    let regrouped : newer ++ line ∷ back ≡ (newer ++ line ∷ []) ++ back = sym (append_assoc newer (line ∷ []) back) in
    elim (or_cases (is_part back line && is_named name line) (part_named back name) e) [
      | inl here ↦
          let both = and_parts (is_part back line) (is_named name line) here in
          elim (or_cases (is_storage line) (is_coherent_storage back line) both.0) [
            | inl storage ↦
                let used : is_used (reverse lines) name ≡ true = any_reverse (λ l. stands_on name l) lines ∙ storage_user lines line name storage both.1 users.0 in
                let there : is_storage_name (newer ++ line ∷ back) name ≡ true = storage_more newer (line ∷ back) name (or_left (is_storage line && is_named name line) (is_storage_name back name) (and_from _ _ storage both.1)) in
                let put : is_put (newer ++ line ∷ back) name ≡ true = used_put [] (newer ++ line ∷ back) name keeps there (ap (λ ls. is_used ls name) (sym whole) ∙ used) in
                absurd (both_ways (is_put (reverse lines) name) unput (ap (λ ls. is_put ls name) whole ∙ put))
            | inr coherent ↦
                let no_side : is_side lines name ≡ false = false_from_ne_true (is_side lines name) (λ side. both_ways (is_put (reverse lines) name) unput (side_put (reverse lines) name (any_reverse (λ l. is_mirror l && stands_on name l) lines ∙ side))) in
                let more : (base : List ℕ) → is_storage_name back base ≡ true → is_storage_name lines base ≡ true =
                λ base s. sym (any_reverse (λ l. is_storage l && is_named base l) lines) ∙ ap (λ ls. is_storage_name ls base) (whole ∙ regrouped) ∙ storage_more (newer ++ line ∷ []) back base s in
                or_left (is_first_node lines line && is_named name line) (list_any (λ l. is_first_node lines l && is_named name l) back)
                (and_from _ _ (coherent_first lines back line name coherent both.1 no_side more) both.1)
          ]
      | inr later ↦
          or_right (is_first_node lines line && is_named name line) (list_any (λ l. is_first_node lines l && is_named name l) back)
          (first_named lines (newer ++ line ∷ []) back name (whole ∙ regrouped) (subst KeepsBack regrouped keeps) users.1 later unput)
    ]

-- where one element passes alone, it is the first that passes
unique_find : {X : Type 0} (p q : X → Bool) (xs : List X) (x : X) → count_by p xs ≡ 1 → list_any (λ y. p y && q y) xs ≡ true → find p xs ≡ Some x → q x ≡ true
unique_find p q [] x one some found = absurd (false≢true some)
unique_find {X} p q (y ∷ xs) x one some found =
    let counted = count_by_cons p y xs in
    elim (cases_Bool (p y)) [
      | inl here ↦
          let mine = cond-true {A = ℕ} (p y) 1 0 here in
          let none : list_any p xs ≡ false = false_from_ne_true (list_any p xs) (λ more. absurd (omega (arith, some_passes p xs more, counted, one, mine))) in
          let both : (p y && q y) ≡ true = elim (or_cases (p y && q y) (list_any (λ z. p z && q z) xs) some) [
            | inl b ↦ b
            | inr later ↦ absurd (both_ways (list_any p xs) none (list_any_weaker (λ z. p z && q z) p (λ z is. (and_parts (p z) (q z) is).0) xs later))
          ] in
          subst (λ z. q z ≡ true) (same y x (sym (cond-true (p y) (Some y) (find p xs) here) ∙ found)) (and_parts (p y) (q y) both).1
      | inr not_here ↦
          let none = cond-false {A = ℕ} (p y) 1 0 not_here in
          let later : list_any (λ z. p z && q z) xs ≡ true = elim (or_cases (p y && q y) (list_any (λ z. p z && q z) xs) some) [
            | inl b ↦ absurd (both_ways (p y) not_here (and_parts (p y) (q y) b).0)
            | inr l ↦ l
          ] in
          unique_find p q xs x (omega (arith, counted, one, none)) later (sym (cond-false (p y) (Some y) (find p xs) not_here) ∙ found)
    ] where
      same : (a b : X) → Some a ≡ Some b → a ≡ b
      same a b f = cc

      some_passes : (r : X → Bool) (zs : List X) → list_any r zs ≡ true → 1 ≤ count_by r zs
      some_passes r [] e = absurd (false≢true e)
      some_passes r (z ∷ zs) e =
          let counts = count_by_cons r z zs in
          elim (cases_Bool (r z)) [
            | inl yes_z ↦ let m = cond-true {A = ℕ} (r z) 1 0 yes_z in omega (arith, counts, m)
            | inr no_z ↦
                let rest : list_any r zs ≡ true = elim (or_cases (r z) (list_any r zs) e) [ inl b ↦ absurd (both_ways (r z) no_z b) | inr l ↦ l ] in
                omega (arith, counts, some_passes r zs rest)
          ]

-- names of one line are one name
only_one : (line : StackLine) (names : List (List ℕ)) → AreDistinct names → 0 < length names → AllByRecursion (λ name. is_named name line ≡ true) names → (name : List ℕ) × (names ≡ name ∷ []) × (is_named name line ≡ true)
only_one line [] distinct some all = absurd (omega (arith, some))
only_one line (name ∷ []) distinct some all = (name, refl, all.0)
only_one line (name ∷ other ∷ names) distinct some all =
    let one = word_is (name_of line) name all.0 in
    let two = word_is (name_of line) other all.1.0 in
    let same : other ≡ name = same_word other name (sym two ∙ one) in
    absurd (both_ways (bytes_eq other name) (or_parts (bytes_eq other name) (has names name) distinct.0).0 ((bytes_eq-Decides other name).1 same)) where
      same_word : (a b : List ℕ) → Some a ≡ Some b → a ≡ b
      same_word a b f = cc

-- the first node's disks are those of what it stands on
LeadsDown : List StackLine → List StackLine → StackLine → Type 0
LeadsDown lines full line = (name : List ℕ) → is_first_node lines line ≡ true → is_named name line ≡ true → disks_named full name ≡ disks_named full (base_of line)

leads_down : (lines newer back : List StackLine) (line : StackLine) → reverse lines ≡ newer ++ line ∷ back → KeepsBack (newer ++ line ∷ back) → LeadsDown lines (newer ++ line ∷ back) line
unfolding LeadsDown
leads_down lines newer back (Layer own machine (Upper Coherency below)) whole keeps name e n =
    let line = Layer own machine (Upper Coherency below) in
    let here = tail_back newer (line ∷ back) keeps in
    let regrouped : newer ++ line ∷ back ≡ (newer ++ line ∷ []) ++ back = sym (append_assoc newer (line ∷ []) back) in
    let up : plan_back (newer ++ line ∷ back) name ≡ plan_back (line ∷ back) name = old_plan newer (line ∷ back) name keeps (or_left (is_named name line) (is_taken back name) n) in
    let mine : plan_back (line ∷ back) name ≡ OnCoherency (plan_back back below) = cond-true (bytes_eq own name) (plan_on back line (λ base. plan_back back base)) (plan_back back name) n in
    let base : plan_back (newer ++ line ∷ back) below ≡ plan_back back below =
    ap (λ ls. plan_back ls below) regrouped ∙ old_plan (newer ++ line ∷ []) back below (subst KeepsBack regrouped keeps) (declared_back back below (here.0 EarlierLayer)) in
    ap disks_in (up ∙ mine) ∙ sym (ap disks_in base)
leads_down lines newer back (Layer own machine (Upper kind below)) whole keeps name e n =
    let line = Layer own machine (Upper kind below) in
    let storage : is_storage_name (newer ++ line ∷ back) below ≡ true = ap (λ ls. is_storage_name ls below) (sym whole) ∙ any_reverse (λ l. is_storage l && is_named below l) lines ∙ first_base lines line e in
    absurd (false≢true (storage_under newer back line keeps refl storage).1)
leads_down lines newer back _ whole keeps name e n = absurd (false≢true e)

each_down : (lines newer back : List StackLine) → reverse lines ≡ newer ++ back → KeepsBack (newer ++ back) → AllByRecursion (LeadsDown lines (reverse lines)) back
each_down lines newer [] whole keeps = tt
each_down lines newer (line ∷ back) whole keeps =
    let regrouped : newer ++ line ∷ back ≡ (newer ++ line ∷ []) ++ back = sym (append_assoc newer (line ∷ []) back) in (
      subst (λ ls. LeadsDown lines ls line) (sym whole) (leads_down lines newer back line whole keeps),
      each_down lines (newer ++ line ∷ []) back (whole ∙ regrouped) (subst KeepsBack regrouped keeps),
    )

all_find : {X : Type 0} (P : X → Type 0) (p : X → Bool) (xs : List X) (x : X) → AllByRecursion P xs → find p xs ≡ Some x → P x
all_find P p [] x h e = absurd cc
all_find {X} P p (y ∷ xs) x h e =
    elim (cases_Bool (p y)) [
      | inl here ↦ subst P (same y x (sym (cond-true (p y) (Some y) (find p xs) here) ∙ e)) h.0
      | inr not_here ↦ all_find P p xs x h.1 (sym (cond-false (p y) (Some y) (find p xs) not_here) ∙ e)
    ] where
      same : (a b : X) → Some a ≡ Some b → a ≡ b
      same a b f = cc

each_user : (lines text : List StackLine) → list_all (λ line. has_user text line) lines ≡ true → AllByRecursion (λ line. has_user text line ≡ true) lines
each_user [] text e = tt
each_user (line ∷ lines) text e = let both = and_parts (has_user text line) (list_all (λ l. has_user text l) lines) e in (both.0, each_user lines text both.1)

-- the ground has each disk once
pub ground_disks : (lines : List StackLine) → KeepsRules [] lines → IsPermutation (disks_in (plan_back (reverse lines) (ground_name lines))) (numbers_below (count_by (λ line. is_disk line) lines))
unfolding LeadsDown
ground_disks lines kept =
    let back = reverse lines in
    let keeps : KeepsBack back = keeps_back [] lines kept tt in
    let open_parts = are_open back keeps in
    let first = first_node lines kept in
    let one : count_by (λ l. is_first_node lines l) lines ≡ 1 = eqb-true _ 1 (kept_at_end [] lines kept OneGround) in
    let users : AllByRecursion (λ line. has_user lines line ≡ true) back =
    all_reverse (λ line. has_user lines line ≡ true) back (subst (AllByRecursion (λ line. has_user lines line ≡ true)) (sym (reverse-reverse lines)) (each_user lines lines (kept_at_end [] lines kept OneUser))) in
    let named : AllByRecursion (λ name. is_named name first.0 ≡ true) (parts back) =
    all_weaker (IsOpen back) (λ name. is_named name first.0 ≡ true)
    (λ name is. unique_find (λ l. is_first_node lines l) (λ l. is_named name l) lines first.0 one
    (sym (any_reverse (λ l. is_first_node lines l && is_named name l) lines) ∙ first_named lines [] back name refl keeps users is.0 is.1) first.1)
    (parts back) open_parts.open_each in
    let some : list_any (λ line. is_storage line) back ≡ true = any_reverse (λ line. is_storage line) lines ∙ ground_storage lines kept in
    let alone = only_one first.0 (parts back) open_parts.distinct (some_left back some) named in
    let down : LeadsDown lines back first.0 = all_find (LeadsDown lines back) (λ l. is_first_node lines l) lines first.0 (all_reverse (LeadsDown lines back) lines (each_down lines [] back refl keeps)) first.1 in
    let ground : ground_name lines ≡ base_of first.0 = ap (λ o. option_map_or (λ line. base_of line) o []) first.1 in
    let disks : IsPermutation (disks_named back alone.0 ++ []) (numbers_below (count_by (λ l. is_disk l) back)) =
    subst (λ names. IsPermutation (flat_map (λ name. disks_named back name) names) (numbers_below (count_by (λ l. is_disk l) back))) alone.1 open_parts.disks in
    let same : disks_named back alone.0 ++ [] ≡ disks_named back (ground_name lines) = append-nil (disks_named back alone.0) ∙ down alone.0 first.2 alone.2 ∙ ap (λ n. disks_named back n) (sym ground) in
    subst (λ ds. IsPermutation ds (numbers_below (count_by (λ l. is_disk l) lines))) same
    (subst (λ n. IsPermutation (disks_named back alone.0 ++ []) (numbers_below n)) (count_by_reverse (λ l. is_disk l) lines) disks)
