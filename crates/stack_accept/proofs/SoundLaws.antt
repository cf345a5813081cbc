-- An accepted text makes a sound mount.
use Rattle.std.proofs.Common.{◌≡◌, ℕ, zero, suc, ◌+◌, ◌^◌, ◌<◌, ◌≤◌, List, [], ◌∷◌, ◌++◌, length, reverse, count_by, get_or, Bool, true, cond, eqb, ltb, leb, Option, Some, None, refl, sym, ap, subst, ◌∙◌, inl, inr, arith, lit≤}
use Rattle.std.specs.Prelude.{slice_get, unwrap_or}
use Rattle.std.proofs.lemmas.Option.{slice_get_within, get_or_from_slice_get}
use Rattle.std.specs.List.{AllByRecursion, list_any, filter, filter_map, cons_option, position_or_len, fold}
use Rattle.std.specs.Str.{bytes_eq}
use Rattle.std.proofs.lemmas.Bool.{cases_Bool, false≢true, and_parts, or_cases, ltb-true, leb-true, eqb-true, cond_both, cond-true, cond-false}
use Rattle.std.proofs.lemmas.List.{length-append}
use Rattle.hist_plain.specs.declared.TheConstants.{MAX_PAGES}
use Rattle.hist_plain.specs.Plain.{IsPageSize}
use Rattle.stack_text.specs.declared.stack.StackLine.{StackLine}
use Rattle.stack_text.specs.declared.stack.StackLine.TheVariants.{Page, File, Layer}
use Rattle.stack_text.specs.declared.stack.LayerKind.TheVariants.{Disk, Mirror, Upper}
use Rattle.stack_text.specs.declared.stack.UpperKind.TheVariants.{Vmm}
use Rattle.stack_accept.specs.declared.TheConstants.{MAX_FRAMES}
use Rattle.stack_accept.specs.declared.rule.Rule.TheVariants.{PageFirst, Limits}
use Rattle.stack_accept.specs.declared.entries.FileEntry.{FileEntry}
use Rattle.stack_accept.specs.declared.entries.NodeEntry.{NodeEntry}
use Rattle.stack_accept.specs.Lines.{is_page, is_file, is_disk, is_storage, machine_of}
use Rattle.stack_accept.specs.Rules.{keeps, is_node, is_count, is_page_size, has_room, IsAccepted, KeepsRules}
use Rattle.stack_accept.specs.Mount.{Mount, mounted, number_in, page_size_of, file_of, disk_of, with_machine, machines_of, ground_name, node_lines, node_of, nodes_of, tree_of}
use Rattle.stack_accept.specs.Plan.{Plan, OnDisk, OnMirror, OnCoherency, disks_in, mirror_levels, numbers_below, plan_back}
use Rattle.std.specs.List.Sorted.{IsPermutation}
use Rattle.std.proofs.lemmas.List.Sorted.{length_permutation}
use Rattle.stack_accept.proofs.GroundLaws.{ground_disks}
use Rattle.tower_core.specs.TreeShape.{TreeShape}
use Rattle.stack_accept.specs.Sound.{IsInLimits, HasFrames, IsGroundNode, IsLayerNode, IsMount}
use Rattle.stack_accept.proofs.Lists.{same_value, count_by_cons}
use Rattle.stack_accept.proofs.Kept.{kept_at_end}
use Rattle.stack_accept.proofs.TreeLaws.{EachPlaced, ArePlaced}
use Rattle.stack_accept.proofs.MountLaws.{kept, has_nodes, mounted_tree, few_nodes, few_by, ground_storage}
use Rattle.stack_accept.proofs.NameLaws.{files_differ, disks_differ, machines_differ}
use Rattle.stack_accept.proofs.StandLaws.{nodes_differ, nodes_stand, nodes_first, ground_unseen, two_nodes}
use Rattle.stack_accept.proofs.ViaLaws.{AreBased, view_served}
use Rattle.stack_accept.proofs.DepthLaws.{nodes_low}

frames_in_limits : (n : ℕ) → is_count MAX_FRAMES n ≡ true → HasFrames n
frames_in_limits n e = let h = and_parts (leb 1 n) (leb n 1024) e in (leb-true 1 n h.0, leb-true n 1024 h.1)

in_limits : (n : ℕ) → is_count MAX_PAGES n ≡ true → IsInLimits n
in_limits n e = let h = and_parts (leb 1 n) (leb n 1024) e in (leb-true 1 n h.0, leb-true n 1024 h.1)

-- the page size

any_power : (size : ℕ) (powers : List ℕ) → AllByRecursion (λ k. (6 ≤ k) × (k ≤ 12)) powers → list_any (λ k. eqb size (2 ^ k)) powers ≡ true → IsPageSize size
any_power size [] h e = absurd (false≢true e)
any_power size (k ∷ powers) h e =
    elim (or_cases (eqb size (2 ^ k)) (list_any (λ p. eqb size (2 ^ p)) powers) e) [
      | inl here ↦ (k, h.0.0, h.0.1, eqb-true size (2 ^ k) here)
      | inr later ↦ any_power size powers h.1 later
    ]

power_size : (size : ℕ) → is_page_size size ≡ true → IsPageSize size
power_size size e =
    any_power size (6 ∷ 7 ∷ 8 ∷ 9 ∷ 10 ∷ 11 ∷ 12 ∷ [])
    ((lit≤ tt, lit≤ tt), ((lit≤ tt, lit≤ tt), ((lit≤ tt, lit≤ tt), ((lit≤ tt, lit≤ tt), ((lit≤ tt, lit≤ tt), ((lit≤ tt, lit≤ tt), ((lit≤ tt, lit≤ tt), tt))))))) e

first_page : (line : StackLine) (lines : List StackLine) → is_page line ≡ true → keeps Limits [] line ≡ true → IsPageSize (page_size_of (line ∷ lines))
first_page (Page size) lines is e = power_size size e
first_page _ lines is e = absurd (false≢true is)

page_size_is : (lines : List StackLine) → KeepsRules [] lines → IsPageSize (page_size_of lines)
page_size_is [] keeps = absurd (false≢true (keeps PageFirst))
page_size_is (line ∷ lines) keeps = first_page line lines (keeps.0 PageFirst) (keeps.0 Limits)

-- the files and the disks

file_step : (earlier : List StackLine) (line : StackLine) → keeps Limits earlier line ≡ true → count_by (λ l. is_file l) earlier ≤ 16 → count_by (λ l. is_file l) earlier + cond (is_file line) 1 0 ≤ 16
file_step earlier (File name pages) e few = let low = ltb-true _ 16 (and_parts (ltb (count_by (λ l. is_file l) earlier) 16) (is_count MAX_PAGES pages) e).0 in omega (arith, low)
file_step earlier _ e few = omega arith

disk_step : (earlier : List StackLine) (line : StackLine) → keeps Limits earlier line ≡ true → count_by (λ l. is_disk l) earlier ≤ 4 → count_by (λ l. is_disk l) earlier + cond (is_disk line) 1 0 ≤ 4
disk_step earlier (Layer name machine Disk) e few = let low = ltb-true _ 4 e in omega (arith, low)
disk_step earlier _ e few = omega arith

more_files : (line : StackLine) (rest : List FileEntry) → length (cons_option (file_of line) rest) ≡ cond (is_file line) 1 0 + length rest
more_files (File name pages) rest = omega arith
more_files _ rest = omega arith

count_files : (lines : List StackLine) → length (filter_map (λ line. file_of line) lines) ≡ count_by (λ line. is_file line) lines
count_files [] = refl
count_files (line ∷ lines) =
    let here = more_files line (filter_map (λ l. file_of l) lines) in
    let counted = count_by_cons (λ l. is_file l) line lines in
    let rest = count_files lines in
    omega (arith, here, counted, rest)

more_disks : (line : StackLine) (rest : List (List ℕ)) → length (cons_option (disk_of line) rest) ≡ cond (is_disk line) 1 0 + length rest
more_disks (Layer name machine Disk) rest = omega arith
more_disks _ rest = omega arith

pub count_disks : (lines : List StackLine) → length (filter_map (λ line. disk_of line) lines) ≡ count_by (λ line. is_disk line) lines
count_disks [] = refl
count_disks (line ∷ lines) =
    let here = more_disks line (filter_map (λ l. disk_of l) lines) in
    let counted = count_by_cons (λ l. is_disk l) line lines in
    let rest = count_disks lines in
    omega (arith, here, counted, rest)

file_pages : (earlier : List StackLine) (line : StackLine) (rest : List FileEntry) → keeps Limits earlier line ≡ true → AllByRecursion (λ file. IsInLimits file.pages) rest → AllByRecursion (λ file. IsInLimits file.pages) (cons_option (file_of line) rest)
file_pages earlier (File name pages) rest e h = (in_limits pages (and_parts (ltb (count_by (λ l. is_file l) earlier) 16) (is_count MAX_PAGES pages) e).1, h)
file_pages earlier _ rest e h = h

each_pages : (earlier lines : List StackLine) → KeepsRules earlier lines → AllByRecursion (λ file. IsInLimits file.pages) (filter_map (λ line. file_of line) lines)
each_pages earlier [] keeps = tt
each_pages earlier (line ∷ lines) keeps = file_pages earlier line (filter_map (λ l. file_of l) lines) (keeps.0 Limits) (each_pages (earlier ++ line ∷ []) lines keeps.1)

some_count : {X : Type 0} (p : X → Bool) (xs : List X) → list_any p xs ≡ true → 1 ≤ count_by p xs
some_count p [] e = absurd (false≢true e)
some_count p (x ∷ xs) e =
    let counted = count_by_cons p x xs in
    elim (or_cases (p x) (list_any p xs) e) [
      | inl here ↦ let one = cond-true {A = ℕ} (p x) 1 0 here in omega (arith, counted, one)
      | inr later ↦ let rest = some_count p xs later in omega (arith, counted, rest)
    ]

-- the machines

longer : (names : List (List ℕ)) (machine : Option (List ℕ)) → length names ≤ length (with_machine names machine)
longer names None = omega arith
longer names (Some name) =
    let grown = length-append names (name ∷ []) in
    cond_both (list_any (λ own. bytes_eq own name) names) names (names ++ name ∷ []) (λ ns. length names ≤ length ns) (λ _. omega arith) (λ _. omega (arith, grown))

some_name : (names : List (List ℕ)) (name : List ℕ) → 0 < length (with_machine names (Some name))
some_name [] name = omega arith
some_name (own ∷ names) name = let h = longer (own ∷ names) (Some name) in omega (arith, h)

abbrev machines_onto : List (List ℕ) → List StackLine → List (List ℕ)
machines_onto names lines = fold (λ ns line. with_machine ns (machine_of line)) names lines

onto_longer : (names : List (List ℕ)) (lines : List StackLine) → length names ≤ length (machines_onto names lines)
onto_longer names [] = omega arith
onto_longer names (line ∷ lines) =
    let here = longer names (machine_of line) in
    let rest = onto_longer (with_machine names (machine_of line)) lines in
    omega (arith, here, rest)

has_machine : (line : StackLine) → is_storage line ≡ true → (machine : List ℕ) × (machine_of line ≡ Some machine)
has_machine (Layer name machine kind) e = (machine, refl)
has_machine _ e = absurd (false≢true e)

some_machine : (names : List (List ℕ)) (lines : List StackLine) → list_any (λ line. is_storage line) lines ≡ true → 0 < length (machines_onto names lines)
some_machine names [] e = absurd (false≢true e)
some_machine names (line ∷ lines) e =
    elim (or_cases (is_storage line) (list_any (λ l. is_storage l) lines) e) [
      | inl here ↦
          let m = has_machine line here in
          let grown : 0 < length (with_machine names (machine_of line)) = subst (λ o. 0 < length (with_machine names o)) (sym m.1) (some_name names m.0) in
          let rest = onto_longer (with_machine names (machine_of line)) lines in
          omega (arith, grown, rest)
      | inr later ↦ some_machine (with_machine names (machine_of line)) lines later
    ]

low_place : (place len : ℕ) → 0 < len → unwrap_or (cond (ltb place len) (Some place) None) 0 < len
low_place place len some =
    elim (cases_Bool (ltb place len)) [
      | inl low ↦ subst (λ n. n < len) (sym (ap (λ o. unwrap_or o 0) (cond-true (ltb place len) (Some place) None low))) (ltb-true place len low)
      | inr past ↦ subst (λ n. n < len) (sym (ap (λ o. unwrap_or o 0) (cond-false (ltb place len) (Some place) None past))) some
    ]

low_number : (names : List (List ℕ)) (name : List ℕ) → 0 < length names → number_in names name < length names
low_number names name some = low_place (position_or_len (λ own. bytes_eq own name) names) (length names) some

-- the nodes

ground_is : (machines : List (List ℕ)) (nodes : List StackLine) (line : StackLine) (node : NodeEntry) → 0 < length machines → is_storage line ≡ true → node_of machines nodes line ≡ Some node → IsGroundNode machines node
ground_is machines nodes (Layer name machine (Upper kind below)) node some e is = absurd (false≢true e)
ground_is machines nodes (Layer name machine Disk) node some e is = subst (IsGroundNode machines) (same_value _ node is) (record { kind = tt; low = refl; bare = refl; machine = low_number machines machine some })
ground_is machines nodes (Layer name machine (Mirror left right)) node some e is = subst (IsGroundNode machines) (same_value _ node is) (record { kind = tt; low = refl; bare = refl; machine = low_number machines machine some })
ground_is machines nodes _ node some e is = absurd (false≢true e)

layer_is : (text earlier nodes : List StackLine) (machines : List (List ℕ)) (line : StackLine) (rest : List NodeEntry) → 0 < length machines → is_node text line ≡ true → keeps Limits earlier line ≡ true
    → AllByRecursion (IsLayerNode machines) rest → AllByRecursion (IsLayerNode machines) (cons_option (node_of machines nodes line) rest)
layer_is text earlier nodes machines (Layer name machine (Upper (Vmm frames) below)) rest some is e h =
    (record { kind = frames_in_limits frames (and_parts (has_room earlier below) (is_count MAX_FRAMES frames) e).1; machine = low_number machines machine some }, h)
layer_is text earlier nodes machines (Layer name machine (Upper kind below)) rest some is e h = (record { kind = refl; machine = low_number machines machine some }, h)
layer_is text earlier nodes machines _ rest some is e h = absurd (false≢true is)

each_layer : (text nodes : List StackLine) (machines : List (List ℕ)) (earlier lines : List StackLine) → 0 < length machines → KeepsRules earlier lines
    → AllByRecursion (IsLayerNode machines) (filter_map (λ line. node_of machines nodes line) (filter (λ line. is_node text line) lines))
each_layer text nodes machines earlier [] some keeps = tt
each_layer text nodes machines earlier (line ∷ lines) some keeps =
    let others = filter (λ l. is_node text l) lines in
    let rest = each_layer text nodes machines (earlier ++ line ∷ []) lines some keeps.1 in
    cond_both (is_node text line) (line ∷ others) others (λ ls. AllByRecursion (IsLayerNode machines) (filter_map (λ l. node_of machines nodes l) ls))
    (λ is. layer_is text earlier nodes machines line (filter_map (λ l. node_of machines nodes l) others) some is (keeps.0 Limits) rest) (λ _. rest)

pub all_at : {X : Type 0} (P : X → Type 0) (xs : List X) (i : ℕ) (d : X) → AllByRecursion P xs → i < length xs → P (get_or xs i d)
all_at P [] i d h lt = absurd (omega (arith, lt))
all_at P (x ∷ xs) zero d h lt = h.0
all_at P (x ∷ xs) (suc i) d h lt = all_at P xs i d h.1 (omega (arith, lt))

placed_below : (all rest : List NodeEntry) (first i : ℕ) (d : NodeEntry) → EachPlaced all first rest → i < length rest → (get_or rest i d).below < first + i
placed_below all [] first i d h lt = absurd (omega (arith, lt))
placed_below all (node ∷ rest) first zero d h lt = let low = h.0.lower in omega (arith, low)
placed_below all (node ∷ rest) first (suc i) d h lt = let low = placed_below all rest (suc first) i d h.1 (omega (arith, lt)) in omega (arith, low)

layer_at : (machines : List (List ℕ)) (ground : NodeEntry) (rest : List NodeEntry) → AllByRecursion (IsLayerNode machines) rest
    → (node : ℕ) (d : NodeEntry) → 0 < node → node < length (ground ∷ rest) → IsLayerNode machines (get_or (ground ∷ rest) node d)
layer_at machines ground rest h zero d above inside = absurd (omega (arith, above))
layer_at machines ground rest h (suc i) d above inside = all_at (IsLayerNode machines) rest i d h (omega (arith, inside))

below_at : (ground : NodeEntry) (rest : List NodeEntry) → ArePlaced ground rest → (node : ℕ) (d : NodeEntry) → 0 < node → node < length (ground ∷ rest) → (get_or (ground ∷ rest) node d).below < node
below_at ground rest are zero d above inside = absurd (omega (arith, above))
below_at ground rest are (suc i) d above inside = let low = placed_below (ground ∷ rest) rest 1 i d are.each (omega (arith, inside)) in omega (arith, low)

-- the ground's disks

length_below : (n : ℕ) → length (numbers_below n) ≡ n
length_below zero = refl
length_below (suc n) = let rest = length_below n in omega (arith, rest)

-- more disks than mirrors on one another
levels_low : (plan : Plan) → mirror_levels plan + 1 ≤ length (disks_in plan)
levels_low (OnDisk disk) = omega arith
levels_low (OnMirror left right) =
    let one = levels_low left in
    let other = levels_low right in
    let both = length-append (disks_in left) (disks_in right) in
    omega (arith, one, other, both)
levels_low (OnCoherency below) = levels_low below

-- what is below a node, read as `get` reads it
below_got : (nodes : List NodeEntry) → ((number : ℕ) (d : NodeEntry) → 0 < number → number < length nodes → (get_or nodes number d).below < number)
    → (number : ℕ) (node : NodeEntry) → 0 < number → slice_get nodes number ≡ Some node → node.below < number
below_got nodes ordered number node above at =
    subst (λ (n : NodeEntry). n.below < number) (get_or_from_slice_get nodes number node node at) (ordered number node above (slice_get_within nodes number node at))

based : (lines : List StackLine) (keeps : KeepsRules [] lines) → AreBased (nodes_of lines)
based lines keeps =
    let has = has_nodes lines keeps in
    record {
      unseen = ground_unseen lines keeps;
      ordered = below_got (nodes_of lines) (λ node d above inside. subst (λ ns. (get_or ns node d).below < node) (sym has.all) (below_at has.ground has.rest has.placed node d above (subst (λ ns. node < length ns) has.all inside)));
      stands = nodes_stand lines keeps;
    }

pub mounted_is : (lines : List StackLine) → IsAccepted lines → IsMount (mounted lines)
mounted_is lines accepted =
    let keeps = kept lines accepted in
    let has = has_nodes lines keeps in
    let machines = machines_of lines in
    let some = some_machine [] lines (ground_storage lines keeps) in
    let layers : AllByRecursion (IsLayerNode machines) has.rest = subst (AllByRecursion (IsLayerNode machines)) (sym has.others) (each_layer lines (node_lines lines) machines [] lines some keeps) in
    let files = some_count (λ l. is_file l) lines (kept_at_end [] lines keeps Limits) in
    let file_count = count_files lines in
    let few_files = few_by (λ l. is_file l) 16 file_step [] lines keeps (omega arith) in
    let disk_count = count_disks lines in
    let few_disks = few_by (λ l. is_disk l) 4 disk_step [] lines keeps (omega arith) in
    let ground = plan_back (reverse lines) (ground_name lines) in
    let each = ground_disks lines keeps in
    let disks : IsPermutation (disks_in ground) (numbers_below (length (filter_map (λ line. disk_of line) lines))) = subst (λ n. IsPermutation (disks_in ground) (numbers_below n)) (sym disk_count) each in
    let levels = levels_low ground in
    let counted = length_permutation (disks_in ground) (numbers_below (count_by (λ l. is_disk l) lines)) each in
    let below = length_below (count_by (λ l. is_disk l) lines) in
    record {
      page_size = page_size_is lines keeps;
      some_file = omega (arith, files, file_count);
      few_files = omega (arith, few_files, file_count);
      pages = each_pages [] lines keeps;
      some_disk = omega (arith, levels, counted, below, disk_count);
      few_disks = omega (arith, few_disks, disk_count);
      disks = disks;
      levels = omega (arith, few_disks, levels, counted, below);
      file_names = files_differ lines keeps;
      node_names = nodes_differ lines keeps;
      disk_names = disks_differ lines keeps;
      machine_names = machines_differ lines;
      tree = mounted_tree lines accepted;
      served = refl;
      some_layer = two_nodes lines keeps;
      few_nodes = few_nodes lines keeps;
      ground_node = λ d. subst (λ ns. IsGroundNode machines (get_or ns 0 d)) (sym has.all) (ground_is machines (node_lines lines) has.line has.ground some has.storage has.named);
      layer_node = λ node d above inside. subst (λ ns. IsLayerNode machines (get_or ns node d)) (sym has.all) (layer_at machines has.ground has.rest layers node d above (subst (λ ns. node < length ns) has.all inside));
      ordered = λ node d above inside. subst (λ ns. (get_or ns node d).below < node) (sym has.all) (below_at has.ground has.rest has.placed node d above (subst (λ ns. node < length ns) has.all inside));
      stands = nodes_stand lines keeps;
      depths = nodes_low lines keeps (based lines keeps).ordered;
      first = nodes_first lines keeps;
      serving = λ view machine seen. view_served (nodes_of lines) (based lines keeps) view view machine (omega arith) seen;
    }

mount_of : ℕ → List FileEntry → TreeShape → List NodeEntry → Plan → List (List ℕ) → List (List ℕ) → Mount
mount_of page_size files tree nodes ground disks machines = record { page_size = page_size; files = files; tree = tree; nodes = nodes; ground = ground; disks = disks; machines = machines }

same_mount : (p p' : ℕ) (f f' : List FileEntry) (t t' : TreeShape) (n n' : List NodeEntry) (g g' : Plan) (d d' m m' : List (List ℕ)) → p ≡ p' → f ≡ f' → t ≡ t' → n ≡ n' → g ≡ g' → d ≡ d' → m ≡ m'
    → mount_of p f t n g d m ≡ mount_of p' f' t' n' g' d' m'
same_mount p p' f f' t t' n n' g g' d d' m m' a b c e h i j = cc

made_of : (m : Mount) → mount_of m.page_size m.files m.tree m.nodes m.ground m.disks m.machines ≡ m
unfolding mount_of
made_of m = refl

-- the same, of what has the parts of the mounted stack
pub sound_parts : (lines : List StackLine) (m : Mount) → m.page_size ≡ page_size_of lines → m.files ≡ filter_map (λ line. file_of line) lines → m.tree ≡ tree_of (nodes_of lines) → m.nodes ≡ nodes_of lines
    → m.ground ≡ plan_back (reverse lines) (ground_name lines) → m.disks ≡ filter_map (λ line. disk_of line) lines → m.machines ≡ machines_of lines → IsAccepted lines → IsMount m
sound_parts lines m page_size files tree nodes ground disks machines accepted =
    let made = mounted lines in
    let same : m ≡ made = sym (made_of m) ∙ same_mount m.page_size made.page_size m.files made.files m.tree made.tree m.nodes made.nodes m.ground made.ground m.disks made.disks m.machines made.machines page_size files tree nodes ground disks machines ∙ made_of made in
    subst IsMount (sym same) (mounted_is lines accepted)
