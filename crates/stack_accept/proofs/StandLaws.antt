-- The nodes of an accepted text: their names differ, each stands on what its kind may stand on, and one alone on the ground.
use Rattle.std.proofs.Common.{◌≡◌, ℕ, zero, suc, ◌<◌, ◌≤◌, List, [], ◌∷◌, length, map, Bool, true, false, not, ◌&&◌, Some, refl, sym, ap, subst, ◌∙◌, inl, inr, arith}
use Rattle.std.specs.Prelude.{slice_get, ◌⊎◌}
use Rattle.std.specs.Option.{option_map, option_map_or}
use Rattle.std.specs.List.{list_any, filter, filter_map, cons_option, find, AllByRecursion}
use Rattle.std.proofs.lemmas.Option.{slice_get-map}
use Rattle.std.proofs.lemmas.Bool.{cases_Bool, or_cases, or_from, or_left, or_right, and_parts, and_from, both_ways, false≢true, true≢false, not-true, false_from_ne_true, cond_both, cond-true, cond-false}
use Rattle.stack_text.specs.declared.stack.StackLine.{StackLine}
use Rattle.stack_text.specs.declared.stack.StackLine.TheVariants.{Layer}
use Rattle.stack_text.specs.declared.stack.LayerKind.{LayerKind}
use Rattle.stack_text.specs.declared.stack.LayerKind.TheVariants.{Upper}
use Rattle.stack_text.specs.declared.stack.UpperKind.TheVariants.{Coherency, Dfs, Vmm}
use Rattle.stack_accept.specs.declared.entries.Kind.TheVariants as kinds
use Rattle.stack_accept.specs.declared.entries.NodeEntry.{NodeEntry}
use Rattle.stack_accept.specs.Lines.{is_coherency, is_dfs, is_vmm, is_storage, is_upper, is_layer, name_of, machine_of, is_word, is_named}
use Rattle.stack_accept.specs.Rules.{is_near, is_node, is_first_node, KeepsRules}
use Rattle.stack_accept.specs.Mount.{number_in, base_of, ground_name, node_lines, node_number, node_kind, node_below, node_of, nodes_of, machines_of, is_dfs_node, is_view}
use Rattle.stack_accept.specs.Sound.{AreDifferent, IsStorageKind, may_stand_on, StandsOn}
use Rattle.stack_accept.proofs.Lists.{same_value, all_found, all_filtered, all_got, all_weakly, found_passes, number_passes, list_any_weaker}
use Rattle.stack_accept.proofs.TreeLaws.{EachPlaced}
use Rattle.stack_accept.proofs.KindLaws.{storage_unseen, on_ground, on_view}
use Rattle.stack_accept.proofs.NodeLaws.{word_is, storage_layer, upper_layer}
use Rattle.stack_accept.proofs.MountLaws.{HasNodes, has_nodes, first_node, node_upper}
use Rattle.stack_accept.proofs.NameLaws.{all_named, distinct_apart, names_of, has_names, distinct_option, names_distinct}
use Rattle.stack_accept.proofs.DiskLaws.{has, AreDistinct}
use Rattle.stack_accept.proofs.BaseLaws.{is_view_line, IsFounded, nodes_founded, only_first}

-- an entry, seen from its line
pub record IsEntry (machines : List (List ℕ)) (nodes : List StackLine) (line : StackLine) (node : NodeEntry) : Type 0 where
  pub name : name_of line ≡ Some node.name
  pub machine : (word : List ℕ) → machine_of line ≡ Some word → node.machine ≡ number_in machines word
  pub below : is_upper line ≡ true → node.below ≡ node_number nodes (base_of line)
  pub coherency : is_coherency line ≡ true → node.kind ≡ kinds.Coherency
  pub storage : is_storage line ≡ true → IsStorageKind node.kind
  pub view : is_upper line ≡ true → is_vmm line ≡ false → is_view node.kind ≡ true
  pub other : is_dfs_node node.kind ≡ false → is_dfs line ≡ false

word_number : (machines : List (List ℕ)) (own word : List ℕ) → Some own ≡ Some word → number_in machines own ≡ number_in machines word
word_number machines own word e = ap (λ w. number_in machines w) (same_value own word e)

-- the parts of an entry that go by its kind
upper_below : (nodes : List StackLine) (name machine : List ℕ) (kind : LayerKind) → is_upper (Layer name machine kind) ≡ true → node_below nodes kind ≡ node_number nodes (base_of (Layer name machine kind))
upper_below nodes name machine (Upper kind below) u = refl
upper_below nodes name machine _ u = absurd (false≢true u)

coherency_kind : (name machine : List ℕ) (kind : LayerKind) → is_coherency (Layer name machine kind) ≡ true → node_kind kind ≡ kinds.Coherency
coherency_kind name machine (Upper Coherency below) c = refl
coherency_kind name machine _ c = absurd (false≢true c)

storage_kind : (name machine : List ℕ) (kind : LayerKind) → is_storage (Layer name machine kind) ≡ true → IsStorageKind (node_kind kind)
storage_kind name machine (Upper kind below) s = absurd (false≢true s)
storage_kind name machine _ s = tt

view_kind : (name machine : List ℕ) (kind : LayerKind) → is_upper (Layer name machine kind) ≡ true → is_vmm (Layer name machine kind) ≡ false → is_view (node_kind kind) ≡ true
view_kind name machine (Upper (Vmm frames) below) u v = absurd (true≢false v)
view_kind name machine (Upper kind below) u v = refl
view_kind name machine _ u v = absurd (false≢true u)

other_kind : (name machine : List ℕ) (kind : LayerKind) → is_dfs_node (node_kind kind) ≡ false → is_dfs (Layer name machine kind) ≡ false
other_kind name machine (Upper Dfs below) d = d
other_kind name machine _ d = refl

pub entry_of : (machines : List (List ℕ)) (nodes : List StackLine) (line : StackLine) (node : NodeEntry) → is_layer line ≡ true → node_of machines nodes line ≡ Some node → IsEntry machines nodes line node
entry_of machines nodes (Layer name machine kind) node is e =
    subst (IsEntry machines nodes (Layer name machine kind)) (same_value _ node e) (record {
      name = refl;
      machine = word_number machines machine;
      below = upper_below nodes name machine kind;
      coherency = coherency_kind name machine kind;
      storage = storage_kind name machine kind;
      view = view_kind name machine kind;
      other = other_kind name machine kind;
    })
entry_of machines nodes _ node is e = absurd (false≢true is)

layer_entry : (machines : List (List ℕ)) (nodes : List StackLine) (line : StackLine) → is_layer line ≡ true → (node : NodeEntry) × (node_of machines nodes line ≡ Some node)
layer_entry machines nodes (Layer name machine kind) is = (_, refl)
layer_entry machines nodes _ is = absurd (false≢true is)

machine_word : (line : StackLine) → is_layer line ≡ true → (word : List ℕ) × (machine_of line ≡ Some word)
machine_word (Layer name machine kind) is = (machine, refl)
machine_word _ is = absurd (false≢true is)

storage_low : (line : StackLine) → is_storage line ≡ true → is_upper line ≡ true → ⊥
storage_low (Layer name machine (Upper kind below)) s u = false≢true s
storage_low _ s u = false≢true u

-- entries and their lines stand at the same places
record HasLine (machines : List (List ℕ)) (nodes lines : List StackLine) (i : ℕ) (node : NodeEntry) : Type 0 where
  pub line : StackLine
  pub at : slice_get lines i ≡ Some line
  pub entry : IsEntry machines nodes line node

entry_at : (machines : List (List ℕ)) (nodes lines : List StackLine) → AllByRecursion (λ l. is_layer l ≡ true) lines → (i : ℕ) (node : NodeEntry)
    → slice_get (filter_map (λ l. node_of machines nodes l) lines) i ≡ Some node → HasLine machines nodes lines i node
entry_at machines nodes [] h i node e = absurd cc
entry_at machines nodes (line ∷ lines) h zero node e =
    let own = layer_entry machines nodes line h.0 in
    let front : slice_get (cons_option (Some own.0) (filter_map (λ l. node_of machines nodes l) lines)) 0 ≡ Some node = subst (λ o. slice_get (cons_option o (filter_map (λ l. node_of machines nodes l) lines)) 0 ≡ Some node) own.1 e in
    record { line = line; at = refl; entry = entry_of machines nodes line node h.0 (own.1 ∙ front) }
entry_at machines nodes (line ∷ lines) h (suc i) node e =
    let own = layer_entry machines nodes line h.0 in
    let later = entry_at machines nodes lines h.1 i node (subst (λ o. slice_get (cons_option o (filter_map (λ l. node_of machines nodes l) lines)) (suc i) ≡ Some node) own.1 e) in
    record { line = later.line; at = later.at; entry = later.entry }

entry_count : (machines : List (List ℕ)) (nodes lines : List StackLine) → AllByRecursion (λ l. is_layer l ≡ true) lines → length (filter_map (λ l. node_of machines nodes l) lines) ≡ length lines
entry_count machines nodes [] h = refl
entry_count machines nodes (line ∷ lines) h =
    let own = layer_entry machines nodes line h.0 in
    ap (λ o. length (cons_option o (filter_map (λ l. node_of machines nodes l) lines))) own.1 ∙ ap suc (entry_count machines nodes lines h.1)

entry_names : (machines : List (List ℕ)) (nodes lines : List StackLine) → AllByRecursion (λ l. is_layer l ≡ true) lines → map (λ node. node.name) (filter_map (λ l. node_of machines nodes l) lines) ≡ names_of lines
entry_names machines nodes [] h = refl
entry_names machines nodes (line ∷ lines) h =
    let own = layer_entry machines nodes line h.0 in
    let is = entry_of machines nodes line own.0 h.0 own.1 in
    ap (λ o. map (λ (node : NodeEntry). node.name) (cons_option o (filter_map (λ l. node_of machines nodes l) lines))) own.1
    ∙ ap (λ names. own.0.name ∷ names) (entry_names machines nodes lines h.1)
    ∙ ap (λ o. cons_option o (names_of lines)) (sym is.name)

-- the ground's line
pub ground_is : (text : List StackLine) (has : HasNodes text) → (is_storage has.line ≡ true) × (is_named (ground_name text) has.line ≡ true)
ground_is text has = and_parts (is_storage has.line) (is_named (ground_name text) has.line) (found_passes (λ l. is_storage l && is_named (ground_name text) l) text has.line has.found)

-- what holds of each line of a text holds of the nodes' lines
pub over_nodes : (P : StackLine → Type 0) (text : List StackLine) → HasNodes text → AllByRecursion P text → AllByRecursion P (node_lines text)
over_nodes P text has h =
    subst (AllByRecursion P) (sym has.lines_are) (
      all_found P (λ l. is_storage l && is_named (ground_name text) l) text has.line h has.found,
      all_weakly (λ l. (is_node text l ≡ true) × P l) P (λ l both. both.1) (filter (λ l. is_node text l) text) (all_filtered P (λ l. is_node text l) text h),
    )

anything : (lines : List StackLine) → AllByRecursion (λ l. Unit {0}) lines
anything [] = tt
anything (line ∷ lines) = (tt, anything lines)

node_layers : (text : List StackLine) → HasNodes text → AllByRecursion (λ l. is_layer l ≡ true) (node_lines text)
node_layers text has =
    subst (AllByRecursion (λ l. is_layer l ≡ true)) (sym has.lines_are) (
      storage_layer has.line has.storage,
      all_weakly (λ l. (is_node text l ≡ true) × Unit {0}) (λ l. is_layer l ≡ true) (λ l both. upper_layer l (node_upper text l both.0)) (filter (λ l. is_node text l) text)
          (all_filtered (λ l. Unit {0}) (λ l. is_node text l) text (anything text)),
    )

-- the line of a node other than the ground
pub record IsNodeLine (text : List StackLine) (line : StackLine) : Type 0 where
  pub node : is_node text line ≡ true
  pub upper : is_upper line ≡ true
  pub founded : IsFounded text line

node_line : (text : List StackLine) (kept : KeepsRules [] text) (has : HasNodes text) (number : ℕ) (line : StackLine) → 0 < number → slice_get (node_lines text) number ≡ Some line → IsNodeLine text line
node_line text kept has zero line above at = absurd (omega (arith, above))
node_line text kept has (suc i) line above at =
    let there : slice_get (filter (λ l. is_node text l) text) i ≡ Some line = subst (λ ls. slice_get ls (suc i) ≡ Some line) has.lines_are at in
    let both = all_got (λ l. (is_node text l ≡ true) × (is_node text l ≡ true → IsFounded text l)) (filter (λ l. is_node text l) text) i line
    (all_filtered (λ l. is_node text l ≡ true → IsFounded text l) (λ l. is_node text l) text (nodes_founded text kept)) there in
    record { node = both.0; upper = node_upper text line both.0; founded = both.1 both.0 }

any_kept : (keep q : StackLine → Bool) (lines : List StackLine) → list_any (λ l. keep l && q l) lines ≡ true → list_any q (filter keep lines) ≡ true
any_kept keep q [] e = absurd (false≢true e)
any_kept keep q (line ∷ lines) e =
    elim (or_cases (keep line && q line) (list_any (λ l. keep l && q l) lines) e) [
      | inl here ↦
          let both = and_parts (keep line) (q line) here in
          ap (list_any q) (cond-true (keep line) (line ∷ filter keep lines) (filter keep lines) both.0) ∙ or_left (q line) (list_any q (filter keep lines)) both.1
      | inr later ↦
          let rest = any_kept keep q lines later in
          cond_both (keep line) (line ∷ filter keep lines) (filter keep lines) (λ ls. list_any q ls ≡ true) (λ _. or_right (q line) (list_any q (filter keep lines)) rest) (λ _. rest)
    ]

-- what a node stands on is a node
base_there : (text : List StackLine) (kept : KeepsRules [] text) (has : HasNodes text) (line : StackLine) → IsFounded text line → (is_first_node text line ≡ true → line ≡ (first_node text kept).0)
    → list_any (λ l. is_named (base_of line) l) (node_lines text) ≡ true
base_there text kept has line is only =
    elim is.base [
      | inl ground ↦
          let first = first_node text kept in
          let same : ground_name text ≡ base_of line = ap (λ o. option_map_or (λ l. base_of l) o []) first.1 ∙ ap base_of (sym (only ground.lowest)) in
          subst (λ ls. list_any (λ l. is_named (base_of line) l) ls ≡ true) (sym has.lines_are)
          (or_left (is_named (base_of line) has.line) _ (ap (λ n. is_named n has.line) (sym same) ∙ (ground_is text has).1))
      | inr view ↦
          let some : list_any (λ l. is_node text l && is_named (base_of line) l) text ≡ true =
          list_any_weaker (λ l. is_view_line text l && is_named (base_of line) l) (λ l. is_node text l && is_named (base_of line) l)
          (λ l e. let h = and_parts (is_view_line text l) (is_named (base_of line) l) e in and_from _ _ (and_parts (is_node text l) (not (is_vmm l)) h.0).0 h.1) text view.some in
          subst (λ ls. list_any (λ l. is_named (base_of line) l) ls ≡ true) (sym has.lines_are)
          (or_right (is_named (base_of line) has.line) _ (any_kept (λ l. is_node text l) (λ l. is_named (base_of line) l) text some))
    ]

near_machine : (machines : List (List ℕ)) (nodes : List StackLine) (line base_line : StackLine) (node base : NodeEntry) → is_layer line ≡ true → IsEntry machines nodes line node → IsEntry machines nodes base_line base
    → is_near (machine_of line) base_line ≡ true → is_dfs_node base.kind ≡ false → node.machine ≡ base.machine
near_machine machines nodes line base_line node base layer is base_is near other =
    let word = machine_word line layer in
    let close : is_near (Some word.0) base_line ≡ true = ap (λ m. is_near m base_line) (sym word.1) ∙ near in
    let same : is_word (machine_of base_line) word.0 ≡ true = elim (or_cases (is_dfs base_line) (is_word (machine_of base_line) word.0) close) [
      | inl dfs ↦ absurd (both_ways (is_dfs base_line) (base_is.other other) dfs)
      | inr w ↦ w
    ] in
    is.machine word.0 word.1 ∙ sym (base_is.machine word.0 (word_is (machine_of base_line) word.0 same))

-- a node that is not the ground, and what it stands on
pub record HasBase (text : List StackLine) (kept : KeepsRules [] text) (node base : NodeEntry) : Type 0 where
  pub line : StackLine
  pub place : ℕ
  pub at : slice_get (node_lines text) place ≡ Some line
  pub base_line : StackLine
  pub is : IsNodeLine text line
  pub entry : IsEntry (machines_of text) (node_lines text) line node
  pub base_entry : IsEntry (machines_of text) (node_lines text) base_line base
  pub named : is_named (base_of line) base_line ≡ true
  pub near : is_near (machine_of line) base_line ≡ true
  pub stood : ((is_coherency line ≡ true) × (is_storage base_line ≡ true) × (line ≡ (first_node text kept).0)) ⊎ (is_view_line text base_line ≡ true)

pub has_base : (text : List StackLine) (kept : KeepsRules [] text) (number : ℕ) (node base : NodeEntry) → 0 < number → slice_get (nodes_of text) number ≡ Some node → slice_get (nodes_of text) node.below ≡ Some base → HasBase text kept node base
has_base text kept number node base above at base_at =
    let has = has_nodes text kept in
    let machines = machines_of text in
    let nodes = node_lines text in
    let layers = node_layers text has in
    let mine = entry_at machines nodes nodes layers number node at in
    let under = entry_at machines nodes nodes layers node.below base base_at in
    let line = mine.line in
    let is = node_line text kept has number line above mine.at in
    let only : (l : StackLine) (i : ℕ) → slice_get nodes i ≡ Some l → is_first_node text l ≡ true → l ≡ (first_node text kept).0 =
    λ l i there. all_got (λ x. is_first_node text x ≡ true → x ≡ (first_node text kept).0) nodes i l (over_nodes (λ x. is_first_node text x ≡ true → x ≡ (first_node text kept).0) text has (only_first text kept)) there in
    let some = base_there text kept has line is.founded (only line number mine.at) in
    let place : slice_get nodes (node_number nodes (base_of line)) ≡ Some under.line = ap (λ k. slice_get nodes k) (sym (mine.entry.below is.upper)) ∙ under.at in
    let named : is_named (base_of line) under.line ≡ true = number_passes (λ l. is_named (base_of line) l) nodes under.line some place in
    record {
      line = line;
      place = number;
      at = mine.at;
      base_line = under.line;
      is = is;
      entry = mine.entry;
      base_entry = under.entry;
      named = named;
      near = all_got (λ l. is_named (base_of line) l ≡ true → is_near (machine_of line) l ≡ true) nodes node.below under.line
          (over_nodes (λ l. is_named (base_of line) l ≡ true → is_near (machine_of line) l ≡ true) text has is.founded.near) under.at named;
      stood = elim is.founded.base [
        | inl ground ↦
            inl (
              ground.coherent,
              all_got (λ l. is_named (base_of line) l ≡ true → is_storage l ≡ true) nodes node.below under.line (over_nodes (λ l. is_named (base_of line) l ≡ true → is_storage l ≡ true) text has ground.storage) under.at named,
              only line number mine.at ground.lowest,
            )
        | inr view ↦
            inr (all_got (λ l. is_named (base_of line) l ≡ true → is_view_line text l ≡ true) nodes node.below under.line
            (over_nodes (λ l. is_named (base_of line) l ≡ true → is_view_line text l ≡ true) text has view.view) under.at named)
      ];
    }

pub nodes_stand : (text : List StackLine) → KeepsRules [] text → (number : ℕ) (node base : NodeEntry) → 0 < number → slice_get (nodes_of text) number ≡ Some node → slice_get (nodes_of text) node.below ≡ Some base → StandsOn node base
nodes_stand text kept number node base above at base_at =
    let h = has_base text kept number node base above at base_at in
    record {
      kinds = elim h.stood [
        | inl ground ↦ ap (λ k. may_stand_on k base.kind) (h.entry.coherency ground.0) ∙ on_ground base.kind (h.base_entry.storage ground.1)
        | inr view ↦
            let both = and_parts (is_node text h.base_line) (not (is_vmm h.base_line)) view in
            on_view node.kind base.kind (h.base_entry.view (node_upper text h.base_line both.0) (not-true (is_vmm h.base_line) both.1))
      ];
      near = near_machine (machines_of text) (node_lines text) h.line h.base_line node base (upper_layer h.line h.is.upper) h.entry h.base_entry h.near;
    }

pub some_found : (p : StackLine → Bool) (lines : List StackLine) (line : StackLine) → find p lines ≡ Some line → list_any p lines ≡ true
some_found p [] line e = absurd cc
some_found p (l ∷ lines) line e =
    elim (cases_Bool (p l)) [
      | inl here ↦ or_left (p l) (list_any p lines) here
      | inr not_here ↦ or_right (p l) (list_any p lines) (some_found p lines line (sym (cond-false (p l) (Some l) (find p lines) not_here) ∙ e))
    ]

-- the names of the nodes

no_node : (text : List StackLine) (name : List ℕ) (lines : List StackLine) → AllByRecursion (λ l. (is_node text l ≡ true) × (is_named name l ≡ true → is_storage l ≡ true)) lines → list_any (λ l. is_named name l) lines ≡ false
no_node text name [] h = refl
no_node text name (line ∷ lines) h =
    or_from (is_named name line) (list_any (λ l. is_named name l) lines) (false_from_ne_true (is_named name line) (λ named. storage_low line (h.0.1 named) (node_upper text line h.0.0))) (no_node text name lines h.1)

pub nodes_differ : (text : List StackLine) → KeepsRules [] text → AreDifferent (map (λ node. node.name) (nodes_of text))
nodes_differ text kept =
    let found = has_nodes text kept in
    let others = filter (λ l. is_node text l) text in
    let ground = ground_is text found in
    let new : (name : List ℕ) → name_of found.line ≡ Some name → has (names_of others) name ≡ false =
    λ name is.
    let same : ground_name text ≡ name = same_value (ground_name text) name (sym (word_is (name_of found.line) (ground_name text) ground.1) ∙ is) in
    let there : list_any (λ l. is_storage l && is_named (ground_name text) l) text ≡ true = some_found (λ l. is_storage l && is_named (ground_name text) l) text found.line found.found in
    let all = all_named (λ l. is_storage l) name [] text kept (subst (λ n. list_any (λ l. is_storage l && is_named n l) text ≡ true) same there) in
    has_names others name ∙ no_node text name others (all_filtered (λ l. is_named name l ≡ true → is_storage l ≡ true) (λ l. is_node text l) text all) in
    let all : AreDistinct (names_of (found.line ∷ others)) = distinct_option (name_of found.line) (names_of others) new (names_distinct (λ l. is_node text l) [] text kept) in
    let lines : AreDistinct (names_of (node_lines text)) = subst (λ ls. AreDistinct (names_of ls)) (sym found.lines_are) all in
    subst AreDifferent (sym (entry_names (machines_of text) (node_lines text) (node_lines text) (node_layers text found))) (distinct_apart (names_of (node_lines text)) lines)

-- the layer on the ground

pub ground_unseen : (text : List StackLine) → KeepsRules [] text → (node : NodeEntry) → slice_get (nodes_of text) 0 ≡ Some node → is_view node.kind ≡ false
ground_unseen text kept node at =
    let has = has_nodes text kept in
    let same : has.ground ≡ node = same_value has.ground node (ap (λ ns. slice_get ns 0) (sym has.all) ∙ at) in
    let entry = entry_of (machines_of text) (node_lines text) has.line has.ground (storage_layer has.line has.storage) has.named in
    subst (λ (n : NodeEntry). is_view n.kind ≡ false) same (storage_unseen has.ground.kind (entry.storage has.storage))

-- whoever stands on the ground is the first node
first_name : (text : List StackLine) (kept : KeepsRules [] text) (number : ℕ) (node : NodeEntry) → 0 < number → slice_get (nodes_of text) number ≡ Some node → node.below ≡ 0 → name_of (first_node text kept).0 ≡ Some node.name
first_name text kept number node above at low =
    let has = has_nodes text kept in
    let ground_at : slice_get (nodes_of text) 0 ≡ Some has.ground = ap (λ ns. slice_get ns 0) has.all in
    let h = has_base text kept number node has.ground above at (ap (λ k. slice_get (nodes_of text) k) low ∙ ground_at) in
    elim h.stood [
      | inl ground ↦ ap name_of (sym ground.2) ∙ h.entry.name
      | inr view ↦
          let both = and_parts (is_node text h.base_line) (not (is_vmm h.base_line)) view in
          absurd (both_ways (is_view has.ground.kind) (ground_unseen text kept has.ground ground_at) (h.base_entry.view (node_upper text h.base_line both.0) (not-true (is_vmm h.base_line) both.1)))
    ]

some_length : (p : StackLine → Bool) (lines : List StackLine) → list_any p lines ≡ true → 1 ≤ length lines
some_length p [] e = absurd (false≢true e)
some_length p (line ∷ lines) e = omega arith

pub two_nodes : (text : List StackLine) → KeepsRules [] text → 2 ≤ length (nodes_of text)
two_nodes text kept =
    let has = has_nodes text kept in
    let first = first_node text kept in
    let some : list_any (λ l. is_node text l && is_node text l) text ≡ true =
    list_any_weaker (λ l. is_first_node text l) (λ l. is_node text l && is_node text l) (λ l e. let h = (and_parts (is_node text l) _ e).0 in and_from _ _ h h) text
    (some_found (λ l. is_first_node text l) text first.0 first.1) in
    let upper = some_length (λ l. is_node text l) (filter (λ l. is_node text l) text) (any_kept (λ l. is_node text l) (λ l. is_node text l) text some) in
    let count = entry_count (machines_of text) (node_lines text) (node_lines text) (node_layers text has) in
    let lines = ap length has.lines_are in
    omega (arith, upper, count, lines)

second : (nodes : List NodeEntry) → 2 ≤ length nodes → (node : NodeEntry) × (slice_get nodes 1 ≡ Some node)
second [] long = absurd (omega (arith, long))
second (ground ∷ []) long = absurd (omega (arith, long))
second (ground ∷ node ∷ nodes) long = (node, refl)

front_low : (all rest : List NodeEntry) (node : NodeEntry) → EachPlaced all 1 rest → slice_get rest 0 ≡ Some node → node.below ≡ 0
front_low all [] node placed at = absurd cc
front_low all (own ∷ rest) node placed at = let low = placed.0.lower in subst (λ (n : NodeEntry). n.below ≡ 0) (same_value own node at) (omega (arith, low))

-- it is node 1
pub nodes_first : (text : List StackLine) → KeepsRules [] text → (number : ℕ) (node : NodeEntry) → 0 < number → slice_get (nodes_of text) number ≡ Some node → node.below ≡ 0 → number ≡ 1
nodes_first text kept number node above at low =
    let has = has_nodes text kept in
    let next = second (nodes_of text) (two_nodes text kept) in
    let next_low : next.0.below ≡ 0 = front_low (has.ground ∷ has.rest) has.rest next.0 has.placed.each (ap (λ ns. slice_get ns 1) (sym has.all) ∙ next.1) in
    let mine = first_name text kept number node above at low in
    let its = first_name text kept 1 next.0 (omega arith) next.1 next_low in
    let one_name : next.0.name ≡ node.name = same_value next.0.name node.name (sym its ∙ mine) in
    let named : (i : ℕ) (n : NodeEntry) → slice_get (nodes_of text) i ≡ Some n → slice_get (map (λ (x : NodeEntry). x.name) (nodes_of text)) i ≡ Some n.name =
    λ i n there. slice_get-map (λ (x : NodeEntry). x.name) (nodes_of text) i ∙ ap (λ o. option_map (λ (x : NodeEntry). x.name) o) there in
    nodes_differ text kept number 1 node.name (named number node at) (named 1 next.0 next.1 ∙ ap (λ (n : List ℕ). Some n) one_name)
