-- How deep the nodes of an accepted text stand above the ground.
use Rattle.std.proofs.Common.{◌≡◌, ℕ, zero, suc, ◌+◌, ◌<◌, ◌≤◌, List, [], ◌∷◌, ◌++◌, length, reverse, get_or, ltb, true, false, ◌&&◌, Some, refl, sym, ap, subst, ◌∙◌, inl, inr, arith, append_assoc}
use Rattle.std.specs.Prelude.{slice_get}
use Rattle.std.specs.List.{list_any, AllByRecursion}
use Rattle.std.proofs.lemmas.Option.{slice_get_within, slice_get-get_or}
use Rattle.std.proofs.lemmas.Bool.{cases_Bool, or_left, and_parts, and_from, and_right, false≢true, cond-true, cond-false, ltb-true}
use Rattle.std.proofs.lemmas.List.{reverse-reverse}
use Rattle.stack_text.specs.declared.stack.StackLine.{StackLine}
use Rattle.stack_text.specs.declared.stack.StackLine.TheVariants.{Layer}
use Rattle.stack_text.specs.declared.stack.LayerKind.TheVariants.{Upper}
use Rattle.stack_accept.specs.declared.rule.Rule.TheVariants.{NewName, EarlierLayer, Limits}
use Rattle.stack_accept.specs.declared.entries.NodeEntry.{NodeEntry}
use Rattle.stack_accept.specs.Lines.{is_layer, is_storage, is_upper, name_of, is_named, is_layer_named, is_declared}
use Rattle.stack_accept.specs.Rules.{keeps, is_taken, depth_on, depth_back, has_room, has_few_frames, KeepsRules}
use Rattle.stack_accept.specs.Mount.{base_of, ground_name, node_lines, nodes_of, machines_of, below_of, depth_in, depth}
use Rattle.stack_accept.proofs.Lists.{same_value, all_got}
use Rattle.stack_accept.proofs.NodeLaws.{word_is, storage_layer, upper_layer}
use Rattle.stack_accept.proofs.MountLaws.{has_nodes}
use Rattle.stack_accept.proofs.NameLaws.{all_named, named_own}
use Rattle.stack_accept.proofs.BackLaws.{KeepsBack, keeps_back, tail_back, new_back, declared_back, taken_more, all_reverse}
use Rattle.stack_accept.proofs.StandLaws.{entry_of, ground_is, over_nodes, some_found, has_base}

-- later lines leave the depth of a name as it was

depth_same : (line : StackLine) (back : List StackLine) (name : List ℕ) → is_named name line ≡ false → depth_back (line ∷ back) name ≡ depth_back back name
depth_same line back name e =
    cond-false {A = ℕ} (is_layer_named name line) (depth_on line (λ base. depth_back back base)) (depth_back back name) (and_right (is_layer line) (is_named name line) e)

old_depth : (newer back : List StackLine) (name : List ℕ) → KeepsBack (newer ++ back) → is_taken back name ≡ true → depth_back (newer ++ back) name ≡ depth_back back name
old_depth [] back name keeps taken = refl
old_depth (line ∷ newer) back name keeps taken =
    depth_same line (newer ++ back) name (new_back line (newer ++ back) name (keeps.0 NewName) (taken_more newer back name taken)) ∙ old_depth newer back name keeps.1 taken

storage_adds : (line : StackLine) → is_storage line ≡ true → (under : List ℕ → ℕ) → depth_on line under ≡ 0
storage_adds (Layer name machine (Upper kind below)) e under = absurd (false≢true e)
storage_adds _ e under = refl

-- a disk or a mirror has depth 0
storage_depth : (name : List ℕ) (back : List StackLine) → AllByRecursion (λ l. is_named name l ≡ true → is_storage l ≡ true) back → depth_back back name ≡ 0
storage_depth name [] h = refl
storage_depth name (line ∷ back) h =
    elim (cases_Bool (is_layer_named name line)) [
      | inl here ↦
          cond-true {A = ℕ} (is_layer_named name line) (depth_on line (λ base. depth_back back base)) (depth_back back name) here
          ∙ storage_adds line (h.0 (and_parts (is_layer line) (is_named name line) here).1) (λ base. depth_back back base)
      | inr other ↦ cond-false {A = ℕ} (is_layer_named name line) (depth_on line (λ base. depth_back back base)) (depth_back back name) other ∙ storage_depth name back h.1
    ]

-- what the rules and its line say of an upper layer
record IsUpperLine (earlier : List StackLine) (line : StackLine) : Type 0 where
  pub name : List ℕ
  pub named : name_of line ≡ Some name
  pub adds : (under : List ℕ → ℕ) → depth_on line under ≡ under (base_of line) + 1
  pub declared : is_declared earlier (base_of line) ≡ true
  pub room : has_room earlier (base_of line) ≡ true

upper_line : (earlier : List StackLine) (line : StackLine) → is_upper line ≡ true → keeps EarlierLayer earlier line ≡ true → keeps Limits earlier line ≡ true → IsUpperLine earlier line
upper_line earlier (Layer name machine (Upper kind below)) up declared room =
    record { name = name; named = refl; adds = λ under. refl; declared = declared; room = (and_parts (has_room earlier below) (has_few_frames kind) room).0 }
upper_line earlier _ up declared room = absurd (false≢true up)

-- an upper layer is one deeper than what it stands on, which is not too deep
pub record IsDeep (back : List StackLine) (line : StackLine) : Type 0 where
  pub name : List ℕ
  pub named : name_of line ≡ Some name
  pub deeper : depth_back back name ≡ depth_back back (base_of line) + 1
  pub low : depth_back back (base_of line) < 8

deep : (newer back : List StackLine) (line : StackLine) → KeepsBack (newer ++ line ∷ back) → is_upper line ≡ true → IsDeep (newer ++ line ∷ back) line
deep newer back line keeps up =
    let here = tail_back newer (line ∷ back) keeps in
    let is = upper_line (reverse back) line up (here.0 EarlierLayer) (here.0 Limits) in
    let b = base_of line in
    let named = named_own line is.name is.named in
    let regrouped : newer ++ line ∷ back ≡ (newer ++ line ∷ []) ++ back = sym (append_assoc newer (line ∷ []) back) in
    let above : depth_back (newer ++ line ∷ back) is.name ≡ depth_back (line ∷ back) is.name = old_depth newer (line ∷ back) is.name keeps (or_left (is_named is.name line) (is_taken back is.name) named) in
    let mine : depth_back (line ∷ back) is.name ≡ depth_back back b + 1 =
    cond-true {A = ℕ} (is_layer_named is.name line) (depth_on line (λ base. depth_back back base)) (depth_back back is.name) (and_from _ _ (upper_layer line up) named)
    ∙ is.adds (λ base. depth_back back base) in
    let under : depth_back (newer ++ line ∷ back) b ≡ depth_back back b =
    ap (λ ls. depth_back ls b) regrouped ∙ old_depth (newer ++ line ∷ []) back b (subst KeepsBack regrouped keeps) (declared_back back b is.declared) in
    let room : depth_back (reverse (reverse back)) b < 8 = ltb-true _ 8 (and_parts _ (ltb (depth_back (reverse (reverse back)) b) 8) is.room).1 in
    let same : depth_back (reverse (reverse back)) b ≡ depth_back back b = ap (λ ls. depth_back ls b) (reverse-reverse back) in
    record { name = is.name; named = is.named; deeper = omega (arith, above, mine, under); low = omega (arith, room, same, under) }

each_deep : (full newer back : List StackLine) → full ≡ newer ++ back → KeepsBack (newer ++ back) → AllByRecursion (λ line. is_upper line ≡ true → IsDeep full line) back
each_deep full newer [] whole keeps = tt
each_deep full newer (line ∷ back) whole keeps =
    let regrouped : newer ++ line ∷ back ≡ (newer ++ line ∷ []) ++ back = sym (append_assoc newer (line ∷ []) back) in (
      λ up. subst (λ ls. IsDeep ls line) (sym whole) (deep newer back line keeps up),
      each_deep full (newer ++ line ∷ []) back (whole ∙ regrouped) (subst KeepsBack regrouped keeps),
    )

lines_deep : (text : List StackLine) → KeepsRules [] text → AllByRecursion (λ line. is_upper line ≡ true → IsDeep (reverse text) line) text
lines_deep text kept = all_reverse (λ line. is_upper line ≡ true → IsDeep (reverse text) line) text (each_deep (reverse text) [] (reverse text) refl (keeps_back [] text kept tt))

ground_depth : (text : List StackLine) → KeepsRules [] text → (node : NodeEntry) → slice_get (nodes_of text) 0 ≡ Some node → depth_back (reverse text) node.name ≡ 0
ground_depth text kept node at =
    let has = has_nodes text kept in
    let ground = ground_is text has in
    let same : has.ground ≡ node = same_value has.ground node (ap (λ ns. slice_get ns 0) (sym has.all) ∙ at) in
    let entry = entry_of (machines_of text) (node_lines text) has.line has.ground (storage_layer has.line has.storage) has.named in
    let name : ground_name text ≡ node.name = same_value (ground_name text) node.name (sym (word_is (name_of has.line) (ground_name text) ground.1) ∙ entry.name ∙ ap (λ (n : NodeEntry). Some n.name) same) in
    let there : list_any (λ l. is_storage l && is_named (ground_name text) l) text ≡ true = some_found (λ l. is_storage l && is_named (ground_name text) l) text has.line has.found in
    let all = all_named (λ l. is_storage l) (ground_name text) [] text kept there in
    let P : StackLine → Type 0 = λ l. is_named (ground_name text) l ≡ true → is_storage l ≡ true in
    ap (λ n. depth_back (reverse text) n) (sym name) ∙ storage_depth (ground_name text) (reverse text) (all_reverse P (reverse text) (subst (AllByRecursion P) (sym (reverse-reverse text)) all))

-- one step down
record HasDepth (text : List StackLine) (node base : NodeEntry) : Type 0 where
  pub deeper : depth_back (reverse text) node.name ≡ depth_back (reverse text) base.name + 1
  pub low : depth_back (reverse text) base.name < 8

step_down : (text : List StackLine) → KeepsRules [] text → (number : ℕ) (node base : NodeEntry) → 0 < number → slice_get (nodes_of text) number ≡ Some node → slice_get (nodes_of text) node.below ≡ Some base → HasDepth text node base
step_down text kept number node base above at base_at =
    let h = has_base text kept number node base above at base_at in
    let back = reverse text in
    let is = all_got (λ l. is_upper l ≡ true → IsDeep back l) (node_lines text) h.place h.line (over_nodes (λ l. is_upper l ≡ true → IsDeep back l) text (has_nodes text kept) (lines_deep text kept)) h.at h.is.upper in
    let mine : is.name ≡ node.name = same_value is.name node.name (sym is.named ∙ h.entry.name) in
    let under : base_of h.line ≡ base.name = same_value (base_of h.line) base.name (sym (word_is (name_of h.base_line) (base_of h.line) h.named) ∙ h.base_entry.name) in
    let deeper : depth_back back node.name ≡ depth_back back (base_of h.line) + 1 = ap (λ n. depth_back back n) (sym mine) ∙ is.deeper in
    let same : depth_back back (base_of h.line) ≡ depth_back back base.name = ap (λ n. depth_back back n) under in
    record { deeper = omega (arith, deeper, same); low = omega (arith, is.low, same) }

-- what a node stands on is a node
base_at : (nodes : List NodeEntry) (number : ℕ) (node : NodeEntry) → node.below < number → slice_get nodes number ≡ Some node → slice_get nodes node.below ≡ Some (get_or nodes node.below node)
base_at nodes number node low at = let inside = slice_get_within nodes number node at in slice_get-get_or nodes node.below node (omega (arith, low, inside))

abbrev Ordered : List NodeEntry → Type 0
Ordered nodes = (number : ℕ) (node : NodeEntry) → 0 < number → slice_get nodes number ≡ Some node → node.below < number

node_depth : (text : List StackLine) → KeepsRules [] text → Ordered (nodes_of text) → (steps number : ℕ) (node : NodeEntry) → number ≤ steps → slice_get (nodes_of text) number ≡ Some node
    → depth_in steps (nodes_of text) number ≡ depth_back (reverse text) node.name
node_depth text kept ordered zero number node few at =
    let first : number ≡ 0 = omega (arith, few) in sym (ground_depth text kept node (ap (λ k. slice_get (nodes_of text) k) (sym first) ∙ at))
node_depth text kept ordered (suc steps) zero node few at = sym (ground_depth text kept node at)
node_depth text kept ordered (suc steps) (suc number) node few at =
    let low = ordered (suc number) node (omega arith) at in
    let base = get_or (nodes_of text) node.below node in
    let there = base_at (nodes_of text) (suc number) node low at in
    let one = step_down text kept (suc number) node base (omega arith) at there in
    let down : below_of (slice_get (nodes_of text) (suc number)) ≡ node.below = ap below_of at in
    let rest = node_depth text kept ordered steps node.below base (omega (arith, low, few)) there in
    ap (λ k. depth_in steps (nodes_of text) k + 1) down ∙ ap (λ (k : ℕ). k + 1) rest ∙ sym one.deeper

pub nodes_low : (text : List StackLine) → KeepsRules [] text → Ordered (nodes_of text) → (number : ℕ) → number < length (nodes_of text) → depth (nodes_of text) number ≤ 8
nodes_low text kept ordered zero inside = omega arith
nodes_low text kept ordered (suc number) inside =
    let has = has_nodes text kept in
    let node = get_or (nodes_of text) (suc number) has.ground in
    let at : slice_get (nodes_of text) (suc number) ≡ Some node = slice_get-get_or (nodes_of text) (suc number) has.ground inside in
    let low = ordered (suc number) node (omega arith) at in
    let one = step_down text kept (suc number) node (get_or (nodes_of text) node.below node) (omega arith) at (base_at (nodes_of text) (suc number) node low at) in
    let is = node_depth text kept ordered (suc number) (suc number) node (omega arith) at in
    omega (arith, is, one.deeper, one.low)
