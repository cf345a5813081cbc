-- The tree of an accepted text is a tree, of at most 32 nodes.
use Rattle.std.proofs.Common.{◌≡◌, ℕ, ◌+◌, ◌≤◌, List, [], ◌∷◌, ◌++◌, length, map, count_by, Bool, true, ◌&&◌, cond, ltb, Some, refl, sym, ap, subst, ◌∙◌, inl, inr, arith}
use Rattle.std.specs.Option.{option_map_or, option_to_list}
use Rattle.std.specs.List.{list_any, filter, filter_map, cons_option, find}
use Rattle.std.proofs.lemmas.Bool.{cases_Bool, false≢true, not-false, not-true, and_parts, eqb-true, ltb-true, cond_both}
use Rattle.std.proofs.lemmas.List.{append-nil, append_assoc, length-map}
use Rattle.std.proofs.lemmas.List.Sums.{length-filter}
use Rattle.stack_text.specs.declared.stack.StackLine.{StackLine}
use Rattle.stack_text.specs.declared.stack.StackLine.TheVariants.{Layer}
use Rattle.stack_text.specs.declared.stack.LayerKind.TheVariants.{Disk, Mirror, Upper}
use Rattle.tower_core.specs.TreeShape.{IsTree}
use Rattle.stack_accept.specs.declared.rule.Rule.TheVariants.{OneGround, Limits}
use Rattle.stack_accept.specs.declared.entries.NodeEntry.{NodeEntry}
use Rattle.stack_accept.specs.Lines.{is_layer, is_storage, is_upper, is_named, is_storage_name}
use Rattle.stack_accept.specs.Rules.{keeps, is_node, is_first_node, has_room, has_few_frames, IsAccepted, KeepsRules}
use Rattle.stack_accept.specs.Mount.{base_of, ground_name, ground_line, node_lines, node_of, nodes_of, machines_of, tree_of}
use Rattle.stack_accept.proofs.Lists.{find_some, list_any_weaker, count_by_none, count_by_push, count_by_weaker}
use Rattle.stack_accept.proofs.Kept.{kept_after, kept_at_end}
use Rattle.stack_accept.proofs.TreeLaws.{ArePlaced, placed_tree}
use Rattle.stack_accept.proofs.NodeLaws.{storage_layer, upper_layer, line_frames, leafless_first, placed_after}

pub kept : (lines : List StackLine) → IsAccepted lines → KeepsRules [] lines
kept lines accepted = kept_after [] lines accepted

pub first_base : (text : List StackLine) (line : StackLine) → is_first_node text line ≡ true → is_storage_name text (base_of line) ≡ true
first_base text (Layer name machine (Upper kind below)) e = not-false (is_storage_name text below) (not-true _ (and_parts (is_node text (Layer name machine (Upper kind below))) _ e).1)
first_base text _ e = absurd (false≢true e)

-- there is a first node
pub first_node : (lines : List StackLine) → KeepsRules [] lines → (line : StackLine) × (find (λ l. is_first_node lines l) lines ≡ Some line) × (is_first_node lines line ≡ true)
first_node lines keeps =
    let one : count_by (λ l. is_first_node lines l) lines ≡ 1 = eqb-true _ 1 (kept_at_end [] lines keeps OneGround) in
    elim (cases_Bool (list_any (λ l. is_first_node lines l) lines)) [
      | inl some ↦ find_some (λ l. is_first_node lines l) lines some
      | inr none ↦ let zero_of = count_by_none (λ l. is_first_node lines l) lines none in absurd (omega (arith, one, zero_of))
    ]

-- and a ground, which is a disk or a mirror
pub ground_found : (lines : List StackLine) → KeepsRules [] lines → (line : StackLine) × (ground_line lines ≡ Some line) × (is_storage line ≡ true)
ground_found lines keeps =
    let first = first_node lines keeps in
    let name : ground_name lines ≡ base_of first.0 = ap (λ o. option_map_or (λ line. base_of line) o []) first.1 in
    let there : is_storage_name lines (ground_name lines) ≡ true = ap (λ n. is_storage_name lines n) name ∙ first_base lines first.0 first.2 in
    let found = find_some (λ line. is_storage line && is_named (ground_name lines) line) lines there in
    (found.0, found.1, (and_parts (is_storage found.0) (is_named (ground_name lines) found.0) found.2).0)

-- so there is a disk or a mirror
pub ground_storage : (lines : List StackLine) → KeepsRules [] lines → list_any (λ line. is_storage line) lines ≡ true
ground_storage lines keeps =
    let first = first_node lines keeps in
    list_any_weaker (λ line. is_storage line && is_named (base_of first.0) line) (λ line. is_storage line) (λ line is. (and_parts (is_storage line) (is_named (base_of first.0) line) is).0) lines (first_base lines first.0 first.2)

-- the ground's node stands on nothing, and has no frames
record IsBareNode (machines : List (List ℕ)) (nodes : List StackLine) (line : StackLine) : Type 0 where
  pub node : NodeEntry
  pub is : node_of machines nodes line ≡ Some node
  pub low : node.below ≡ 0
  pub bare : node.frames ≡ 0
  pub unframed : line_frames line ≡ 0

storage_node : (machines : List (List ℕ)) (nodes : List StackLine) (line : StackLine) → is_storage line ≡ true → IsBareNode machines nodes line
storage_node machines nodes (Layer name machine Disk) e = record { node = _; is = refl; low = refl; bare = refl; unframed = refl }
storage_node machines nodes (Layer name machine (Mirror left right)) e = record { node = _; is = refl; low = refl; bare = refl; unframed = refl }
storage_node machines nodes _ e = absurd (false≢true e)

abbrev AreLayers : List StackLine → Type 0
AreLayers [] = Unit {0}
AreLayers (line ∷ lines) = (is_layer line ≡ true) × AreLayers lines

pub node_upper : (text : List StackLine) (line : StackLine) → is_node text line ≡ true → is_upper line ≡ true
node_upper text (Layer name machine (Upper kind below)) e = refl
node_upper text _ e = absurd (false≢true e)

node_layers : (text lines : List StackLine) → AreLayers (filter (λ line. is_node text line) lines)
node_layers text [] = tt
node_layers text (line ∷ lines) =
    let rest = filter (λ l. is_node text l) lines in
    cond_both (is_node text line) (line ∷ rest) rest AreLayers (λ e. (upper_layer line (node_upper text line e), node_layers text lines)) (λ _. node_layers text lines)

frames_of_line : (machines : List (List ℕ)) (nodes : List StackLine) (line : StackLine) (rest : List NodeEntry) → is_layer line ≡ true
    → map (λ node. node.frames) (cons_option (node_of machines nodes line) rest) ≡ line_frames line ∷ map (λ node. node.frames) rest
frames_of_line machines nodes (Layer name machine kind) rest e = refl
frames_of_line machines nodes _ rest e = absurd (false≢true e)

frames_are : (machines : List (List ℕ)) (nodes lines : List StackLine) → AreLayers lines
    → map (λ node. node.frames) (filter_map (λ line. node_of machines nodes line) lines) ≡ map (λ line. line_frames line) lines
frames_are machines nodes [] h = refl
frames_are machines nodes (line ∷ lines) h =
    frames_of_line machines nodes line (filter_map (λ l. node_of machines nodes l) lines) h.0 ∙ ap (λ fs. line_frames line ∷ fs) (frames_are machines nodes lines h.1)

-- the nodes of an accepted text: its ground, and those that are placed
pub record HasNodes (lines : List StackLine) : Type 0 where
  pub line : StackLine
  pub ground : NodeEntry
  pub rest : List NodeEntry
  pub storage : is_storage line ≡ true
  pub found : ground_line lines ≡ Some line
  pub named : node_of (machines_of lines) (node_lines lines) line ≡ Some ground
  pub others : rest ≡ filter_map (λ l. node_of (machines_of lines) (node_lines lines) l) (filter (λ l. is_node lines l) lines)
  pub all : nodes_of lines ≡ ground ∷ rest
  pub lines_are : node_lines lines ≡ line ∷ filter (λ l. is_node lines l) lines
  pub placed : ArePlaced ground rest

pub has_nodes : (lines : List StackLine) → KeepsRules [] lines → HasNodes lines
has_nodes lines keeps =
    let machines = machines_of lines in
    let nodes = node_lines lines in
    let others = filter (λ l. is_node lines l) lines in
    let found = ground_found lines keeps in
    let are : nodes ≡ found.0 ∷ others = ap (λ o. option_to_list o ++ others) found.1 in
    let bare = storage_node machines nodes found.0 found.2 in
    let rest = filter_map (λ l. node_of machines nodes l) others in
    let all : nodes_of lines ≡ bare.node ∷ rest = ap (λ ls. filter_map (λ l. node_of machines nodes l) ls) are ∙ ap (λ o. cons_option o rest) bare.is in
    let layers : AreLayers (found.0 ∷ others) = (storage_layer found.0 found.2, node_layers lines lines) in
    let frames : map (λ node. node.frames) (bare.node ∷ rest) ≡ map (λ l. line_frames l) nodes =
    ap (λ ns. map (λ (node : NodeEntry). node.frames) ns) (sym (ap (λ o. cons_option o rest) bare.is))
    ∙ frames_are machines nodes (found.0 ∷ others) layers ∙ ap (λ ls. map (λ l. line_frames l) ls) (sym are) in
    record {
      line = found.0;
      ground = bare.node;
      rest = rest;
      storage = found.2;
      found = found.1;
      named = bare.is;
      others = refl;
      all = all;
      lines_are = are;
      placed = record { low = bare.low; bare = bare.bare; each = placed_after lines machines (bare.node ∷ rest) nodes found.0 [] [] lines keeps are frames bare.unframed (leafless_first found.0 bare.unframed) };
    }

pub mounted_tree : (lines : List StackLine) → IsAccepted lines → IsTree (tree_of (nodes_of lines))
mounted_tree lines accepted =
    let has = has_nodes lines (kept lines accepted) in
    subst (λ ns. IsTree (tree_of ns)) (sym has.all) (placed_tree has.ground has.rest has.placed)

-- what the limits keep low at each line is low at the end
pub few_by : (p : StackLine → Bool) (most : ℕ) → ((earlier : List StackLine) (line : StackLine) → keeps Limits earlier line ≡ true → count_by p earlier ≤ most → count_by p earlier + cond (p line) 1 0 ≤ most)
    → (earlier lines : List StackLine) → KeepsRules earlier lines → count_by p earlier ≤ most → count_by p (earlier ++ lines) ≤ most
few_by p most step earlier [] keeps few = subst (λ ls. count_by p ls ≤ most) (sym (append-nil earlier)) few
few_by p most step earlier (line ∷ lines) keeps few =
    let next : count_by p (earlier ++ line ∷ []) ≤ most = subst (λ n. n ≤ most) (sym (count_by_push p earlier line)) (step earlier line (keeps.0 Limits) few) in
    subst (λ ls. count_by p ls ≤ most) (append_assoc earlier (line ∷ []) lines) (few_by p most step (earlier ++ line ∷ []) lines keeps.1 next)

-- at most 31 upper layers
upper_step : (earlier : List StackLine) (line : StackLine) → keeps Limits earlier line ≡ true → count_by (λ l. is_upper l) earlier ≤ 31 → count_by (λ l. is_upper l) earlier + cond (is_upper line) 1 0 ≤ 31
upper_step earlier (Layer name machine (Upper kind below)) e few =
    let low = ltb-true _ 31 (and_parts (ltb (count_by (λ l. is_upper l) earlier) 31) _ (and_parts (has_room earlier below) (has_few_frames kind) e).0).0 in omega (arith, low)
upper_step earlier _ e few = omega arith

pub few_nodes : (lines : List StackLine) → KeepsRules [] lines → length (nodes_of lines) ≤ 32
few_nodes lines keeps =
    let has = has_nodes lines keeps in
    let others = filter (λ l. is_node lines l) lines in
    let same : length has.rest ≡ length others =
    ap length has.others
    ∙ sym (length-map (filter_map (λ l. node_of (machines_of lines) (node_lines lines) l) others) (λ node. node.frames))
    ∙ ap length (frames_are (machines_of lines) (node_lines lines) others (node_layers lines lines))
    ∙ length-map others (λ line. line_frames line) in
    let counted = length-filter (λ l. is_node lines l) lines in
    let fewer = count_by_weaker (λ l. is_node lines l) (λ l. is_upper l) (λ line is. node_upper lines line is) lines in
    let few = few_by (λ l. is_upper l) 31 upper_step [] lines keeps (omega arith) in
    let all = ap length has.all in
    omega (arith, same, counted, fewer, few, all)

pub mounted_few : (lines : List StackLine) → IsAccepted lines → length (nodes_of lines) ≤ 32
mounted_few lines accepted = few_nodes lines (kept lines accepted)
