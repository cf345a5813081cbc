-- The nodes of an accepted text: each stands on an earlier one that is no memory manager.
use Rattle.std.proofs.Common.{◌≡◌, ℕ, suc, ◌+◌, ◌<◌, List, [], ◌∷◌, ◌++◌, length, map, true, false, not, ◌&&◌, cond, ltb, Option, Some, None, refl, sym, ap, subst, ◌∙◌, inl, inr, arith}
use Rattle.std.specs.Prelude.{slice_index, unwrap_or}
use Rattle.std.specs.List.{position_or_len, list_any, filter, filter_map, cons_option}
use Rattle.std.proofs.lemmas.Slice.Eq.{bytes_eq-Decides}
use Rattle.std.proofs.lemmas.Bool.{cases_Bool, or_parts, or_from, both_ways, false≢true, true≢false, not-true, and_parts, and_from, false_from_ne_true, cond-true, cond-false, lt-ltb, le-ltb, or_left}
use Rattle.std.proofs.lemmas.List.{append_assoc, length-append}
use Rattle.stack_text.specs.declared.stack.StackLine.{StackLine}
use Rattle.stack_text.specs.declared.stack.StackLine.TheVariants.{Layer}
use Rattle.stack_text.specs.declared.stack.LayerKind.TheVariants.{Upper}
use Rattle.stack_text.specs.declared.stack.UpperKind.TheVariants.{Vmm}
use Rattle.stack_accept.specs.declared.rule.Rule.TheVariants.{NewName, EarlierLayer, ManagerOnTop}
use Rattle.stack_accept.specs.declared.entries.NodeEntry.{NodeEntry}
use Rattle.stack_accept.specs.Lines.{is_vmm, is_storage, is_upper, is_layer, name_of, is_word, is_named, is_layer_named, is_declared, is_vmm_name}
use Rattle.stack_accept.specs.Rules.{is_taken, is_new_name, keeps, is_node, KeepsRules}
use Rattle.stack_accept.specs.Mount.{node_number, node_frames, node_of}
use Rattle.stack_accept.proofs.Lists.{list_any_weaker, list_any_filter, list_any_push, place_front}
use Rattle.stack_accept.proofs.TreeLaws.{frames_at, EachPlaced}

pub word_is : (own : Option (List ℕ)) (word : List ℕ) → is_word own word ≡ true → own ≡ Some word
word_is None word e = absurd (false≢true e)
word_is (Some own) word e = ap (λ (w : List ℕ). Some w) ((bytes_eq-Decides own word).0 e)

pub new_none : (earlier : List StackLine) (name : Option (List ℕ)) (word : List ℕ) → is_new_name earlier name ≡ true → is_taken earlier word ≡ true → is_word name word ≡ false
new_none earlier name word new taken =
    false_from_ne_true _ (λ same.
    let is = word_is name word same in
    let free : is_new_name earlier (Some word) ≡ true = subst (λ n. is_new_name earlier n ≡ true) is new in
    both_ways (is_taken earlier word) (not-true (is_taken earlier word) free) taken)

-- a name that was taken is not declared again
pub taken_later : (earlier lines : List StackLine) (name : List ℕ) → KeepsRules earlier lines → is_taken earlier name ≡ true → list_any (λ line. is_named name line) lines ≡ false
taken_later earlier [] name kept taken = refl
taken_later earlier (line ∷ lines) name kept taken =
    let here = new_none earlier (name_of line) name (kept.0 NewName) taken in
    let still : is_taken (earlier ++ line ∷ []) name ≡ true = list_any_push (λ l. is_named name l) earlier line ∙ or_left _ (is_named name line) taken in
    or_from _ _ here (taken_later (earlier ++ line ∷ []) lines name kept.1 still)

pub declared_taken : (lines : List StackLine) (name : List ℕ) → is_declared lines name ≡ true → is_taken lines name ≡ true
declared_taken lines name e = list_any_weaker (λ line. is_layer_named name line) (λ line. is_named name line) (λ line is. (and_parts (is_layer line) (is_named name line) is).1) lines e

-- a disk, a mirror and an upper layer are layers
pub storage_layer : (line : StackLine) → is_storage line ≡ true → is_layer line ≡ true
storage_layer (Layer name machine kind) e = refl
storage_layer _ e = absurd (false≢true e)

pub upper_layer : (line : StackLine) → is_upper line ≡ true → is_layer line ≡ true
upper_layer (Layer name machine kind) e = refl
upper_layer _ e = absurd (false≢true e)

-- the frames that a line gives its node
abbrev pub line_frames : StackLine → ℕ
line_frames (Layer name machine kind) = node_frames kind
line_frames _ = 0

no_manager : (line : StackLine) → is_vmm line ≡ false → line_frames line ≡ 0
no_manager (Layer name machine (Upper (Vmm frames) below)) e = absurd (true≢false e)
no_manager _ e = refl

-- no line of the name has frames
abbrev NoLeaf : List ℕ → List StackLine → Type 0
NoLeaf name [] = Unit {0}
NoLeaf name (line ∷ lines) = (is_named name line ≡ true → line_frames line ≡ 0) × NoLeaf name lines

no_leaf_unnamed : (name : List ℕ) (lines : List StackLine) → list_any (λ line. is_named name line) lines ≡ false → NoLeaf name lines
no_leaf_unnamed name [] e = tt
no_leaf_unnamed name (line ∷ lines) e =
    let parts = or_parts (is_named name line) (list_any (λ l. is_named name l) lines) e in
    ((λ named. absurd (both_ways (is_named name line) parts.0 named)), no_leaf_unnamed name lines parts.1)

no_leaf_append : (name : List ℕ) (front back : List StackLine) → NoLeaf name front → NoLeaf name back → NoLeaf name (front ++ back)
no_leaf_append name [] back f b = b
no_leaf_append name (line ∷ front) back f b = (f.0, no_leaf_append name front back f.1 b)

-- the frames at the first place of the name
at_place : (name : List ℕ) (lines : List StackLine) → NoLeaf name lines → slice_index (map (λ line. line_frames line) lines) (position_or_len (λ line. is_named name line) lines) ≡ 0
at_place name [] h = refl
at_place name (line ∷ lines) h =
    elim (cases_Bool (is_named name line)) [
      | inl here ↦
          ap (λ n. slice_index (map (λ l. line_frames l) (line ∷ lines)) n) (cond-false (not (is_named name line)) (1 + position_or_len (λ l. is_named name l) lines) 0 (ap not here))
          ∙ h.0 here
      | inr not_here ↦
          let step : position_or_len (λ l. is_named name l) (line ∷ lines) ≡ suc (position_or_len (λ l. is_named name l) lines) =
          cond-true (not (is_named name line)) (1 + position_or_len (λ l. is_named name l) lines) 0 (ap not not_here) ∙ omega arith in
          ap (λ n. slice_index (map (λ l. line_frames l) (line ∷ lines)) n) step ∙ at_place name lines h.1
    ]

-- the number of a name that only the front has is in the front, and has no frames
pub record IsLowNumber (front back : List StackLine) (name : List ℕ) : Type 0 where
  pub low : node_number (front ++ back) name < length front
  pub bare : slice_index (map (λ line. line_frames line) (front ++ back)) (node_number (front ++ back) name) ≡ 0

abbrev number_from : ℕ → ℕ → ℕ
number_from place len = unwrap_or (cond (ltb place len) (Some place) None) 0

low_number : (first : StackLine) (front back : List StackLine) (name : List ℕ) → line_frames first ≡ 0 → NoLeaf name (first ∷ front)
    → list_any (λ line. is_named name line) back ≡ false → IsLowNumber (first ∷ front) back name
low_number first front back name bare none later =
    let all = first ∷ front ++ back in
    let place = position_or_len (λ line. is_named name line) all in
    let leafless = no_leaf_append name (first ∷ front) back none (no_leaf_unnamed name back later) in
    let len = length-append front back in
    elim (place_front (λ line. is_named name line) (first ∷ front) back later) [
      | inl low ↦
          let is : node_number all name ≡ place = ap (λ o. unwrap_or o 0) (cond-true (ltb place (length all)) (Some place) None (lt-ltb place (length all) (omega (arith, low, len)))) in
          record {
            low = subst (λ n. n < length (first ∷ front)) (sym is) low;
            bare = ap (λ n. slice_index (map (λ l. line_frames l) all) n) is ∙ at_place name all leafless;
          }
      | inr past ↦
          let is : node_number all name ≡ 0 = ap (λ o. unwrap_or o 0) (cond-false (ltb place (length all)) (Some place) None (le-ltb place (length all) past)) in
          record {
            low = subst (λ n. n < length (first ∷ front)) (sym is) (omega arith);
            bare = ap (λ n. slice_index (map (λ l. line_frames l) all) n) is ∙ bare;
          }
    ]

-- of the nodes so far, those whose name is no memory manager's have no frames
abbrev pub Leafless : List StackLine → List StackLine → Type 0
Leafless earlier nodes = (name : List ℕ) → is_vmm_name earlier name ≡ false → NoLeaf name nodes

leafless_push : (earlier nodes : List StackLine) (line : StackLine) → Leafless earlier nodes → Leafless (earlier ++ line ∷ []) (nodes ++ line ∷ [])
leafless_push earlier nodes line h name e =
    let parts = or_parts (is_vmm_name earlier name) (is_vmm line && is_named name line) (sym (list_any_push (λ l. is_vmm l && is_named name l) earlier line) ∙ e) in
    let last : is_named name line ≡ true → line_frames line ≡ 0 = λ named. no_manager line (false_from_ne_true (is_vmm line) (λ vmm. both_ways _ parts.1 (and_from _ _ vmm named))) in
    no_leaf_append name nodes (line ∷ []) (h name parts.0) (last, tt)

leafless_more : (earlier nodes : List StackLine) (line : StackLine) → Leafless earlier nodes → Leafless (earlier ++ line ∷ []) nodes
leafless_more earlier nodes line h name e =
    h name (or_parts (is_vmm_name earlier name) (is_vmm line && is_named name line) (sym (list_any_push (λ l. is_vmm l && is_named name l) earlier line) ∙ e)).0

pub leafless_first : (first : StackLine) → line_frames first ≡ 0 → Leafless [] (first ∷ [])
leafless_first first bare name e = ((λ _. bare), tt)

-- what an entry of a line needs to be placed
record IsBased (earlier nodes : List StackLine) (all : List NodeEntry) (place : ℕ) : Type 0 where
  pub at : (base : List ℕ) → is_declared earlier base ≡ true → not (is_vmm_name earlier base) ≡ true → (node_number nodes base < place) × (frames_at all (node_number nodes base) ≡ 0)

entry_placed : (text earlier nodes : List StackLine) (machines : List (List ℕ)) (all : List NodeEntry) (place : ℕ) (line : StackLine) (rest : List NodeEntry)
    → is_node text line ≡ true → keeps EarlierLayer earlier line ≡ true → keeps ManagerOnTop earlier line ≡ true → IsBased earlier nodes all place
    → EachPlaced all (suc place) rest → EachPlaced all place (cons_option (node_of machines nodes line) rest)
entry_placed text earlier nodes machines all place (Layer name machine (Upper kind below)) rest is declared manager based more =
    let h = based.at below declared manager in (record { lower = h.0; leafless = h.1 }, more)
entry_placed text earlier nodes machines all place _ rest is declared manager based more = absurd (false≢true is)

-- the nodes of the lines that follow the earlier ones
pub placed_after : (text : List StackLine) (machines : List (List ℕ)) (all : List NodeEntry) (nodes : List StackLine) (first : StackLine) (earlier front lines : List StackLine)
    → KeepsRules earlier lines → nodes ≡ (first ∷ front) ++ filter (λ line. is_node text line) lines → map (λ node. node.frames) all ≡ map (λ line. line_frames line) nodes
    → line_frames first ≡ 0 → Leafless earlier (first ∷ front) → EachPlaced all (length (first ∷ front)) (filter_map (λ line. node_of machines nodes line) (filter (λ line. is_node text line) lines))
placed_after text machines all nodes first earlier front [] kept are frames bare leafless = tt
placed_after text machines all nodes first earlier front (line ∷ lines) kept are frames bare leafless =
    let rest = filter (λ l. is_node text l) lines in
    let low : (base : List ℕ) → is_declared earlier base ≡ true → not (is_vmm_name earlier base) ≡ true → IsLowNumber (first ∷ front) (filter (λ l. is_node text l) (line ∷ lines)) base =
    λ base declared manager.
    low_number first front (filter (λ l. is_node text l) (line ∷ lines)) base bare (leafless base (not-true (is_vmm_name earlier base) manager))
    (list_any_filter (λ l. is_named base l) (λ l. is_node text l) (line ∷ lines) (taken_later earlier (line ∷ lines) base kept (declared_taken earlier base declared))) in
    let based : IsBased earlier nodes all (length (first ∷ front)) =
    record {
      at = λ base declared manager.
          let h = low base declared manager in (
            subst (λ ns. node_number ns base < length (first ∷ front)) (sym are) h.low,
            ap (λ fs. slice_index fs (node_number nodes base)) frames ∙ subst (λ ns. slice_index (map (λ l. line_frames l) ns) (node_number ns base) ≡ 0) (sym are) h.bare,
          );
    } in
    elim (cases_Bool (is_node text line)) [
      | inl yes_node ↦
          let kept_lines : filter (λ l. is_node text l) (line ∷ lines) ≡ line ∷ rest = cond-true (is_node text line) (line ∷ rest) rest yes_node in
          let regrouped : nodes ≡ (first ∷ (front ++ line ∷ [])) ++ rest = are ∙ ap (λ ls. (first ∷ front) ++ ls) kept_lines ∙ sym (append_assoc (first ∷ front) (line ∷ []) rest) in
          let more = placed_after text machines all nodes first (earlier ++ line ∷ []) (front ++ line ∷ []) lines kept.1 regrouped frames bare (leafless_push earlier (first ∷ front) line leafless) in
          let longer : length (first ∷ (front ++ line ∷ [])) ≡ suc (length (first ∷ front)) = omega (arith, length-append front (line ∷ [])) in
          subst (λ ls. EachPlaced all (length (first ∷ front)) (filter_map (λ l. node_of machines nodes l) ls)) (sym kept_lines)
          (entry_placed text earlier nodes machines all (length (first ∷ front)) line (filter_map (λ l. node_of machines nodes l) rest) yes_node (kept.0 EarlierLayer) (kept.0 ManagerOnTop) based
          (subst (λ k. EachPlaced all k (filter_map (λ l. node_of machines nodes l) rest)) longer more))
      | inr no_node ↦
          let kept_lines : filter (λ l. is_node text l) (line ∷ lines) ≡ rest = cond-false (is_node text line) (line ∷ rest) rest no_node in
          let regrouped : nodes ≡ (first ∷ front) ++ rest = are ∙ ap (λ ls. (first ∷ front) ++ ls) kept_lines in
          subst (λ ls. EachPlaced all (length (first ∷ front)) (filter_map (λ l. node_of machines nodes l) ls)) (sym kept_lines)
          (placed_after text machines all nodes first (earlier ++ line ∷ []) front lines kept.1 regrouped frames bare (leafless_more earlier (first ∷ front) line leafless))
    ]
