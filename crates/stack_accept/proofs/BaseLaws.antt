-- What the line of a node stands on in an accepted text: the ground, or a coherency or a distributed layer that is a node.
use Rattle.std.proofs.Common.{◌≡◌, ℕ, List, [], ◌∷◌, ◌++◌, Bool, true, false, not, ◌&&◌, ◌||◌, refl, sym, ap, subst, ◌∙◌, inl, inr, append_assoc}
use Rattle.std.specs.Prelude.{◌⊎◌}
use Rattle.std.specs.List.{list_any, AllByRecursion}
use Rattle.std.specs.Str.{bytes_eq}
use Rattle.std.proofs.lemmas.Slice.Eq.{bytes_eq-Decides}
use Rattle.std.proofs.lemmas.Bool.{cases_Bool, or_cases, or_parts, or_from, or_left, or_right, and_parts, and_from, both_ways, false≢true, not-true, not_from_true, not_from_false, false_from_ne_true, eqb-true}
use Rattle.std.proofs.lemmas.List.Folds.{list_any-append}
use Rattle.stack_text.specs.declared.stack.StackLine.{StackLine}
use Rattle.stack_text.specs.declared.stack.StackLine.TheVariants.{Layer}
use Rattle.stack_text.specs.declared.stack.LayerKind.TheVariants.{Disk, Mirror, Upper}
use Rattle.stack_accept.specs.declared.rule.Rule.{Rule}
use Rattle.stack_accept.specs.declared.rule.Rule.TheVariants.{EarlierLayer, OneUser, OneGround, CoherentFirst, ManagerOnTop, SameMachine}
use Rattle.stack_accept.specs.Lines.{is_coherency, is_mirror, is_vmm, is_storage, is_upper, is_layer, machine_of, is_named, is_layer_named, stands_on, is_declared, is_storage_name, is_vmm_name, is_used, is_side}
use Rattle.stack_accept.specs.Rules.{keeps, may_use, is_unused, is_shared_layer, is_both_sides, is_near, reaches, is_node, is_first_node, KeepsRules}
use Rattle.stack_accept.specs.Mount.{base_of}
use Rattle.stack_accept.proofs.Lists.{list_any_weaker, list_any_push, only_found}
use Rattle.stack_accept.proofs.Kept.{kept_at_end}
use Rattle.stack_accept.proofs.MountLaws.{first_node}
use Rattle.stack_accept.proofs.NameLaws.{all_named}

any_front : (p : StackLine → Bool) (front back : List StackLine) → list_any p front ≡ true → list_any p (front ++ back) ≡ true
any_front p front back e = list_any-append p front back ∙ or_left (list_any p front) (list_any p back) e

-- A mirror's side has no other user.

side_used : (lines : List StackLine) (name : List ℕ) → is_used lines name ≡ false → is_side lines name ≡ false
side_used lines name unused =
    false_from_ne_true (is_side lines name) (λ side.
    both_ways (is_used lines name) unused (list_any_weaker (λ line. is_mirror line && stands_on name line) (λ line. stands_on name line) (λ line is. (and_parts (is_mirror line) (stands_on name line) is).1) lines side))

mirror_unused : (earlier : List StackLine) (own machine left right base : List ℕ) → may_use earlier (Layer own machine (Mirror left right)) base ≡ true → is_used earlier base ≡ false
mirror_unused earlier own machine left right base e =
    elim (or_cases (is_unused earlier (Layer own machine (Mirror left right)) base) (is_shared_layer earlier (Layer own machine (Mirror left right)) base) e) [
      | inl unused ↦ not-true (is_used earlier base) (and_parts (not (is_used earlier base)) (not (is_both_sides base (Layer own machine (Mirror left right)))) unused).0
      | inr shared ↦ absurd (false≢true shared)
    ]

no_mirror_on : (earlier : List StackLine) (line : StackLine) (name : List ℕ) → keeps OneUser earlier line ≡ true → is_used earlier name ≡ true → (is_mirror line && stands_on name line) ≡ false
no_mirror_on earlier (Layer own machine (Mirror left right)) name kept used =
    let users = and_parts (may_use earlier (Layer own machine (Mirror left right)) left) (may_use earlier (Layer own machine (Mirror left right)) right) kept in
    let other : (base : List ℕ) → may_use earlier (Layer own machine (Mirror left right)) base ≡ true → bytes_eq base name ≡ false =
    λ base may.
    false_from_ne_true (bytes_eq base name) (λ same. both_ways (is_used earlier base) (mirror_unused earlier own machine left right base may) (ap (λ n. is_used earlier n) ((bytes_eq-Decides base name).0 same) ∙ used)) in
    or_from (bytes_eq left name) (bytes_eq right name) (other left users.0) (other right users.1)
no_mirror_on earlier _ name kept used = refl

-- what has a user is no later mirror's side
later_no_side : (earlier lines : List StackLine) (name : List ℕ) → KeepsRules earlier lines → is_used earlier name ≡ true → is_side lines name ≡ false
later_no_side earlier [] name kept used = refl
later_no_side earlier (line ∷ lines) name kept used =
    or_from (is_mirror line && stands_on name line) (is_side lines name) (no_mirror_on earlier line name (kept.0 OneUser) used)
    (later_no_side (earlier ++ line ∷ []) lines name kept.1 (any_front (λ l. stands_on name l) earlier (line ∷ []) used))

-- what a layer that is no mirror stands on is no mirror's side
user_no_side : (earlier lines : List StackLine) (line : StackLine) (name : List ℕ) → KeepsRules earlier (line ∷ lines) → may_use earlier line name ≡ true → is_mirror line ≡ false → stands_on name line ≡ true
    → is_side (earlier ++ line ∷ lines) name ≡ false
user_no_side earlier lines line name kept may plain stands =
    let before : is_side earlier name ≡ false = elim (or_cases (is_unused earlier line name) (is_shared_layer earlier line name) may) [
      | inl unused ↦ side_used earlier name (not-true (is_used earlier name) (and_parts (not (is_used earlier name)) (not (is_both_sides name line)) unused).0)
      | inr shared ↦ not-true (is_side earlier name) (and_parts (not (is_mirror line) && not (is_storage_name earlier name)) (not (is_side earlier name)) shared).1
    ] in
    let here : (is_mirror line && stands_on name line) ≡ false = ap (λ t. t && stands_on name line) plain in
    let used : is_used (earlier ++ line ∷ []) name ≡ true = list_any_push (λ l. stands_on name l) earlier line ∙ or_right (is_used earlier name) (stands_on name line) stands in
    list_any-append (λ l. is_mirror l && stands_on name l) earlier (line ∷ lines)
    ∙ or_from (is_side earlier name) (is_side (line ∷ lines) name) before
    (or_from (is_mirror line && stands_on name line) (is_side lines name) here (later_no_side (earlier ++ line ∷ []) lines name kept.1 used))

-- a coherency or a distributed layer that is a node
abbrev pub is_view_line : List StackLine → StackLine → Bool
is_view_line text line = is_node text line && not (is_vmm line)

-- what the rules say of an upper layer and its base
record KeepsBase (text earlier : List StackLine) (line : StackLine) : Type 0 where
  pub declared : is_declared earlier (base_of line) ≡ true
  pub may : may_use earlier line (base_of line) ≡ true
  pub coherent : is_storage_name earlier (base_of line) ≡ true → is_coherency line ≡ true
  pub manager : is_vmm_name earlier (base_of line) ≡ false
  pub near : reaches earlier (machine_of line) (base_of line) ≡ true
  pub plain : is_mirror line ≡ false
  pub stands : stands_on (base_of line) line ≡ true
  pub lowest : is_storage_name text (base_of line) ≡ true → is_first_node text line ≡ true

keeps_base : (text earlier : List StackLine) (line : StackLine) → ((rule : Rule) → keeps rule earlier line ≡ true) → is_node text line ≡ true → KeepsBase text earlier line
keeps_base text earlier (Layer name machine (Upper kind below)) kept is = record {
  declared = kept EarlierLayer;
  may = kept OneUser;
  coherent = λ s. elim (or_cases (is_coherency (Layer name machine (Upper kind below))) (not (is_storage_name earlier below)) (kept CoherentFirst)) [
    | inl coherent ↦ coherent
    | inr other ↦ absurd (both_ways (is_storage_name earlier below) (not-true (is_storage_name earlier below) other) s)
  ];
  manager = not-true (is_vmm_name earlier below) (kept ManagerOnTop);
  near = kept SameMachine;
  plain = refl;
  stands = (bytes_eq-Decides below below).1 refl;
  lowest = λ s. and_from _ _ is (not_from_false (not (is_storage_name text below)) (not_from_true (is_storage_name text below) s));
}
keeps_base text earlier _ kept is = absurd (false≢true is)

-- a layer is a disk or a mirror, or an upper layer
low_or_upper : (line : StackLine) → is_layer line ≡ true → (is_storage line || is_upper line) ≡ true
low_or_upper (Layer name machine Disk) e = refl
low_or_upper (Layer name machine (Mirror left right)) e = refl
low_or_upper (Layer name machine (Upper kind below)) e = refl
low_or_upper _ e = absurd (false≢true e)

-- a layer of the name that is neither storage nor a memory manager
plain_layer : (lines : List StackLine) (name : List ℕ) → is_declared lines name ≡ true → is_storage_name lines name ≡ false → is_vmm_name lines name ≡ false
    → list_any (λ line. (is_upper line && not (is_vmm line)) && is_named name line) lines ≡ true
plain_layer [] name e s v = e
plain_layer (line ∷ lines) name e s v =
    let storage = or_parts (is_storage line && is_named name line) (is_storage_name lines name) s in
    let manager = or_parts (is_vmm line && is_named name line) (is_vmm_name lines name) v in
    elim (or_cases (is_layer_named name line) (is_declared lines name) e) [
      | inl here ↦
          let both = and_parts (is_layer line) (is_named name line) here in
          let upper : is_upper line ≡ true = elim (or_cases (is_storage line) (is_upper line) (low_or_upper line both.0)) [
            | inl st ↦ absurd (both_ways (is_storage line && is_named name line) storage.0 (and_from _ _ st both.1))
            | inr u ↦ u
          ] in
          let other : is_vmm line ≡ false = false_from_ne_true (is_vmm line) (λ m. both_ways (is_vmm line && is_named name line) manager.0 (and_from _ _ m both.1)) in
          or_left ((is_upper line && not (is_vmm line)) && is_named name line) _ (and_from _ _ (and_from _ _ upper (not_from_false (is_vmm line) other)) both.1)
      | inr later ↦ or_right ((is_upper line && not (is_vmm line)) && is_named name line) _ (plain_layer lines name later storage.1 manager.1)
    ]

-- an upper layer of a name that no mirror has as a side is a node
named_node : (text : List StackLine) (name : List ℕ) (line : StackLine) → is_side text name ≡ false → is_upper line ≡ true → is_named name line ≡ true → is_node text line ≡ true
named_node text name (Layer own machine (Upper kind below)) side up named = not_from_false (is_side text own) (ap (λ n. is_side text n) ((bytes_eq-Decides own name).0 named) ∙ side)
named_node text name _ side up named = absurd (false≢true up)

-- a line stands on the ground, or on a view
pub record IsOnGround (text : List StackLine) (line : StackLine) : Type 0 where
  pub lowest : is_first_node text line ≡ true
  pub coherent : is_coherency line ≡ true
  pub storage : AllByRecursion (λ l. is_named (base_of line) l ≡ true → is_storage l ≡ true) text

pub record IsOnView (text : List StackLine) (line : StackLine) : Type 0 where
  pub some : list_any (λ l. is_view_line text l && is_named (base_of line) l) text ≡ true
  pub view : AllByRecursion (λ l. is_named (base_of line) l ≡ true → is_view_line text l ≡ true) text

pub record IsFounded (text : List StackLine) (line : StackLine) : Type 0 where
  pub base : IsOnGround text line ⊎ IsOnView text line
  pub near : AllByRecursion (λ l. is_named (base_of line) l ≡ true → is_near (machine_of line) l ≡ true) text

founded : (text earlier lines : List StackLine) (line : StackLine) → text ≡ earlier ++ line ∷ lines → KeepsRules [] text → KeepsRules earlier (line ∷ lines) → is_node text line ≡ true → IsFounded text line
founded text earlier lines line whole all kept is =
    let b = base_of line in
    let has = keeps_base text earlier line kept.0 is in
    let more : (p : StackLine → Bool) → list_any p earlier ≡ true → list_any p text ≡ true = λ p e. subst (λ ls. list_any p ls ≡ true) (sym whole) (any_front p earlier (line ∷ lines) e) in
    let near : list_any (λ l. is_near (machine_of line) l && is_named b l) earlier ≡ true =
    list_any_weaker (λ l. is_layer_named b l && is_near (machine_of line) l) (λ l. is_near (machine_of line) l && is_named b l)
    (λ l e. let h = and_parts (is_layer_named b l) (is_near (machine_of line) l) e in and_from _ _ h.1 (and_parts (is_layer l) (is_named b l) h.0).1) earlier has.near in
    let base : IsOnGround text line ⊎ IsOnView text line = elim (cases_Bool (is_storage_name earlier b)) [
      | inl storage ↦
          let there = more (λ l. is_storage l && is_named b l) storage in
          inl (record { lowest = has.lowest there; coherent = has.coherent storage; storage = all_named (λ l. is_storage l) b [] text all there })
      | inr other ↦
          let side : is_side text b ≡ false = subst (λ ls. is_side ls b ≡ false) (sym whole) (user_no_side earlier lines line b kept has.may has.plain has.stands) in
          let view : list_any (λ l. is_view_line text l && is_named b l) earlier ≡ true =
          list_any_weaker (λ l. (is_upper l && not (is_vmm l)) && is_named b l) (λ l. is_view_line text l && is_named b l)
          (λ l e.
          let h = and_parts (is_upper l && not (is_vmm l)) (is_named b l) e in
          let u = and_parts (is_upper l) (not (is_vmm l)) h.0 in
          and_from _ _ (and_from _ _ (named_node text b l side u.0 h.1) u.1) h.1)
          earlier (plain_layer earlier b has.declared other has.manager) in
          let there = more (λ l. is_view_line text l && is_named b l) view in
          inr (record { some = there; view = all_named (λ l. is_view_line text l) b [] text all there })
    ] in
    record { base = base; near = all_named (λ l. is_near (machine_of line) l) b [] text all (more (λ l. is_near (machine_of line) l && is_named b l) near) }

each_founded : (text earlier lines : List StackLine) → text ≡ earlier ++ lines → KeepsRules [] text → KeepsRules earlier lines → AllByRecursion (λ line. is_node text line ≡ true → IsFounded text line) lines
each_founded text earlier [] whole all kept = tt
each_founded text earlier (line ∷ lines) whole all kept =
    ((λ is. founded text earlier lines line whole all kept is), each_founded text (earlier ++ line ∷ []) lines (whole ∙ sym (append_assoc earlier (line ∷ []) lines)) all kept.1)

-- each node's line
pub nodes_founded : (text : List StackLine) → KeepsRules [] text → AllByRecursion (λ line. is_node text line ≡ true → IsFounded text line) text
nodes_founded text kept = each_founded text [] text refl kept kept

-- one line alone stands on the ground
pub only_first : (text : List StackLine) (kept : KeepsRules [] text) → AllByRecursion (λ line. is_first_node text line ≡ true → line ≡ (first_node text kept).0) text
only_first text kept = only_found (λ l. is_first_node text l) text (first_node text kept).0 (eqb-true _ 1 (kept_at_end [] text kept OneGround)) (first_node text kept).1
