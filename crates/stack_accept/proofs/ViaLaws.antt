-- What serves a view's pages on a machine is a view.
use Rattle.std.proofs.Common.{◌≡◌, ℕ, zero, suc, ◌<◌, ◌≤◌, List, true, false, cond, get_or, Some, sym, ap, subst, ◌∙◌, inl, inr, arith, eqb}
use Rattle.std.specs.Prelude.{slice_get}
use Rattle.std.specs.Option.{option_map_or}
use Rattle.std.proofs.lemmas.Option.{slice_get_cases, slice_get_within, slice_get-get_or}
use Rattle.std.proofs.lemmas.Bool.{cases_Bool, and_parts, both_ways, false≢true, cond-true, cond-false}
use Rattle.stack_accept.specs.declared.entries.NodeEntry.{NodeEntry}
use Rattle.stack_accept.specs.Mount.{is_dfs_node, is_view, is_view_in, goes_round, below_of, via_in}
use Rattle.stack_accept.specs.Sound.{StandsOn, Serves}
use Rattle.stack_accept.proofs.KindLaws.{under_dfs}

-- each node but the ground stands on an earlier one that it may stand on
pub record AreBased (nodes : List NodeEntry) : Type 0 where
  pub unseen : (node : NodeEntry) → slice_get nodes 0 ≡ Some node → is_view node.kind ≡ false
  pub ordered : (number : ℕ) (node : NodeEntry) → 0 < number → slice_get nodes number ≡ Some node → node.below < number
  pub stands : (number : ℕ) (node base : NodeEntry) → 0 < number → slice_get nodes number ≡ Some node → slice_get nodes node.below ≡ Some base → StandsOn node base

-- a view's node
view_node : (nodes : List NodeEntry) (at : ℕ) → is_view_in nodes at ≡ true → (node : NodeEntry) × (slice_get nodes at ≡ Some node) × (is_view node.kind ≡ true)
view_node nodes at e =
    elim (slice_get_cases nodes at).1 [
      | inl h ↦ (h.0, h.2, sym (ap (λ o. option_map_or (λ (n : NodeEntry). is_view n.kind) o false) h.2) ∙ e)
      | inr h ↦ absurd (false≢true (sym (ap (λ o. option_map_or (λ (n : NodeEntry). is_view n.kind) o false) h.1) ∙ e))
    ]

not_ground : (nodes : List NodeEntry) → AreBased nodes → (at : ℕ) → is_view_in nodes at ≡ true → 0 < at
not_ground nodes based zero e = let v = view_node nodes 0 e in absurd (both_ways (is_view v.0.kind) (based.unseen v.0 v.1) v.2)
not_ground nodes based (suc at) e = omega arith

-- a distributed layer stands on a view
under_view : (nodes : List NodeEntry) → AreBased nodes → (at : ℕ) (node : NodeEntry) → 0 < at → slice_get nodes at ≡ Some node → is_dfs_node node.kind ≡ true → is_view_in nodes node.below ≡ true
under_view nodes based at node above is dfs =
    let low = based.ordered at node above is in
    let inside = slice_get_within nodes at node is in
    let base = get_or nodes node.below node in
    let there : slice_get nodes node.below ≡ Some base = slice_get-get_or nodes node.below node (omega (arith, low, inside)) in
    let stands = based.stands at node base above is there in
    ap (λ o. option_map_or (λ (n : NodeEntry). is_view n.kind) o false) there ∙ under_dfs node.kind base.kind dfs stands.kinds

pub view_served : (nodes : List NodeEntry) → AreBased nodes → (steps at machine : ℕ) → at ≤ steps → is_view_in nodes at ≡ true → Serves nodes at machine (via_in steps nodes at machine)
view_served nodes based zero at machine low view = let above = not_ground nodes based at view in absurd (omega (arith, above, low))
view_served nodes based (suc steps) at machine low view =
    let above = not_ground nodes based at view in
    let v = view_node nodes at view in
    let node = v.0 in
    let round = goes_round (slice_get nodes at) machine in
    let down = via_in steps nodes (below_of (slice_get nodes at)) machine in
    elim (cases_Bool round) [
      | inl here ↦
          let dfs : is_dfs_node node.kind ≡ true = (and_parts (is_dfs_node node.kind) (eqb node.machine machine) (ap (λ o. goes_round o machine) (sym v.1) ∙ here)).0 in
          let below : below_of (slice_get nodes at) ≡ node.below = ap below_of v.1 in
          let lower = based.ordered at node above v.1 in
          let rest = view_served nodes based steps node.below machine (omega (arith, lower, low)) (under_view nodes based at node above v.1 dfs) in
          let is : cond round down at ≡ via_in steps nodes node.below machine = cond-true round down at here ∙ ap (λ b. via_in steps nodes b machine) below in
          subst (Serves nodes at machine) (sym is) (record { low = omega (arith, rest.low, lower); has_view = rest.has_view; apart = rest.apart })
      | inr here ↦ subst (Serves nodes at machine) (sym (cond-false round down at here)) (record { low = omega arith; has_view = view; apart = here })
    ]
