-- What the first manager that fits is, by the tree.
use Rattle.std.proofs.Common.{◌≡◌, ℕ, ◌<◌, ◌≤◌, List, [], length, get_or, Bool, true, false, cond, ◌&&◌, ◌==◌, Option, Some, None, refl, sym, ap, ◌∙◌, arith, eq-eqb}
use Rattle.std.specs.Prelude.{position, slice_get, nat_lt}
use Rattle.std.specs.Option.{option_map}
use Rattle.std.specs.List.{position_or_len}
use Rattle.std.proofs.lemmas.Bool.Decides.{nat_tests}
use Rattle.std.proofs.lemmas.Option.{slice_get-map, slice_get-get_or, slice_get_within, get_or_from_slice_get}
use Rattle.std.proofs.lemmas.List.Quantifiers.{position-Some}
use Rattle.std.proofs.lemmas.List.Sums.{fails_before_first}
use Rattle.tower_core.specs.TreeShape.{TreeShape, parent}
use Rattle.stack_accept.specs.declared.entries.Kind.{Kind}
use Rattle.stack_accept.specs.declared.entries.Kind.TheVariants.{Disk, Vmm}
use Rattle.stack_accept.specs.declared.entries.NodeEntry.{NodeEntry}
use Rattle.stack_accept.specs.Mount.{Mount, via, tree_of}
use Rattle.stack_accept.specs.Sound.{IsMount}
use Rattle.memory_object.specs.Managers.{is_vmm, manages, manager_of, IsManager, IsFirstManager, HasNoManager}

-- stands for a node that is not there
abbrev no_node : NodeEntry
no_node = record { name = []; kind = Disk; machine = 0; below = 0; frames = 0 }

-- where a node's parent is what serves on its machine what it stands on
parent_is : (m : Mount) (number : ℕ) (node : NodeEntry) → IsMount m → slice_get m.nodes number ≡ Some node → parent m.tree number ≡ via m.nodes node.below node.machine
parent_is m number node sound here =
    let over : NodeEntry → ℕ = λ (n : NodeEntry). via m.nodes n.below n.machine in
    let at : slice_get (tree_of m.nodes).parents number ≡ Some (over node) = slice_get-map over m.nodes number ∙ ap (λ (n : Option NodeEntry). option_map over n) here in
    ap (λ (t : TreeShape). parent t number) sound.served ∙ get_or_from_slice_get (tree_of m.nodes).parents number (over node) 0 at

vmm_when : (kind : Kind) → is_vmm kind ≡ true → kind ≡ Vmm
vmm_when Vmm h = refl
vmm_when _ h = cc

and_both : (a b : Bool) → a ≡ true → b ≡ true → (a && b) ≡ true
and_both true true x y = refl
and_both true false x y = y
and_both false b x y = cc

and_left : (a b : Bool) → (a && b) ≡ true → a ≡ true
and_left true b h = refl
and_left false b h = h

and_right : (a b : Bool) → (a && b) ≡ true → b ≡ true
and_right true b h = h
and_right false b h = cc

equal_when : (a b : ℕ) → (a == b) ≡ true → a ≡ b
equal_when a b h = grind (arith, nat_tests)

-- what passes the test is a manager
manager_when : (m : Mount) (view machine number : ℕ) (node : NodeEntry) → IsMount m → slice_get m.nodes number ≡ Some node → manages m.nodes (via m.nodes view machine) machine node ≡ true → IsManager m view machine number
manager_when m view machine number node sound here passes =
    let server = via m.nodes view machine in
    let own = via m.nodes node.below node.machine in
    let near = and_right (is_vmm node.kind) ((node.machine == machine) && (own == server)) passes in
    record {
      node = node;
      here = here;
      kind = vmm_when node.kind (and_left (is_vmm node.kind) ((node.machine == machine) && (own == server)) passes);
      on = equal_when node.machine machine (and_left (node.machine == machine) (own == server) near);
      over = parent_is m number node sound here ∙ equal_when own server (and_right (node.machine == machine) (own == server) near);
    }

-- and a manager passes it
passes_when : (m : Mount) (view machine number : ℕ) → IsMount m → (manager : IsManager m view machine number) → manages m.nodes (via m.nodes view machine) machine manager.node ≡ true
passes_when m view machine number sound manager =
    let node : NodeEntry = manager.node in
    let server = via m.nodes view machine in
    let own = via m.nodes node.below node.machine in
    let above : own ≡ server = sym (parent_is m number node sound manager.here) ∙ manager.over in
    and_both (is_vmm node.kind) ((node.machine == machine) && (own == server)) (ap is_vmm manager.kind)
    (and_both (node.machine == machine) (own == server) (eq-eqb node.machine machine manager.on) (eq-eqb own server above))

-- what fails the test is none
fails_when : (m : Mount) (view machine number : ℕ) → IsMount m → manages m.nodes (via m.nodes view machine) machine (get_or m.nodes number no_node) ≡ false → IsManager m view machine number → ⊥
fails_when m view machine number sound fails manager =
    let is : get_or m.nodes number no_node ≡ manager.node = get_or_from_slice_get m.nodes number manager.node no_node manager.here in
    let passes : manages m.nodes (via m.nodes view machine) machine manager.node ≡ true = passes_when m view machine number sound manager in
    cc (ap (manages m.nodes (via m.nodes view machine) machine) is)

-- the first node that passes is the first manager
pub first_manager : (m : Mount) (view machine number : ℕ) → IsMount m → manager_of m.nodes (via m.nodes view machine) machine ≡ Some number → IsFirstManager m view machine number
first_manager m view machine number sound is =
    let found = position-Some (manages m.nodes (via m.nodes view machine) machine) m.nodes number no_node is in
    record {
      manager = manager_when m view machine number (get_or m.nodes number no_node) sound (slice_get-get_or m.nodes number no_node found.0) found.1;
      first = λ other before. fails_when m view machine other sound (found.2 other before);
    }

none_means : (b : Bool) (n : ℕ) → cond b (Some n) None ≡ None → b ≡ false
none_means true n h = cc
none_means false n h = refl

not_below : (a b : ℕ) → nat_lt a b ≡ false → b ≤ a
not_below a b h = grind (arith, nat_tests)

all_fail : {X : Type 0} (p : X → Bool) (xs : List X) (k : ℕ) (d : X) → position p xs ≡ None → k < length xs → p (get_or xs k d) ≡ false
all_fail p xs k d none here =
    let end : length xs ≤ position_or_len p xs = not_below (position_or_len p xs) (length xs) (none_means (nat_lt (position_or_len p xs) (length xs)) (position_or_len p xs) none) in
    fails_before_first p xs k d (omega arith)

-- if no node passes, there is no manager
pub no_manager : (m : Mount) (view machine : ℕ) → IsMount m → manager_of m.nodes (via m.nodes view machine) machine ≡ None → HasNoManager m view machine
no_manager m view machine sound none number manager =
    let here : number < length m.nodes = slice_get_within m.nodes number manager.node manager.here in
    fails_when m view machine number sound (all_fail (manages m.nodes (via m.nodes view machine) machine) m.nodes number no_node none here) manager
