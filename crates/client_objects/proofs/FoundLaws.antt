-- Where the calls of an object go from a machine.
use Rattle.std.proofs.Common.{◌≡◌, ℕ, zero, suc, ◌<◌, List, [], ◌∷◌, length, Bool, true, false, cond, eqb, inl, inr, Option, Some, None, refl, sym, ap, ◌∙◌, subst, arith}
use Rattle.std.specs.Prelude.{slice_get, slice_index_or, unwrap_or}
use Rattle.std.specs.Option.{option_map}
use Rattle.std.proofs.lemmas.Bool.{false≢true}
use Rattle.std.proofs.lemmas.List.{length-map}
use Rattle.std.proofs.lemmas.Option.{slice_get_within}
use Rattle.marshal_buf.specs.declared.door.Door.{Door}
use Rattle.domain_doors.specs.Doors.{Doors}
use Rattle.tower_core.specs.TreeShape.{TreeShape}
use Rattle.stack_accept.specs.declared.entries.Kind.{Kind}
use Rattle.stack_accept.specs.declared.entries.Kind.TheVariants as kinds
use Rattle.stack_accept.specs.declared.entries.NodeEntry.{NodeEntry}
use Rattle.stack_accept.specs.Mount.{Mount, is_view, is_view_in}
use Rattle.stack_accept.specs.Sound.{IsStorageKind, IsGroundNode, IsMount}
use Rattle.stack_accept.proofs.KindLaws.{storage_unseen}
use Rattle.memory_object.specs.declared.binding.CacheRights.{CacheRights}
use Rattle.memory_object.specs.Managers.{rights_of, IsFirstManager}
use Rattle.sub_core.specs.declared.values.Object.{Object}
use Rattle.sub_core.specs.declared.values.Route.{Route}
use Rattle.sub_core.specs.Calls.{door_of, route_of}
use Rattle.sub_caching.specs.Routes.{local_or, caching_route}
use Rattle.sub_caching.specs.Laws.{GoesLocal}
use Rattle.sub_caching.proofs.RouteLaws.{calls_go_local}
use Rattle.client_objects.specs.declared.kind.ObjectKind.{ObjectKind}
use Rattle.client_objects.specs.declared.kind.ObjectKind.TheVariants.{Singleton, Cluster, Caching, Reconnectable}
use Rattle.client_objects.specs.declared.target.Target.{Target}
use Rattle.client_objects.specs.declared.target.Found.{Found}
use Rattle.client_objects.specs.Kinds.{file_of}
use Rattle.client_objects.specs.Held.{no_door, target_at, target_in, route_by}
use Rattle.client_objects.specs.Found.{door_to, node_by, found_on}
use Rattle.client_objects.specs.Laws.{IsAboveGround, FoundLeads}

some_same : {X : Type 0} (x y : X) → Some x ≡ Some y → x ≡ y
some_same x y is = cc

-- what is found by a route
abbrev found_by : ObjectKind → ℕ → ℕ → Door → Route → Found
found_by kind tag life door route = record { target = record { kind = kind; tag = tag; view = door.node; file = route.file; life = life }; node = route.node }

abbrev target_with : ObjectKind → ℕ → ℕ → Door → Target
target_with kind tag life door = record { kind = kind; tag = tag; view = door.node; file = file_of kind door tag; life = life }

local_file : (door : Door) (rights : Option CacheRights) → (local_or door rights).file ≡ door.file
local_file door (Some rights) = refl
local_file door None = refl

local_node : (door : Door) (rights : Option CacheRights) → (local_or door rights).node ≡ (local_or (record { node = door.node; file = door.file }) rights).node
local_node door (Some rights) = refl
local_node door None = refl

by_route : (kind : ObjectKind) (mount : Mount) (machine tag life : ℕ) (door : Door) → found_by kind tag life door (route_by kind mount machine door tag) ≡ found_on mount machine (target_with kind tag life door)
by_route Singleton mount machine tag life door = refl
by_route Cluster mount machine tag life door = refl
by_route Reconnectable mount machine tag life door = refl
by_route Caching mount machine tag life door =
    let rights : Option CacheRights = rights_of mount (record { view = door.node; file = door.file }) machine in
    let there : ℕ → ℕ → Found = λ node file. record { target = record { kind = Caching; tag = tag; view = door.node; file = file; life = life }; node = node } in
    ap (λ (n : ℕ). there n (local_or door rights).file) (local_node door rights)
    ∙ ap (λ (f : ℕ). there (local_or (record { node = door.node; file = door.file }) rights).node f) (local_file door rights)

-- what the subcontract's route gives is what is found on the machine
pub found-routed : (mount : Mount) (machine : ℕ) (domain : Doors) (kind : ObjectKind) (object : Object) (door : Door) (route : Route) → door_of domain object ≡ Some door → route_of (route_by kind) mount machine domain object ≡ Some route
    → record { target = record { kind = kind; tag = object.tag; view = door.node; file = route.file; life = object.life }; node = route.node } ≡ found_on mount machine (target_in domain kind object)
found-routed mount machine domain kind object door route held is =
    let by : Option Door → Option Route = λ found. option_map (λ d. route_by kind mount machine d object.tag) found in
    let same : route_by kind mount machine door object.tag ≡ route = some_same (route_by kind mount machine door object.tag) route (sym (ap by held) ∙ is) in
    ap (found_by kind object.tag object.life door) (sym same)
    ∙ by_route kind mount machine object.tag object.life door
    ∙ ap (λ (found : Option Door). found_on mount machine (target_at kind object (unwrap_or found no_door))) (sym held)

storage_manages_none : (kind : Kind) → IsStorageKind kind → kind ≡ kinds.Vmm → ⊥
storage_manages_none kind h is = subst IsStorageKind is h

-- a view is one of the nodes
view_inside : (nodes : List NodeEntry) (node : ℕ) → is_view_in nodes node ≡ true → node < length nodes
view_inside [] node is = absurd cc
view_inside (x ∷ xs) zero is = omega arith
view_inside (x ∷ xs) (suc node) is = let below = view_inside xs node is in omega (arith, below)

-- and the ground is none
view_above : (machines : List (List ℕ)) (nodes : List NodeEntry) (node : ℕ) → ((d : NodeEntry) → IsGroundNode machines (slice_index_or nodes 0 d)) → is_view_in nodes node ≡ true → 0 < node
view_above machines [] node ground is = absurd cc
view_above machines (x ∷ xs) zero ground is = absurd (false≢true (sym (storage_unseen x.kind (ground x).kind) ∙ is))
view_above machines (x ∷ xs) (suc node) ground is = omega arith

-- nor is it a manager
manager_above : (machines : List (List ℕ)) (nodes : List NodeEntry) (number : ℕ) (node : NodeEntry) → ((d : NodeEntry) → IsGroundNode machines (slice_index_or nodes 0 d)) → slice_get nodes number ≡ Some node → node.kind ≡ kinds.Vmm → 0 < number
manager_above machines [] number node ground here is = absurd cc
manager_above machines (x ∷ xs) zero node ground here is =
    let same : x ≡ node = cc in
    absurd (storage_manages_none x.kind (ground x).kind (ap (λ (n : NodeEntry). n.kind) same ∙ is))
manager_above machines (x ∷ xs) (suc number) node ground here is = omega arith

tree_counts : (mount : Mount) → IsMount mount → length mount.tree.parents ≡ length mount.nodes
tree_counts mount sound = ap (λ (t : TreeShape). length t.parents) sound.served ∙ length-map mount.nodes _

view_leads : (mount : Mount) (view : ℕ) → IsMount mount → is_view_in mount.nodes view ≡ true → IsAboveGround mount view
view_leads mount view sound is =
    let counted = tree_counts mount sound in
    let inside = view_inside mount.nodes view is in
    record { above = view_above mount.machines mount.nodes view sound.ground_node is; inside = omega (arith, counted, inside) }

manager_leads : (mount : Mount) (view machine number : ℕ) → IsMount mount → IsFirstManager mount view machine number → IsAboveGround mount number
manager_leads mount view machine number sound first =
    let manager = first.manager in
    let counted = tree_counts mount sound in
    let inside = slice_get_within mount.nodes number manager.node manager.here in
    record { above = manager_above mount.machines mount.nodes number manager.node sound.ground_node manager.here manager.kind; inside = omega (arith, counted, inside) }

local_leads : (mount : Mount) (machine : ℕ) (door : Door) (route : Route) → IsMount mount → is_view_in mount.nodes door.node ≡ true → GoesLocal mount machine door route → IsAboveGround mount route.node
local_leads mount machine door route sound view goes =
    elim goes.node [
      | inl first ↦ manager_leads mount door.node machine route.node sound first
      | inr none ↦ subst (λ (n : ℕ). IsAboveGround mount n) (sym none.1) (view_leads mount door.node sound view)
    ]

node_leads : (kind : ObjectKind) (mount : Mount) (machine : ℕ) (door : Door) (tag : ℕ) → IsMount mount → is_view_in mount.nodes door.node ≡ true → IsAboveGround mount (node_by kind mount machine door tag)
node_leads Singleton mount machine door tag sound view = view_leads mount door.node sound view
node_leads Cluster mount machine door tag sound view = view_leads mount door.node sound view
node_leads Caching mount machine door tag sound view =
    local_leads mount machine door (caching_route mount machine door tag) sound view (calls_go_local mount machine door tag sound)
node_leads Reconnectable mount machine door tag sound view = view_leads mount door.node sound view

pub found_leads : FoundLeads
found_leads mount machine target sound view = node_leads target.kind mount machine (door_to target) target.tag sound view
