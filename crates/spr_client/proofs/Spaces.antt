-- Where the regions of a client lead.
use Rattle.std.proofs.Common.{◌≡◌, ℕ, zero, suc, ◌<◌, List, [], ◌∷◌, length, Bool, true, false, cond, Option, Some, refl, sym, ap, subst, ◌∙◌, arith, ◌⊎◌, ⊎_elim}
use Rattle.std.specs.Prelude.{All, slice_get, slice_index_or}
use Rattle.std.proofs.lemmas.List.{length-map}
use Rattle.std.proofs.lemmas.List.Elements.{All-nil, All-cons, All-head, All-tail, All-push}
use Rattle.script_text.specs.declared.script.ClientLine.{ClientLine}
use Rattle.tower_core.specs.TreeShape.{TreeShape}
use Rattle.stack_accept.specs.declared.entries.Kind.{Kind}
use Rattle.stack_accept.specs.declared.entries.Kind.TheVariants as kinds
use Rattle.stack_accept.specs.declared.entries.NodeEntry.{NodeEntry}
use Rattle.stack_accept.specs.Mount.{Mount, number_in}
use Rattle.stack_accept.specs.Sound.{IsStorageKind, IsGroundNode, IsMount}
use Rattle.memory_object.specs.Managers.{IsManager}
use Rattle.vmm_space.specs.declared.regions.Region.{Region}
use Rattle.vmm_space.specs.Regions.{is_named}
use Rattle.vmm_space.specs.Spaces.{SpaceShape, blank_of, with_region, without_named, without_region}
use Rattle.client_objects.specs.declared.state.ClientState.{ClientState}
use Rattle.script_meaning.specs.Plan.{living, mapping, start_state}
use Rattle.spr_client.specs.Lines.{IsLeafOf, IsMappedOn, IsOnMachine, IsSpaceOf}

-- a space with no region
pub space-blank : (mount : Mount) → IsSpaceOf mount (blank_of mount)
space-blank mount = record { page_size = refl; files = refl; regions = All-nil (IsMappedOn mount) }

-- a client at the start
pub on_machine-start : (mount : Mount) (loss : Option ℕ) (line : ClientLine) → number_in mount.machines line.machine < length mount.machines → IsOnMachine mount (start_state mount loss line)
on_machine-start mount loss line low = record { machine = low; objects = tt; replicas = tt; regions = space-blank mount }

-- one more region
pub space-with : (mount : Mount) (space : SpaceShape) (region : Region) → IsSpaceOf mount space → IsMappedOn mount region → IsSpaceOf mount (with_region space region)
space-with mount space region of is = record {
  page_size = of.page_size;
  files = of.files;
  regions = All-push (IsMappedOn mount) space.regions region of.regions is;
}

without_step : (P : Region → Type 0) (b : Bool) (region : Region) (regions others : List Region) → All P (region ∷ regions) → All P others → All P (cond b regions (region ∷ others))
without_step P true region regions others all rest = All-tail P region regions all
without_step P false region regions others all rest = All-cons P region others (All-head P region regions all) rest

all-without : (P : Region → Type 0) (name : List ℕ) (regions : List Region) → All P regions → All P (without_named name regions)
all-without P name [] all = all
all-without P name (region ∷ regions) all = without_step P (is_named name region) region regions (without_named name regions) all (all-without P name regions (All-tail P region regions all))

-- a region less
pub space-without : (mount : Mount) (name : List ℕ) (space : SpaceShape) → IsSpaceOf mount space → IsSpaceOf mount (without_region name space)
space-without mount name space of = record {
  page_size = of.page_size;
  files = of.files;
  regions = all-without (IsMappedOn mount) name space.regions of.regions;
}

-- the same client with this address space
pub on_machine-mapping : (mount : Mount) (state : ClientState) (space : SpaceShape) → IsOnMachine mount state → IsSpaceOf mount space → IsOnMachine mount (mapping state space)
on_machine-mapping mount state space on of = record { machine = on.machine; objects = on.objects; replicas = on.replicas; regions = of }

-- a client whose last region was kept, of some life, or given up
pub on_machine-mapped : (mount : Mount) (left state : ClientState) (region : Region) → IsOnMachine mount state → IsMappedOn mount region
    → (left ≡ state) ⊎ ((life : ℕ) × (left ≡ mapping state (with_region state.regions (living region life)))) → IsOnMachine mount left
on_machine-mapped mount left state region on is either =
    ⊎_elim
    (λ gone. subst (λ (s : ClientState). IsOnMachine mount s) (sym gone) on)
    (λ kept. subst (λ (s : ClientState). IsOnMachine mount s) (sym kept.1)
    (on_machine-mapping mount state (with_region state.regions (living region kept.0)) on (space-with mount state.regions (living region kept.0) on.regions is))) either

node_inside : (nodes : List NodeEntry) (leaf : ℕ) (node : NodeEntry) → slice_get nodes leaf ≡ Some node → leaf < length nodes
node_inside [] leaf node is = absurd cc
node_inside (x ∷ xs) zero node is = omega arith
node_inside (x ∷ xs) (suc leaf) node is = let below = node_inside xs leaf node is in omega (arith, below)

no_storage : (kind : Kind) → kind ≡ kinds.Vmm → IsStorageKind kind → ⊥
no_storage kind is storage = subst IsStorageKind is storage

-- the ground is no manager
leaf_above : (machines : List (List ℕ)) (nodes : List NodeEntry) (leaf : ℕ) (node : NodeEntry) → ((d : NodeEntry) → IsGroundNode machines (slice_index_or nodes 0 d)) → slice_get nodes leaf ≡ Some node → node.kind ≡ kinds.Vmm → 0 < leaf
leaf_above machines [] leaf node ground here kind = absurd cc
leaf_above machines (x ∷ xs) zero node ground here kind =
    let same : x ≡ node = cc in
    absurd (no_storage x.kind (ap (λ (n : NodeEntry). n.kind) same ∙ kind) (ground x).kind)
leaf_above machines (x ∷ xs) (suc leaf) node ground here kind = omega arith

-- a manager is a layer above the ground
pub manager_leads : (mount : Mount) (view machine leaf file : ℕ) → IsMount mount → file < length mount.files → IsManager mount view machine leaf → IsLeafOf mount leaf file
manager_leads mount view machine leaf file sound low is =
    let counted : length mount.tree.parents ≡ length mount.nodes = ap (λ (t : TreeShape). length t.parents) sound.served ∙ length-map mount.nodes _ in
    let inside = node_inside mount.nodes leaf is.node is.here in
    record {
      file = low;
      above = leaf_above mount.machines mount.nodes leaf is.node sound.ground_node is.here is.kind;
      node = omega (arith, counted, inside);
    }
