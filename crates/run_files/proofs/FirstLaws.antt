-- Node 1 of a mounted stack alone stands on the ground, and is no leaf.
use Rattle.std.proofs.Common.{◌≡◌, ℕ, zero, suc, Bool, true, false, inl, inr, ◌<◌, ◌≤◌, List, [], ◌∷◌, length, map, Option, Some, None, refl, sym, ap, subst, ◌∙◌, arith}
use Rattle.std.specs.Prelude.{slice_get, slice_index, slice_index_or}
use Rattle.std.specs.Option.{option_map_or}
use Rattle.std.proofs.lemmas.List.{length-map}
use Rattle.std.proofs.lemmas.Bool.Decides.{eqb_tells}
use Rattle.stack_accept.specs.declared.entries.Kind.{Kind}
use Rattle.stack_accept.specs.declared.entries.Kind.TheVariants as kinds
use Rattle.stack_accept.specs.declared.entries.NodeEntry.{NodeEntry}
use Rattle.stack_accept.specs.Mount.{Mount, is_view, is_view_in, tree_of, via}
use Rattle.stack_accept.specs.Sound.{IsLayerKind, IsMount, IsStorageKind, may_stand_on}
use Rattle.tower_core.specs.TreeShape.{IsUpper, TreeShape, frames_of, parent}
use Rattle.spr_volume.specs.Reads.{StandsByFirst}

-- THE NODE at a place
node-there : (nodes : List NodeEntry) (k : ℕ) → k < length nodes → (n : NodeEntry) × (slice_get nodes k ≡ Some n)
node-there [] k lt = absurd (omega arith)
node-there (n ∷ nodes) zero lt = (n, refl)
node-there (n ∷ nodes) (suc k) lt = node-there nodes k (omega arith)

mapped-at : (f : NodeEntry → ℕ) (nodes : List NodeEntry) (k : ℕ) (n : NodeEntry) → slice_get nodes k ≡ Some n → slice_index (map f nodes) k ≡ f n
mapped-at f [] k n is = absurd cc
mapped-at f (m ∷ nodes) zero n is = ap f (let same : m ≡ n = cc in same)
mapped-at f (m ∷ nodes) (suc k) n is = mapped-at f nodes k n is

index-is : (nodes : List NodeEntry) (k : ℕ) (n d : NodeEntry) → slice_get nodes k ≡ Some n → slice_index_or nodes k d ≡ n
index-is [] k n d is = absurd cc
index-is (m ∷ nodes) zero n d is = cc
index-is (m ∷ nodes) (suc k) n d is = index-is nodes k n d is

-- WHAT STANDS ON WHAT
view-base : (layer base : Kind) (frames : ℕ) → IsLayerKind base frames → may_stand_on layer base ≡ true → is_view base ≡ true
view-base layer kinds.Coherency frames is may = refl
view-base layer kinds.Dfs frames is may = refl
view-base layer kinds.Disk frames is may = absurd is
view-base layer kinds.Mirror frames is may = absurd is
view-base kinds.Coherency kinds.Vmm frames is may = absurd cc
view-base kinds.Dfs kinds.Vmm frames is may = absurd cc
view-base kinds.Vmm kinds.Vmm frames is may = absurd cc
view-base kinds.Disk kinds.Vmm frames is may = absurd cc
view-base kinds.Mirror kinds.Vmm frames is may = absurd cc

no-view : (ground : Kind) → IsStorageKind ground → is_view ground ≡ true → ⊥
no-view kinds.Disk is view = cc
no-view kinds.Mirror is view = cc
no-view kinds.Coherency is view = is
no-view kinds.Dfs is view = is
no-view kinds.Vmm is view = is

layer-bare : (layer ground : Kind) (frames : ℕ) → IsLayerKind layer frames → IsStorageKind ground → may_stand_on layer ground ≡ true → frames ≡ 0
layer-bare kinds.Coherency ground frames is stores may = is
layer-bare kinds.Dfs ground frames is stores may = is
layer-bare kinds.Disk ground frames is stores may = absurd is
layer-bare kinds.Mirror ground frames is stores may = absurd is
layer-bare kinds.Vmm kinds.Disk frames is stores may = absurd cc
layer-bare kinds.Vmm kinds.Mirror frames is stores may = absurd cc
layer-bare kinds.Vmm kinds.Coherency frames is stores may = absurd stores
layer-bare kinds.Vmm kinds.Dfs frames is stores may = absurd stores
layer-bare kinds.Vmm kinds.Vmm frames is stores may = absurd stores

module _ (m : Mount) (sound : IsMount m) where
  ground-at : (n : NodeEntry) → slice_get m.nodes 0 ≡ Some n → IsStorageKind n.kind
  ground-at n is = subst (λ (x : NodeEntry). IsStorageKind x.kind) (index-is m.nodes 0 n n is) (sound.ground_node n).kind

  layer-at : (k : ℕ) (n : NodeEntry) → 0 < k → k < length m.nodes → slice_get m.nodes k ≡ Some n → IsLayerKind n.kind n.frames
  layer-at k n above inside is = subst (λ (x : NodeEntry). IsLayerKind x.kind x.frames) (index-is m.nodes k n n is) (sound.layer_node k n above inside).kind

  below-at : (k : ℕ) (n : NodeEntry) → 0 < k → k < length m.nodes → slice_get m.nodes k ≡ Some n → n.below < k
  below-at k n above inside is = subst (λ (x : NodeEntry). x.below < k) (index-is m.nodes k n n is) (sound.ordered k n above inside)

  viewed : (k : ℕ) (n : NodeEntry) → slice_get m.nodes k ≡ Some n → is_view_in m.nodes k ≡ is_view n.kind
  viewed k n is = ap (λ (o : Option NodeEntry). option_map_or (λ (node : NodeEntry). is_view node.kind) o false) is

  -- what stands on a layer is served by one
  served-apart : (number : ℕ) (n : NodeEntry) → 0 < number → number < length m.nodes → slice_get m.nodes number ≡ Some n → 0 < n.below → via m.nodes n.below n.machine ≡ 0 → ⊥
  served-apart number n above inside is low to_ground =
      let below : n.below < number = below-at number n above inside is in
      let within : n.below < length m.nodes = omega (arith, below, inside) in
      let base = node-there m.nodes n.below within in
      let stands = sound.stands number n base.0 above is base.1 in
      let view : is_view_in m.nodes n.below ≡ true = viewed n.below base.0 base.1 ∙ view-base n.kind base.0.kind base.0.frames (layer-at n.below base.0 low within base.1) stands.kinds in
      let some = sound.some_layer in
      let ground = node-there m.nodes 0 (omega (arith, some)) in
      no-view ground.0.kind (ground-at ground.0 ground.1)
      (sym (viewed 0 ground.0 ground.1) ∙ subst (λ (server : ℕ). is_view_in m.nodes server ≡ true) to_ground (sound.serving n.below n.machine view).has_view)

  first-alone : (number : ℕ) → IsUpper (tree_of m.nodes) number → parent (tree_of m.nodes) number ≡ 0 → number ≡ 1
  first-alone number upper on_ground =
      let inside : number < length m.nodes = subst (λ (k : ℕ). number < k) (length-map m.nodes (λ (node : NodeEntry). via m.nodes node.below node.machine)) upper.inside in
      let n = node-there m.nodes number inside in
      let to_ground : via m.nodes n.0.below n.0.machine ≡ 0 = sym (mapped-at (λ (node : NodeEntry). via m.nodes node.below node.machine) m.nodes number n.0 n.1) ∙ on_ground in
      elim (eqb_tells n.0.below 0) [
        | inl e ↦ sound.first number n.0 upper.above n.1 e.1
        | inr d ↦ absurd (served-apart number n.0 upper.above inside n.1 (omega (arith, d.1)) to_ground)
      ]

  first-bare : frames_of (tree_of m.nodes) 1 ≡ 0
  first-bare =
      let some = sound.some_layer in
      let inside : 1 < length m.nodes = omega (arith, some) in
      let n = node-there m.nodes 1 inside in
      let ground = node-there m.nodes 0 (omega (arith, some)) in
      let low : n.0.below ≡ 0 = (let below : n.0.below < 1 = below-at 1 n.0 (omega arith) inside n.1 in omega (arith, below)) in
      let stands = sound.stands 1 n.0 ground.0 (omega arith) n.1 (ap (slice_get m.nodes) low ∙ ground.1) in
      mapped-at (λ (node : NodeEntry). node.frames) m.nodes 1 n.0 n.1
      ∙ layer-bare n.0.kind ground.0.kind n.0.frames (layer-at 1 n.0 (omega arith) inside n.1) (ground-at ground.0 ground.1) stands.kinds

  pub stands-by-first : StandsByFirst m.tree
  stands-by-first = subst StandsByFirst (sym sound.served) (record { bare = first-bare; alone = first-alone })
