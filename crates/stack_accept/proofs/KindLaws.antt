-- What follows from a node's kind.
use Rattle.std.proofs.Common.{◌≡◌, ℕ, ◌≤◌, true, false, refl, sym, ◌∙◌, arith}
use Rattle.std.proofs.lemmas.Bool.{false≢true}
use Rattle.stack_accept.specs.declared.entries.Kind.{Kind}
use Rattle.stack_accept.specs.declared.entries.Kind.TheVariants.{Disk, Mirror, Coherency, Dfs, Vmm}
use Rattle.stack_accept.specs.Mount.{is_dfs_node, is_view}
use Rattle.stack_accept.specs.Sound.{IsStorageKind, IsLayerKind, may_stand_on}

-- a disk and a mirror have no view
pub storage_unseen : (kind : Kind) → IsStorageKind kind → is_view kind ≡ false
storage_unseen Disk h = refl
storage_unseen Mirror h = refl
storage_unseen _ h = absurd h

pub storage_no_view : (kind : Kind) → IsStorageKind kind → is_view kind ≡ true → ⊥
storage_no_view kind h view = false≢true (sym (storage_unseen kind h) ∙ view)

-- what may stand on what
pub on_ground : (base : Kind) → IsStorageKind base → may_stand_on Coherency base ≡ true
on_ground Disk h = refl
on_ground Mirror h = refl
on_ground _ h = absurd h

pub on_view : (layer base : Kind) → is_view base ≡ true → may_stand_on layer base ≡ true
on_view Coherency Disk e = refl
on_view Coherency Mirror e = refl
on_view layer base e = e

pub under_dfs : (layer base : Kind) → is_dfs_node layer ≡ true → may_stand_on layer base ≡ true → is_view base ≡ true
under_dfs Dfs base d e = e
under_dfs _ base d e = absurd (false≢true d)

-- a layer that another stands on has a view
pub view_base : (layer base : Kind) (frames : ℕ) → IsLayerKind base frames → may_stand_on layer base ≡ true → is_view base ≡ true
view_base layer Disk frames is may = absurd is
view_base layer Mirror frames is may = absurd is
view_base Coherency base frames is may = may
view_base layer base frames is may = may

-- a layer on the ground has no frames
pub layer_bare : (layer ground : Kind) (frames : ℕ) → IsLayerKind layer frames → IsStorageKind ground → may_stand_on layer ground ≡ true → frames ≡ 0
layer_bare Disk ground frames is stores may = absurd is
layer_bare Mirror ground frames is stores may = absurd is
layer_bare Vmm ground frames is stores may = absurd (storage_no_view ground stores may)
layer_bare _ ground frames is stores may = is

pub layer_frames : (kind : Kind) (frames : ℕ) → IsLayerKind kind frames → frames ≤ 1024
layer_frames Disk frames is = absurd is
layer_frames Mirror frames is = absurd is
layer_frames Vmm frames is = let few = is.1 in omega (arith, few)
layer_frames _ frames is = omega (arith, is)
