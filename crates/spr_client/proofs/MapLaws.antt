-- The plans of lines that map and unmap.
use Rattle.std.proofs.Common.{◌≡◌, ℕ, List, Bool, true, false, Option, Some, None, refl, sym, ap, ◌∙◌}
use Rattle.std.specs.Option.{option_map}
use Rattle.script_text.specs.declared.script.Reply.TheVariants as replies
use Rattle.stack_accept.specs.Mount.{Mount, via}
use Rattle.memory_object.specs.declared.binding.CacheRights.{CacheRights}
use Rattle.memory_object.specs.declared.binding.MemoryObject.{MemoryObject}
use Rattle.memory_object.specs.Managers.{manager_of, rights_of}
use Rattle.vmm_space.specs.declared.why.SpaceErr.{SpaceErr}
use Rattle.vmm_space.specs.declared.why.SpaceErr.TheVariants as errs
use Rattle.vmm_space.specs.Spaces.{RefusesMap, has_region, refusal, without_region}
use Rattle.client_objects.specs.declared.state.ClientState.{ClientState}
use Rattle.client_objects.specs.declared.target.Target.{Target}
use Rattle.script_meaning.specs.Plan.{ends, mapping, plan_bound, plan_map, plan_mapped, plan_unmap, region_of, rights_at, unless_unmappable, unmappable}

-- the space refuses the region
pub map-refused : (mount : Mount) (state : ClientState) (name : List ℕ) (address pages : ℕ) (write : Bool) (target : Target) (why : SpaceErr) → refusal state.regions name target.file address pages ≡ Some why
    → plan_map mount state name address pages write target ≡ ends (unmappable why) state
map-refused mount state name address pages write target why some =
    ap (λ (o : Option SpaceErr). unless_unmappable state o (plan_bound state (rights_at mount state target) (region_of name address pages write))) some

map-free : (mount : Mount) (state : ClientState) (name : List ℕ) (address pages : ℕ) (write : Bool) (target : Target) → refusal state.regions name target.file address pages ≡ None
    → plan_map mount state name address pages write target ≡ plan_bound state (rights_at mount state target) (region_of name address pages write)
map-free mount state name address pages write target none =
    ap (λ (o : Option SpaceErr). unless_unmappable state o (plan_bound state (rights_at mount state target) (region_of name address pages write))) none

-- the machine has no manager for it
pub map-unmanaged : (mount : Mount) (state : ClientState) (name : List ℕ) (address pages : ℕ) (write : Bool) (target : Target) → refusal state.regions name target.file address pages ≡ None
    → rights_at mount state target ≡ None → plan_map mount state name address pages write target ≡ ends replies.NoManager state
map-unmanaged mount state name address pages write target none unmanaged =
    map-free mount state name address pages write target none ∙ ap (λ (o : Option CacheRights). plan_bound state o (region_of name address pages write)) unmanaged

-- neither
pub map-bound : (mount : Mount) (state : ClientState) (name : List ℕ) (address pages : ℕ) (write : Bool) (target : Target) (rights : CacheRights) → refusal state.regions name target.file address pages ≡ None
    → rights_at mount state target ≡ Some rights → plan_map mount state name address pages write target ≡ plan_mapped state (region_of name address pages write rights)
map-bound mount state name address pages write target rights none managed =
    map-free mount state name address pages write target none ∙ ap (λ (o : Option CacheRights). plan_bound state o (region_of name address pages write)) managed

file_at : (object : MemoryObject) (found : Option ℕ) (rights : CacheRights) → option_map (λ leaf. let r : CacheRights = record { leaf = leaf; file = object.file } in r) found ≡ Some rights → rights.file ≡ object.file
file_at object None rights is = absurd cc
file_at object (Some leaf) rights is =
    let r : CacheRights = record { leaf = leaf; file = object.file } in
    let same : r ≡ rights = cc in
    ap (λ (x : CacheRights). x.file) (sym same)

-- a manager has the pages of the object's file
pub rights-file : (mount : Mount) (object : MemoryObject) (machine : ℕ) (rights : CacheRights) → rights_of mount object machine ≡ Some rights → rights.file ≡ object.file
rights-file mount object machine rights is = file_at object (manager_of mount.nodes (via mount.nodes object.view machine) machine) rights is

-- what the space does not refuse lacks memory
pub memory-alone : (reason : Option SpaceErr) (why : SpaceErr) → reason ≡ None → RefusesMap reason why → unmappable why ≡ replies.Memory
memory-alone reason errs.Memory none is = refl
memory-alone reason errs.RegionExists none is = absurd cc
memory-alone reason errs.Unaligned none is = absurd cc
memory-alone reason errs.TooLong none is = absurd cc
memory-alone reason errs.Overlap none is = absurd cc

-- a region is taken away
pub unmap-done : (state : ClientState) (name : List ℕ) → has_region name state.regions ≡ true → plan_unmap state name ≡ ends replies.Done (mapping state (without_region name state.regions))
unmap-done state name has = rw has refl

pub unmap-none : (state : ClientState) (name : List ℕ) → has_region name state.regions ≡ false → plan_unmap state name ≡ ends replies.NoRegion state
unmap-none state name has = rw has refl
