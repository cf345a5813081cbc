-- What a client's lines did.
use Rattle.std.specs.Prelude.{◌≡◌, ◌≢◌, ◌⊎◌, ℕ, ◌+◌, ◌<◌, ◌≤◌, List, [], length, map, All, true, IsSome, Some}
use Rattle.std.specs.List.{AllByRecursion}
use Rattle.script_text.specs.declared.script.Call.{Call}
use Rattle.script_text.specs.declared.script.Call.TheVariants.{Context, Bind, Replicate, Unbind, List as ListNames, Open, Copy, Drop, Read, Write, Clear, Sync, Clean, Map, Unmap, Load, Store, Revoke, Release}
use Rattle.script_text.specs.declared.script.CallLine.{CallLine}
use Rattle.script_text.specs.declared.script.Reply.{Reply}
use Rattle.script_text.specs.declared.script.Said.{Said}
use Rattle.stack_accept.specs.Mount.{Mount, is_view_in}
use Rattle.text_words.specs.Words.{IsPath}
use Rattle.vmm_space.specs.declared.TheConstants.{MAX_ADDRESS}
use Rattle.vmm_space.specs.declared.regions.Region.{Region}
use Rattle.vmm_space.specs.declared.regions.Place.{Place}
use Rattle.vmm_space.specs.Spaces.{SpaceShape}
use Rattle.name_context.specs.declared.entry.NameCall.TheVariants as names_calls
use Rattle.name_context.specs.History.{IsPathOf}
use Rattle.name_context.specs.Names.{HasParts}
use Rattle.client_objects.specs.declared.kind.ObjectKind.TheVariants.{Reconnectable}
use Rattle.client_objects.specs.declared.state.ClientState.{ClientState}
use Rattle.client_objects.specs.declared.target.Found.{Found}
use Rattle.client_objects.specs.declared.target.Target.{Target}
use Rattle.client_objects.specs.Objects.{IsOnStack, OpenObject, object_of, with_object}
use Rattle.client_objects.specs.Found.{IsChosen}
use Rattle.client_replicas.specs.declared.door.OpenDoor.{OpenDoor}
use Rattle.client_replicas.specs.declared.replicas.OpenReplicon.{OpenReplicon}
use Rattle.script_meaning.specs.Stack.{file_named, layer_of, pages_of, view_of}
use Rattle.script_meaning.specs.Plan.{Plan, carrying, holding, replica_doors}
use Rattle.script_meaning.specs.Fits.{Did, Gone, Went, Worked}
use Rattle.spr_volume.specs.Passes.{Knows, as_known}
use Rattle.spr_client.specs.Calls.{histories}

-- what was found leads to a view and a file of the stack, which its subcontract chooses, and its calls go to a layer above the ground
pub record IsTarget (mount : Mount) (found : Found) : Type 0 where
  pub chosen : IsChosen found.target
  pub file : found.target.file < length mount.files
  pub view : is_view_in mount.nodes found.target.view ≡ true
  pub above : 0 < found.node
  pub node : found.node < length mount.tree.parents

-- the reconnectable object of this name leads there
pub record IsLed (mount : Mount) (name : List ℕ) (state : ClientState) (found : Found) : Type 0 where
  pub target : IsTarget mount found
  pub held : object_of name state.objects ≡ Some found.target
  pub kind : found.target.kind ≡ Reconnectable
  pub node : found.node ≡ found.target.view

-- calls that go to a layer of the stack above the ground, and to a file of it
pub record IsLeafOf (mount : Mount) (leaf number : ℕ) : Type 0 where
  pub file : number < length mount.files
  pub above : 0 < leaf
  pub node : leaf < length mount.tree.parents

-- a region leads to a layer above the ground, and to a file of the stack
abbrev pub IsMappedOn : Mount → Region → Type 0
IsMappedOn mount region = IsLeafOf mount region.leaf region.file

-- the address space is of the mounted stack, and each region leads into it
pub record IsSpaceOf (mount : Mount) (space : SpaceShape) : Type 0 where
  pub page_size : space.page_size ≡ mount.page_size
  pub files : space.files ≡ map (λ file. file.pages) mount.files
  pub regions : All (IsMappedOn mount) space.regions

-- so many bytes at a place are within one page of a file of the stack, at a layer above the ground
pub record IsPlaceOf (mount : Mount) (len : ℕ) (place : Place) : Type 0 where
  pub leads : IsLeafOf mount place.leaf place.file
  pub page : place.page < pages_of mount place.file
  pub some : 1 ≤ len
  pub within : place.off + len ≤ mount.page_size

-- behind an Open of the last object, which stood behind these: it was kept, with a life, or given up; and the carrier may have sent packets
abbrev pub IsKept : ClientState → ClientState → List OpenObject → List ℕ → Target → List ℕ → Type 0
IsKept old new objects name target word =
    (new ≡ carrying (holding old objects) new.carrier) ⊎ ((life : ℕ) × (new ≡ carrying (holding old (with_object objects name (record target { life = life }) word)) new.carrier))

-- a door of a replicon object leads to a view and a file of the stack
pub record IsDoorOn (mount : Mount) (door : OpenDoor) : Type 0 where
  pub view : is_view_in mount.nodes door.view ≡ true
  pub file : door.file < length mount.files

-- and so does each door of the object
abbrev pub IsReplicatedOn : Mount → OpenReplicon → Type 0
IsReplicatedOn mount object = AllByRecursion (IsDoorOn mount) object.doors

-- the client runs on a machine of the stack, its objects lead to views and files of it, and so do its regions to managers and files
pub record IsOnMachine (mount : Mount) (state : ClientState) : Type 0 where
  pub machine : state.machine < length mount.machines
  pub objects : AllByRecursion (IsOnStack mount) state.objects
  pub replicas : AllByRecursion (IsReplicatedOn mount) state.replicas
  pub regions : IsSpaceOf mount state.regions

-- the other callers of a pass did nothing
abbrev pub OthersIdle : Mount → ℕ → Knows → Knows → Type 0
OthersIdle mount caller old new = (other : ℕ) → other ≢ caller → old.first ≤ other → other < old.end → Did other (histories mount old) (histories mount new) []

-- WHAT A LINE DID, by what a pass knows before and after it: its caller followed the line's plan, and no other caller of the pass
-- did anything
pub record LineDone (mount : Mount) (caller : ℕ) (kept : ClientState) (p : Plan) (old new : Knows) (said : Reply) (left : ClientState) : Type 0 where
  pub pass : new ≡ as_known old new
  pub went : Went caller kept p (histories mount old) (histories mount new) said left
  pub others : OthersIdle mount caller old new

-- a plan was followed to its end, by what a pass knows before and after it; no other caller of the pass did anything
pub record PlanDone (mount : Mount) (caller : ℕ) (p : Plan) (old new : Knows) (said : Reply) (left : ClientState) : Type 0 where
  pub pass : new ≡ as_known old new
  pub gone : Gone caller p (histories mount old) (histories mount new) said left
  pub others : OthersIdle mount caller old new

-- a plan was followed up to another one: however that one ends from here, so ends the first
abbrev pub LeadsOn : Mount → ℕ → Plan → Plan → Knows → Knows → Type 0
LeadsOn mount caller p q old mid = (new : Knows) (said : Reply) (left : ClientState) → PlanDone mount caller q mid new said left → PlanDone mount caller p old new said left

-- WHAT LINES DID, one after another
pub record LinesDone (mount : Mount) (caller : ℕ) (kept : ClientState) (lines : List CallLine) (old new : Knows) (said : List Said) (left : ClientState) : Type 0 where
  pub pass : new ≡ as_known old new
  pub worked : Worked mount caller kept lines (histories mount old) (histories mount new) said left
  pub others : OthersIdle mount caller old new

-- a call that the program has, whose names the stack has
abbrev pub IsCallOf : Mount → Call → Type 0
IsCallOf mount (Context path) = HasParts path
IsCallOf mount (Bind path sub view file) = IsPath path × IsSome (view_of mount view) × IsSome (file_named mount file)
IsCallOf mount (Replicate path file views) = IsPath path × IsPath views × IsSome (replica_doors mount (file_named mount file) views)
IsCallOf mount (Unbind path) = HasParts path
IsCallOf mount (ListNames path) = IsPathOf names_calls.List path
IsCallOf mount (Open name path) = HasParts path
IsCallOf mount (Copy name other) = Unit {0}
IsCallOf mount (Drop name) = Unit {0}
IsCallOf mount (Read name page off len) = Unit {0}
IsCallOf mount (Write name page off bytes) = Unit {0}
IsCallOf mount (Clear name page) = Unit {0}
IsCallOf mount (Sync name) = Unit {0}
IsCallOf mount (Clean name) = Unit {0}
IsCallOf mount (Map region name address pages write) = address ≤ MAX_ADDRESS
IsCallOf mount (Unmap region) = Unit {0}
IsCallOf mount (Load address len) = address ≤ MAX_ADDRESS
IsCallOf mount (Store address bytes) = address ≤ MAX_ADDRESS
IsCallOf mount (Revoke layer file) = IsSome (layer_of mount layer) × IsSome (file_named mount file)
IsCallOf mount (Release layer file) = IsSome (layer_of mount layer) × IsSome (file_named mount file)

abbrev pub AreCalls : Mount → List CallLine → Type 0
AreCalls mount lines = AllByRecursion (λ l. IsCallOf mount l.call) lines
