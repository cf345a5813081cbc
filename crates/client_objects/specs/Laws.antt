-- What holds of every object that is bound or received.
use Rattle.std.specs.Prelude.{◌≡◌, ◌<◌, ℕ, ◌^◌, true, List, length, Option, Some}
use Rattle.stack_accept.specs.Mount.{Mount, is_view_in}
use Rattle.stack_accept.specs.Sound.{IsMount}
use Rattle.sub_core.specs.Forms.{IsNameOf, object_len}
use Rattle.name_context.specs.Names.{Kept}
use Rattle.name_context.specs.Start.{file_object}
use Rattle.client_objects.specs.declared.kind.ObjectKind.{ObjectKind}
use Rattle.client_objects.specs.declared.kind.ObjectKind.TheVariants.{Singleton, Cluster, Caching, Reconnectable}
use Rattle.client_objects.specs.declared.target.Target.{Target}
use Rattle.client_objects.specs.Kinds.{form_of}
use Rattle.client_objects.specs.Stored.{name_for, received, bound_object}
use Rattle.client_objects.specs.Found.{node_of, IsChosen}

-- the tag of an object that is bound for a file: the object of a cluster has the file's number
abbrev pub tag_for : ObjectKind → ℕ → ℕ
tag_for Singleton file = 0
tag_for Cluster file = file
tag_for Caching file = 0
tag_for Reconnectable file = 0

-- where the calls go of an object that is bound for a file at a view
abbrev pub bound_target : ObjectKind → ℕ → ℕ → Target
bound_target kind node file = record { kind = kind; tag = tag_for kind file; view = node; file = file; life = 0 }

-- a file of the stack at a view of it
pub record IsViewed (mount : Mount) (node file : ℕ) : Type 0 where
  pub view : is_view_in mount.nodes node ≡ true
  pub there : file < length mount.files
  pub small : file < 2 ^ 32

-- the path is one that an object of the subcontract may keep, and the object fits into a message
pub record MayKeep (kind : ObjectKind) (path : List ℕ) : Type 0 where
  pub name : IsNameOf (form_of kind) (name_for kind path)
  pub short : object_len (form_of kind) (name_for kind path) < 2 ^ 32

-- what is bound for a file of the stack at a view of it leads there
abbrev pub BoundIsReceived : Type 0
BoundIsReceived = (mount : Mount) (kind : ObjectKind) (path : List ℕ) (node file : ℕ) → IsViewed mount node file → MayKeep kind path
    → received mount (Some (bound_object kind path node file)) ≡ Some (bound_target kind node file)

-- the names start with singletons
abbrev pub StartsBound : Type 0
StartsBound = (path : List ℕ) (node file : ℕ) → file_object node file ≡ bound_object Singleton path node file

-- what is received leads to a view and a file of the stack, as its subcontract chooses it
pub record LeadsOntoStack (mount : Mount) (target : Target) : Type 0 where
  pub view : is_view_in mount.nodes target.view ≡ true
  pub file : target.file < length mount.files
  pub chosen : IsChosen target

abbrev pub ReceivedLeads : Type 0
ReceivedLeads = (mount : Mount) (kept : Option Kept) (target : Target) → received mount kept ≡ Some target → LeadsOntoStack mount target

-- the node is one of the tree, above its ground
pub record IsAboveGround (mount : Mount) (node : ℕ) : Type 0 where
  pub above : 0 < node
  pub inside : node < length mount.tree.parents

-- from each machine, the calls of what leads to a view go to a node above the ground
abbrev pub FoundLeads : Type 0
FoundLeads = (mount : Mount) (machine : ℕ) (target : Target) → IsMount mount → is_view_in mount.nodes target.view ≡ true → IsAboveGround mount (node_of mount machine target)
