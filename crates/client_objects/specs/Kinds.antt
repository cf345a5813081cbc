-- The subcontracts that the program has.
use Rattle.std.specs.Prelude.{ℕ, Bool, ◌==◌, if◌then◌else◌, Option, Some, None, is_some}
use Rattle.marshal_buf.specs.declared.door.Door.{Door}
use Rattle.sub_core.specs.declared.shape.Form.{Form}
use Rattle.sub_core.specs.declared.shape.Form.TheVariants.{Bare, Tagged, Managed, Pathed}
use Rattle.sub_basic.specs.declared.TheConstants.{SINGLETON, CLUSTER}
use Rattle.sub_caching.specs.declared.TheConstants.{CACHING}
use Rattle.sub_reconnect.specs.declared.TheConstants.{RECONNECTABLE}
use Rattle.client_objects.specs.declared.kind.ObjectKind.{ObjectKind}
use Rattle.client_objects.specs.declared.kind.ObjectKind.TheVariants.{Singleton, Cluster, Caching, Reconnectable}

-- the identifier of each
abbrev pub id_of : ObjectKind → ℕ
id_of Singleton = SINGLETON
id_of Cluster = CLUSTER
id_of Caching = CACHING
id_of Reconnectable = RECONNECTABLE

-- the subcontract of an identifier, if the program has it
abbrev pub kind_of : ℕ → Option ObjectKind
kind_of id =
    if id == SINGLETON
    then Some Singleton
    else (if id == CLUSTER then Some Cluster else (if id == CACHING then Some Caching else (if id == RECONNECTABLE then Some Reconnectable else None)))

-- the form of its objects
abbrev pub form_of : ObjectKind → Form
form_of Singleton = Bare
form_of Cluster = Tagged
form_of Caching = Managed
form_of Reconnectable = Pathed

-- the file of its objects, by the door and the tag: a cluster's is that of the tag
abbrev pub file_of : ObjectKind → Door → ℕ → ℕ
file_of Singleton door tag = door.file
file_of Cluster door tag = tag
file_of Caching door tag = door.file
file_of Reconnectable door tag = door.file

-- the same by the identifier
abbrev pub is_built : ℕ → Bool
is_built id = is_some (kind_of id)

abbrev pub form_or_bare : Option ObjectKind → Form
form_or_bare (Some kind) = form_of kind
form_or_bare None = Bare

abbrev pub form_at : ℕ → Form
form_at id = form_or_bare (kind_of id)
