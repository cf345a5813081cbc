-- What the names keep for an object, and which object that is.
use Rattle.std.specs.Prelude.{ℕ, Bool, ◌==◌, ◌&&◌, List, [], ◌∷◌, length, nat_lt, if◌then◌else◌, Option, Some, None, Result, Ok, Err}
use Rattle.marshal_buf.specs.declared.door.Door.{Door}
use Rattle.marshal_buf.specs.declared.why.Short.{Short}
use Rattle.marshal_buf.specs.Reading.{Reading, number_at}
use Rattle.stack_accept.specs.Mount.{Mount, is_view_in}
use Rattle.sub_core.specs.Names.{manager_name}
use Rattle.sub_core.specs.Forms.{object_bytes, object_len}
use Rattle.sub_core.specs.Fields.{Fields, fields_behind}
use Rattle.name_context.specs.Names.{Kept, context, object}
use Rattle.client_objects.specs.declared.kind.ObjectKind.{ObjectKind}
use Rattle.client_objects.specs.declared.kind.ObjectKind.TheVariants.{Singleton, Cluster, Caching, Reconnectable}
use Rattle.client_objects.specs.declared.target.Target.{Target}
use Rattle.client_objects.specs.Kinds.{kind_of, id_of, form_of, file_of}

-- where the calls of an object go that was just received
abbrev pub target_of : ObjectKind → Fields → Target
target_of kind fields = record { kind = kind; tag = fields.tag; view = fields.door.node; file = file_of kind fields.door fields.tag; life = 0 }

-- the door leads to a view and a file of the stack, and the tag, if there is one, names a file of it
abbrev pub leads : Mount → ObjectKind → Fields → Bool
leads mount kind fields =
    is_view_in mount.nodes fields.door.node && nat_lt fields.door.file (length mount.files) && nat_lt (file_of kind fields.door fields.tag) (length mount.files)

-- bytes and doors of which nothing was read yet
abbrev pub unread : List ℕ → List Door → Reading
unread bytes doors = record { input = bytes; doors = doors; at = 0; next = 0 }

-- they end with the object that says this
abbrev pub ends_with : ObjectKind → Fields → List ℕ → List Door → Bool
ends_with kind fields bytes doors = (length bytes == object_len (form_of kind) fields.name) && (length doors == 1)

abbrev pub target_by : Mount → List ℕ → List Door → ObjectKind → Result Fields ℕ → Option Target
target_by mount bytes doors kind (Ok fields) = if ends_with kind fields bytes doors && leads mount kind fields then Some (target_of kind fields) else None
target_by mount bytes doors kind (Err at) = None

abbrev pub object_of_kind : Mount → List ℕ → List Door → Option ObjectKind → Option Target
object_of_kind mount bytes doors (Some kind) = target_by mount bytes doors kind (fields_behind (form_of kind) (unread bytes doors))
object_of_kind mount bytes doors None = None

abbrev pub object_by : Mount → List ℕ → List Door → Result ℕ Short → Option Target
object_by mount bytes doors (Ok id) = object_of_kind mount bytes doors (kind_of id)
object_by mount bytes doors (Err short) = None

-- WHERE AN OBJECT OF THE NAMES LEADS, if what stands there is an object of a subcontract that the program has, with nothing left over,
-- which leads to a view and a file of the stack
abbrev pub received : Mount → Option Kept → Option Target
received mount (Some (object bytes doors)) = object_by mount bytes doors (number_at 2 (unread bytes doors))
received mount (Some context) = None
received mount None = None

-- the word that such an object keeps beside its door
abbrev pub word_by : Result Fields ℕ → List ℕ
word_by (Ok fields) = fields.name
word_by (Err at) = []

abbrev pub word_of_kind : List ℕ → List Door → Option ObjectKind → List ℕ
word_of_kind bytes doors (Some kind) = word_by (fields_behind (form_of kind) (unread bytes doors))
word_of_kind bytes doors None = []

abbrev pub word_behind : List ℕ → List Door → Result ℕ Short → List ℕ
word_behind bytes doors (Ok id) = word_of_kind bytes doors (kind_of id)
word_behind bytes doors (Err short) = []

abbrev pub received_word : Option Kept → List ℕ
received_word (Some (object bytes doors)) = word_behind bytes doors (number_at 2 (unread bytes doors))
received_word (Some context) = []
received_word None = []

-- what the names keep for an object of a subcontract
abbrev pub stored_object : ObjectKind → Door → ℕ → List ℕ → Kept
stored_object kind door tag name = object (object_bytes (id_of kind) (form_of kind) 0 tag name) (door ∷ [])

-- the name of an object that is bound under a path
abbrev pub name_for : ObjectKind → List ℕ → List ℕ
name_for Singleton path = []
name_for Cluster path = []
name_for Caching path = manager_name
name_for Reconnectable path = path

-- what is bound for a file at a view under a path: an object of a cluster has the door to the view's file 0, and the file's number as
-- its tag; any other has the door to the file, and the tag 0
abbrev pub bound_object : ObjectKind → List ℕ → ℕ → ℕ → Kept
bound_object Singleton path node file = stored_object Singleton (record { node = node; file = file }) 0 (name_for Singleton path)
bound_object Cluster path node file = stored_object Cluster (record { node = node; file = 0 }) file (name_for Cluster path)
bound_object Caching path node file = stored_object Caching (record { node = node; file = file }) 0 (name_for Caching path)
bound_object Reconnectable path node file = stored_object Reconnectable (record { node = node; file = file }) 0 (name_for Reconnectable path)
