-- The objects of a client's domain, as the list that contracts see.
use Rattle.std.specs.Prelude.{◌≡◌, ◌≢◌, ℕ, List, [], ◌∷◌, map, Option, None, unwrap_or, IsSome}
use Rattle.std.specs.List.{AllByRecursion}
use Rattle.marshal_buf.specs.declared.door.Door.{Door}
use Rattle.domain_doors.specs.Doors.{Doors, door_at}
use Rattle.stack_accept.specs.Mount.{Mount}
use Rattle.sub_core.specs.declared.values.Object.{Object}
use Rattle.sub_core.specs.Forms.{IsOf}
use Rattle.sub_core.specs.declared.values.Route.{Route}
use Rattle.sub_core.specs.Calls.{door_of}
use Rattle.sub_basic.specs.Routes.{singleton_route, cluster_route}
use Rattle.sub_caching.specs.Routes.{caching_route}
use Rattle.sub_reconnect.specs.Routes.{reconnectable_route}
use Rattle.client_objects.specs.declared.kind.ObjectKind.{ObjectKind}
use Rattle.client_objects.specs.declared.kind.ObjectKind.TheVariants.{Singleton, Cluster, Caching, Reconnectable}
use Rattle.client_objects.specs.declared.target.Target.{Target}
use Rattle.client_objects.specs.declared.entry.Entry.{Entry}
use Rattle.client_objects.specs.Kinds.{id_of, form_of, file_of}
use Rattle.client_objects.specs.Objects.{OpenObject}

-- stands for the door of an object that lacks its door; no open object lacks it
abbrev pub no_door : Door
no_door = record { node = 0; file = 0 }

-- where the calls of an object go whose door this is
abbrev pub target_at : ObjectKind → Object → Door → Target
target_at kind object door =
    record { kind = kind; tag = object.tag; view = door.node; file = file_of kind door object.tag; life = object.life }

-- where a subcontract's route leads from the machine, by a door and a tag
abbrev pub route_by : ObjectKind → Mount → ℕ → Door → ℕ → Route
route_by Singleton = singleton_route
route_by Cluster = cluster_route
route_by Caching = caching_route
route_by Reconnectable = reconnectable_route

-- where the calls of an object of the domain go
abbrev pub target_in : Doors → ObjectKind → Object → Target
target_in domain kind object = target_at kind object (unwrap_or (door_of domain object) no_door)

abbrev pub seen_entry : Doors → Entry → OpenObject
seen_entry domain entry = record { name = entry.name; target = target_in domain entry.kind entry.object; word = entry.object.name }

-- the open objects that these entries are
abbrev pub seen : Doors → List Entry → List OpenObject
seen domain entries = map (seen_entry domain) entries

-- the domain holds the object's door, and the object is one of the subcontract, of its form
pub record IsHeld (domain : Doors) (kind : ObjectKind) (object : Object) : Type 0 where
  pub door : IsSome (door_of domain object)
  pub sub : object.sub ≡ id_of kind
  pub of : IsOf (form_of kind) object

-- the object's door has another identifier
abbrev pub IsOther : ℕ → Entry → Type 0
IsOther id entry = entry.object.door ≢ id

-- no two objects have one identifier
abbrev pub AreApart : List Entry → Type 0
AreApart [] = Unit {0}
AreApart (entry ∷ entries) = AllByRecursion (IsOther entry.object.door) entries × AreApart entries

-- the domain holds each object, by a door of its own, and no other door
pub record AreHeld (domain : Doors) (entries : List Entry) : Type 0 where
  pub held : AllByRecursion (λ entry. IsHeld domain entry.kind entry.object) entries
  pub apart : AreApart entries
  pub only : (id : ℕ) → AllByRecursion (IsOther id) entries → door_at domain id ≡ None
