-- Where calls on a replicon object go.
use Rattle.std.specs.Prelude.{◌≡◌, ℕ, List, [], ◌∷◌, map, Option, None}
use Rattle.std.specs.Option.{option_map}
use Rattle.marshal_buf.specs.declared.door.Door.{Door}
use Rattle.domain_doors.specs.Doors.{Doors, door_at}
use Rattle.domain_doors.specs.declared.why.NoDoor.{NoDoor}
use Rattle.sub_core.specs.declared.values.Route.{Route}
use Rattle.sub_replicon.specs.Domains.{doors_in}

-- where calls by a door go
abbrev pub route_by : Door → Route
route_by door = record { node = door.node; file = door.file }

-- where calls by each of the doors go, if the domain holds it
abbrev pub routes_in : Doors → List ℕ → List (Option Route)
routes_in domain ids = map (option_map route_by) (doors_in domain ids)

-- where calls by the first of the doors go, if the domain holds it
abbrev pub first_route : Doors → List ℕ → Option Route
first_route domain [] = None
first_route domain (id ∷ ids) = option_map route_by (door_at domain id)

-- the refusal names the first of the identifiers, under which the domain holds no door
abbrev pub LacksFirst : Doors → List ℕ → NoDoor → Type 0
LacksFirst domain [] e = ⊥
LacksFirst domain (id ∷ ids) e = (e.id ≡ id) × (door_at domain id ≡ None)
