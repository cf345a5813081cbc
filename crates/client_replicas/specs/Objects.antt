-- The open replicon objects of a client, each under a name.
use Rattle.std.specs.Prelude.{ℕ, List, [], ◌∷◌, ◌++◌, find, if◌then◌else◌, Option}
use Rattle.std.specs.Option.{option_map}
use Rattle.std.specs.Str.{bytes_eq}
use Rattle.client_replicas.specs.declared.door.OpenDoor.{OpenDoor}
use Rattle.client_replicas.specs.declared.replicas.OpenReplicon.{OpenReplicon}

-- the doors of the object of a name
abbrev pub doors_of : List ℕ → List OpenReplicon → Option (List OpenDoor)
doors_of name objects = option_map (λ o. o.doors) (find (λ o. bytes_eq o.name name) objects)

-- the objects, and this one behind them
abbrev pub with_replicon : List OpenReplicon → List ℕ → List OpenDoor → List OpenReplicon
with_replicon objects name doors = objects ++ record { name = name; doors = doors } ∷ []

-- the objects, of which the first of this name has these doors
abbrev pub with_doors : List ℕ → List OpenDoor → List OpenReplicon → List OpenReplicon
with_doors name doors [] = []
with_doors name doors (o ∷ os) = if bytes_eq o.name name then record o { doors = doors } ∷ os else o ∷ with_doors name doors os

-- the objects without the first of this name
abbrev pub without_replicon : List ℕ → List OpenReplicon → List OpenReplicon
without_replicon name [] = []
without_replicon name (o ∷ os) = if bytes_eq o.name name then os else o ∷ without_replicon name os
