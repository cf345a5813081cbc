-- Open replicon objects: their doors, and the life of each.
use Rattle.std.specs.Prelude.{◌≡◌, ℕ, zero, suc, List, [], ◌∷◌, Option, Some, None}
use Rattle.marshal_buf.specs.declared.door.Door.{Door}
use Rattle.client_replicas.specs.declared.door.OpenDoor.{OpenDoor}

-- a door of an object, in this life
abbrev pub open_door : Door → ℕ → OpenDoor
open_door door life = record { view = door.node; file = door.file; life = life }

-- a door that was just received
abbrev pub fresh : Door → OpenDoor
fresh door = open_door door 0

-- a door that is looked up in the object's domain; no open object lacks one, and it would stand as the ground's
abbrev pub looked_up : Option Door → ℕ → OpenDoor
looked_up (Some door) life = open_door door life
looked_up None life = record { view = 0; file = 0; life = life }

-- the doors, each with its life
abbrev pub open_doors : List (Option Door) → List ℕ → List OpenDoor
open_doors [] lives = []
open_doors (door ∷ doors) [] = []
open_doors (door ∷ doors) (life ∷ lives) = looked_up door life ∷ open_doors doors lives

-- the life of the first door
abbrev pub first_life : List OpenDoor → ℕ
first_life [] = 0
first_life (door ∷ doors) = door.life

-- the doors, of which door k, counted from 0, has this life
abbrev pub with_life : ℕ → ℕ → List OpenDoor → List OpenDoor
with_life k life [] = []
with_life zero life (door ∷ doors) = record door { life = life } ∷ doors
with_life (suc k) life (door ∷ doors) = door ∷ with_life k life doors

-- the first of an object's doors is dropped, unless it is the last one
abbrev pub DropsFirst : List OpenDoor → List OpenDoor → Type 0
DropsFirst old new = (door : OpenDoor) × (next : OpenDoor) × (more : List OpenDoor) × (old ≡ door ∷ next ∷ more) × (new ≡ next ∷ more)
