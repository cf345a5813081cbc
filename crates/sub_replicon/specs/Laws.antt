-- What holds of every replicon object that is sent.
use Rattle.std.specs.Prelude.{◌⊎◌, ◌*◌, Err, ◌<◌, ◌≡◌, ◌≤◌, ℕ, ◌+◌, ◌^◌, ◌++◌, List, length, Ok}
use Rattle.marshal_buf.specs.declared.door.Door.{Door}
use Rattle.marshal_buf.specs.Held.{Held}
use Rattle.marshal_buf.specs.Reading.{Reading, rest_of, number_at}
use Rattle.domain_doors.specs.Doors.{Doors}
use Rattle.sub_core.specs.Laws.{StandsAtEnd}
use Rattle.sub_replicon.specs.declared.TheConstants.{REPLICON, MAX_DOORS}
use Rattle.sub_replicon.specs.Replicas.{Replicas, IsReplicon, AreReplicas}
use Rattle.sub_replicon.specs.Routes.{routes_in}
use Rattle.sub_replicon.specs.Forms.{replicon_bytes}
use Rattle.sub_replicon.specs.Doors.{doors_left, replicas_behind}
use Rattle.sub_replicon.specs.Calls.{Marshals, Unmarshals}

-- the bytes of an object of these doors come next, with the doors, and more may follow
pub record ComesNext (doors : List Door) (r : Reading) : Type 0 where
  pub more : List ℕ
  pub more_doors : List Door
  pub bytes : rest_of r ≡ replicon_bytes r.next (length doors) ++ more
  pub there : doors_left r ≡ doors ++ more_doors
  pub few : r.next + length doors ≤ 2 ^ 32

-- the identifier of an object that comes next is read
abbrev pub IdIsRead : Type 0
IdIsRead = (r : Reading) (doors : List Door) → ComesNext doors r → number_at 2 r ≡ Ok REPLICON

-- and so are its doors, if an object may have them
abbrev pub DoorsAreRead : Type 0
DoorsAreRead = (r : Reading) (doors : List Door) → AreReplicas doors → ComesNext doors r → replicas_behind r ≡ Ok doors

-- the place is the input's end, that of the number of doors, or that of the index of a door
abbrev pub IsPlace : Reading → ℕ → Type 0
IsPlace r at = (at ≡ length r.input) ⊎ ((at ≡ r.at + 2) ⊎ ((k : ℕ) × (k < MAX_DOORS) × (at ≡ r.at + 6 + 4 * k)))

-- what cannot stand is told at such a place
abbrev pub RefusedAtAPlace : Type 0
RefusedAtAPlace = (r : Reading) (at : ℕ) → replicas_behind r ≡ Err at → IsPlace r at

-- a domain sent an object, whose bytes the reading comes to
pub record IsSent (from : Doors) (object : Replicas) (start : Reading) : Type 0 where
  pub from_new : Doors
  pub old : Held
  pub new : Held
  pub of : IsReplicon object
  pub sent : Marshals object.doors from from_new old new
  pub stands : StandsAtEnd old new start
  pub few : length old.doors + length object.doors ≤ 2 ^ 32

-- what is sent comes next, with the doors that the sender held
abbrev pub SentComesNext : Type 0
SentComesNext = (from : Doors) (object : Replicas) (start : Reading) (is : IsSent from object start) → ComesNext is.sent.doors start

-- what a domain receives of what another one sent has the same routes, in the same order
abbrev pub RoutesArrive : Type 0
RoutesArrive = (from to_old to_new : Doors) (object received : Replicas) (start end : Reading) → IsSent from object start → Unmarshals to_old to_new start end received → routes_in to_new received.doors ≡ routes_in from object.doors
