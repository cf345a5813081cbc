-- What holds of every object that is sent.
use Rattle.std.specs.Prelude.{◌≡◌, ◌<◌, ℕ, ◌^◌, ◌++◌, List, length, slice_get, Some, Ok}
use Rattle.marshal_buf.specs.declared.door.Door.{Door}
use Rattle.marshal_buf.specs.Held.{Held}
use Rattle.marshal_buf.specs.Reading.{Reading, rest_of, number_at}
use Rattle.domain_doors.specs.Doors.{Doors}
use Rattle.stack_accept.specs.Mount.{Mount}
use Rattle.sub_core.specs.declared.shape.Form.{Form}
use Rattle.sub_core.specs.declared.values.Object.{Object}
use Rattle.sub_core.specs.declared.values.Route.{Route}
use Rattle.sub_core.specs.Forms.{object_bytes, IsTagOf, IsNameOf, IsOf}
use Rattle.sub_core.specs.Fields.{Fields, fields_behind}
use Rattle.sub_core.specs.Calls.{Marshals, route_of}
use Rattle.sub_core.specs.Received.{Unmarshals}

-- the bytes of an object come next that says this, with its door, and more may follow
pub record ComesNext (id : ℕ) (form : Form) (fields : Fields) (r : Reading) : Type 0 where
  pub more : List ℕ
  pub bytes : rest_of r ≡ object_bytes id form r.next fields.tag fields.name ++ more
  pub door_there : slice_get r.doors r.next ≡ Some fields.door
  pub few : r.next < 2 ^ 32

-- the tag and the name are as the form has them, and fit into a message
pub record AreFieldsOf (form : Form) (fields : Fields) : Type 0 where
  pub tag : IsTagOf form fields.tag
  pub name : IsNameOf form fields.name
  pub small : fields.tag < 2 ^ 32
  pub short : length fields.name < 2 ^ 32

-- the identifier of an object that comes next is read
abbrev pub IdIsRead : Type 0
IdIsRead = (r : Reading) (id : ℕ) (form : Form) (fields : Fields) → id < 2 ^ 16 → ComesNext id form fields r → number_at 2 r ≡ Ok id

-- and so are its door, its tag and its name, behind the identifier
abbrev pub FieldsAreRead : Type 0
FieldsAreRead = (r : Reading) (id : ℕ) (form : Form) (fields : Fields) → AreFieldsOf form fields → ComesNext id form fields r → fields_behind form r ≡ Ok fields

-- the reading stands where a buffer ended that was filled since
pub record StandsAtEnd (old new : Held) (r : Reading) : Type 0 where
  pub more : List ℕ
  pub more_doors : List Door
  pub input : r.input ≡ new.bytes ++ more
  pub doors : r.doors ≡ new.doors ++ more_doors
  pub at : r.at ≡ length old.bytes
  pub next : r.next ≡ length old.doors
  pub few : length old.doors < 2 ^ 32

-- one domain sent an object, and another one received it from there
pub record IsSent (form : Form) (from to_old to_new : Doors) (object received : Object) : Type 0 where
  pub from_new : Doors
  pub old : Held
  pub new : Held
  pub start : Reading
  pub end : Reading
  pub id : ℕ
  pub of : IsOf form object
  pub small : object.tag < 2 ^ 32
  pub short : length object.name < 2 ^ 32
  pub sent : Marshals form object from from_new old new
  pub stands : StandsAtEnd old new start
  pub got : Unmarshals id form to_old to_new start end received

-- the object that is received has the tag and the name, and leads from each machine where the one that was sent led
pub record Arrives (route : Mount → ℕ → Door → ℕ → Route) (from to : Doors) (object received : Object) : Type 0 where
  pub tag : received.tag ≡ object.tag
  pub name : received.name ≡ object.name
  pub route_is : (mount : Mount) (machine : ℕ) → route_of route mount machine to received ≡ route_of route mount machine from object

abbrev pub SentArrives : Form → (Mount → ℕ → Door → ℕ → Route) → Type 0
SentArrives form route = (from to_old to_new : Doors) (object received : Object) → IsSent form from to_old to_new object received → Arrives route from to_new object received
