-- What a user is told of the disks of a ground: what its opening made of each, and whether it is live.
use Rattle.std.specs.Prelude.{◌≡◌, ◌≢◌, ℕ, ◌==◌, ◌&&◌, ◌||◌, List, [], ◌∷◌, get_or, Bool, true, false, Option, Some, None}
use Rattle.spr_io.specs.Content.{Content}
use Rattle.disk_format.specs.declared.shape.ImageShape.{ImageShape}
use Rattle.stack_accept.specs.Plan.{Plan}
use Rattle.mirror_rules.specs.Tree.{Cell, Store, Blank, Seat, In, Out}
use Rattle.mirror_rules.specs.Tree as machine
use Rattle.mirror_rules.specs.Claims.{Nth}
use Rattle.mirror_layer.specs.View.{Beside}
use Rattle.mirror_layer.specs.Calls.{all_told}
use Rattle.mirror_layer.specs.Ground.{Ground}
use Rattle.mirror_layer.specs.Bringing.{OpenedOver}
use Rattle.mirror_layer.specs.declared.came.Notice.{Notice}
use Rattle.mirror_layer.specs.declared.came.Notice.TheVariants.{Bad, Made, Copied}

-- a disk that is left out, and was not found bad
pub data IsLeftOut : Seat → Type 0 where
  left_in : {c : Cell} → IsLeftOut (In false c)
  left_blank : {s : Store} → IsLeftOut (Out Blank s)
  left_down : {s : Store} → IsLeftOut (Out machine.Down s)

-- what the opening of a ground made of a disk, by how the disk was found and how it stands then; `told` if each disk tells what it holds
pub data CameAs (told : Bool) : Seat → Seat → Option Notice → Type 0 where
  -- its blocks are no image, and block 0 is not all zeros
  came_bad : {x : Seat} {s : Store} → CameAs told x (Out machine.Bad s) (Some Bad)
  -- it was blank, and is live
  came_made : {s : Store} {c : Cell} → CameAs told (Out Blank s) (In true c) (Some Made)
  -- in joining it got a page or the generation: its image is another
  came_copied : {b : Bool} {c d : Cell} → (told ≡ true → d.now ≢ c.now) → CameAs told (In b c) (In true d) (Some Copied)
  -- it is live, with the image that it had
  came_level : {b : Bool} {c d : Cell} → d.now ≡ c.now → CameAs told (In b c) (In true d) None
  came_left : {x y : Seat} → IsLeftOut y → CameAs told x y None

-- the same of all disks, by their numbers
abbrev pub AreCame : Bool → List Beside → List Seat → List Seat → List (Option Notice) → Type 0
AreCame told beside found row came = (i : ℕ) (b : Beside) (x y : Seat) → Nth i beside b → Nth i found x → Nth i row y → CameAs told x y (get_or came b.disk None)

-- THE GROUND IS OPENED, and this is what became of its disks
pub record OpenedWith {T : Type 0} (content : T → Option Content) (faults : T → ℕ) (shape : ImageShape) (stores : List T) (plan : Plan) (came : List (Option Notice)) (g : Ground) : Type 0 where
  pub over : OpenedOver content faults shape stores plan g
  pub came_so : AreCame (all_told g.beside) g.beside over.seen.row g.row came

-- whether the seat is that of disk `n`, which is live
abbrev pub is_live_seat : ℕ → Seat → Bool
is_live_seat n (In live c) = live && n == c.disk
is_live_seat n (Out why s) = false

-- whether disk `n` of a row is live
abbrev pub is_live_in : List Seat → ℕ → Bool
is_live_in [] n = false
is_live_in (x ∷ xs) n = is_live_seat n x || is_live_in xs n
