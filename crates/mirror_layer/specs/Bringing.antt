-- A ground that is opened over stores.
use Rattle.std.specs.Prelude.{◌≡◌, ◌≤◌, ℕ, List, ◌∷◌, length, is_some, Bool, true, Option, Result, Ok, Err}
use Rattle.spr_io.specs.Content.{Content}
use Rattle.disk_format.specs.declared.shape.ImageShape.{ImageShape}
use Rattle.disk_format.specs.declared.why.BadImage.{BadImage}
use Rattle.stack_accept.specs.Plan.{Plan, disks_in}
use Rattle.mirror_rules.specs.Tree.{Seat, owes}
use Rattle.mirror_rules.specs.Tree as machine
use Rattle.mirror_rules.specs.Claims.{Pairs, Nth, Has, IsLive}
use Rattle.mirror_rules.specs.Opening.{Meets, Opens, Outcome, Good, Lost}
use Rattle.mirror_rules.specs.Opening as opening
use Rattle.mirror_layer.specs.Lasting.{Lasting, Given, Blames}
use Rattle.mirror_layer.specs.View.{Beside}
use Rattle.mirror_layer.specs.Calls.{all_told}
use Rattle.mirror_layer.specs.Ground.{Ground, Counted, Differ}
use Rattle.mirror_layer.specs.Stores.{Finds, GivesBack, HasRoom}
use Rattle.mirror_layer.specs.Shut.{ShutSeen}
use Rattle.mirror_layer.specs.Meeting.{Met, Rests, Rested, IsBadOf}
use Rattle.mirror_layer.specs.declared.came.Notice.{Notice}
use Rattle.mirror_layer.specs.Coming.{AllCome}
use Rattle.mirror_layer.specs.declared.refuse.Refusal.{Refusal}
use Rattle.mirror_layer.specs.declared.refuse.Refusal.TheVariants as why

-- what the machine sees of the store of a disk, which stands in the list at the place of its number
pub data Brought {T : Type 0} (content : T → Option Content) (faults : T → ℕ) (shape : ImageShape) (stores : List T) (disk : ℕ) (s : machine.Store) : Type 0 where
  brought : {t : T} → Nth disk stores t → Finds shape disk (content t) (faults t) s → Brought content faults shape stores disk s

-- what no call changes of the disk
pub data Lies {T : Type 0} (content : T → Option Content) (faults : T → ℕ) (shape : ImageShape) (stores : List T) (disk : ℕ) (b : Beside) : Type 0 where
  lies : {t : T} → Nth disk stores t → b ≡ record { disk = disk; shape = shape; there = true; told = is_some (content t); opened = faults t } → Lies content faults shape stores disk b

-- the stores of the disks of a plan, as the machine sees them, from left to right; and what the opening of each disk found
pub record Seen {T : Type 0} (content : T → Option Content) (faults : T → ℕ) (shape : ImageShape) (stores : List T) (plan : Plan) (beside : List Beside) : Type 0 where
  pub stores_seen : List machine.Store
  pub row : List Seat
  pub brought : Pairs (Brought content faults shape stores) (disks_in plan) stores_seen
  pub lies : Pairs (Lies content faults shape stores) (disks_in plan) beside
  pub meets : Pairs Meets stores_seen row

-- from what the openings of the disks found, an opening of the machine
pub record Goes (shape : ImageShape) (shuts : List ShutSeen) (beside : List Beside) (o : Outcome) (us : List Seat) : Type 0 where
  pub row : List Seat
  pub met : Met shuts row
  pub opens : Opens (all_told beside) shape.pages row o us

-- the first disk has this number, and this is why its blocks are no image, if they are told
pub record IsFirstOf (shuts : List ShutSeen) (disk : ℕ) (bad : BadImage) : Type 0 where
  pub shut : ShutSeen
  pub rest : List ShutSeen
  pub first : shuts ≡ shut ∷ rest
  pub number : shut.disk ≡ disk
  pub reason : IsBadOf shut.shape shut.content bad

-- the same by what is answered: the ground's generation, and what it made of each disk; or a refusal
abbrev pub UnitedAs : Result ℕ Refusal → ImageShape → List ShutSeen → List Beside → List Seat → List (Option Notice) → Type 0
UnitedAs (Ok g) shape shuts beside us words = (goes : Goes shape shuts beside (Good (owes us g) g) us) × AllCome (all_told beside) shape.pages goes.row us words
UnitedAs (Err (why.BadImage disk bad)) shape shuts beside us words = Goes shape shuts beside (opening.BadImage disk) us × IsFirstOf shuts disk bad
UnitedAs (Err (why.StoreFault fault)) shape shuts beside us words = Goes shape shuts beside (Lost fault.disk fault.count) us
UnitedAs (Err why.Memory) shape shuts beside us words = Rested shuts us

-- the disks of an opening that went well, with what it made of each, and the room that their ground keeps for its stores
pub record IsReady {T : Type 0} (content : T → Option Content) (faults : T → ℕ) (shape : ImageShape) (stores : List T) (plan : Plan) (beside : List Beside) (us : List Seat) (owed : Bool) (generation : ℕ) (words : List (Option Notice)) (places : List (Option T)) (emptied : List T) (room : ℕ) : Type 0 where
  pub seen : Seen content faults shape stores plan beside
  pub opens : Opens (all_told beside) shape.pages seen.row (Good owed generation) us
  pub live : Has IsLive us
  pub counts : Pairs Counted beside us
  pub within : generation ≤ machine.limit
  pub differ : Differ beside
  pub keeps : HasRoom beside places emptied room
  pub words_many : length words ≡ length beside
  pub came : AllCome (all_told beside) shape.pages seen.row us words

-- THE GROUND IS OPENED: what became of the disks is an opening of the machine
pub record OpenedOver {T : Type 0} (content : T → Option Content) (faults : T → ℕ) (shape : ImageShape) (stores : List T) (plan : Plan) (g : Ground) : Type 0 where
  pub seen : Seen content faults shape stores plan g.beside
  pub opens : Opens (all_told g.beside) shape.pages seen.row (Good g.owed g.generation) g.row
  pub shaped : g.shape ≡ shape
  pub fair : Blames (Good g.owed g.generation) seen.stores_seen g.row
  pub lasting : all_told g.beside ≡ true → Lasting shape.pages seen.stores_seen seen.row g.row
  pub given : all_told g.beside ≡ true → Given seen.stores_seen seen.row g.row g.generation

-- the store of this disk, which stands in the list at the place of its number: this is why its blocks are no image, if they are told, and
-- it is never that memory ran out
pub data IsBadStore {T : Type 0} (content : T → Option Content) (shape : ImageShape) (stores : List T) (disk : ℕ) (bad : BadImage) : Type 0 where
  bad_store : {t : T} → Nth disk stores t → IsBadOf shape (content t) bad → IsBadStore content shape stores disk bad

-- the reason of a refusal is so of the stores
abbrev pub Reasoned : {T : Type 0} → (T → Option Content) → ImageShape → List T → Refusal → Type 0
Reasoned content shape stores (why.BadImage disk bad) = IsBadStore content shape stores disk bad
Reasoned content shape stores (why.StoreFault fault) = Unit {0}
Reasoned content shape stores why.Memory = Unit {0}

-- what is said of an outcome of the machine
abbrev pub Says : Outcome → Refusal → Type 0
Says (Good owed g) reason = ⊥
Says (opening.BadImage d) (why.BadImage disk bad) = disk ≡ d
Says (opening.BadImage d) (why.StoreFault fault) = ⊥
Says (opening.BadImage d) why.Memory = ⊥
Says (Lost d k) (why.BadImage disk bad) = ⊥
Says (Lost d k) (why.StoreFault fault) = (fault.disk ≡ d) × (fault.count ≡ k)
Says (Lost d k) why.Memory = ⊥

-- THE GROUND IS REFUSED: what became of the disks is an opening of the machine, the reason is so, and the stores go back; or memory ran
-- out before any store was written
pub data RefusedOver {T : Type 0} (content : T → Option Content) (faults : T → ℕ) (shape : ImageShape) (stores : List T) (plan : Plan) : Refusal → List T → Type 0 where
  refused : {beside : List Beside} {row : List Seat} {o : Outcome} {reason : Refusal} {after : List T} (seen : Seen content faults shape stores plan beside) → Opens (all_told beside) shape.pages seen.row o row
      → Says o reason → Reasoned content shape stores reason → Blames o seen.stores_seen row → (all_told beside ≡ true → Lasting shape.pages seen.stores_seen seen.row row) → GivesBack content faults beside row after → RefusedOver content faults shape stores plan reason after
  lacked : {beside : List Beside} {row : List Seat} {ss : List machine.Store} {after : List T} → Pairs (Brought content faults shape stores) (disks_in plan) ss → Pairs (Lies content faults shape stores) (disks_in plan) beside
      → Pairs Rests ss row → GivesBack content faults beside row after → RefusedOver content faults shape stores plan why.Memory after
  lacked_first : RefusedOver content faults shape stores plan why.Memory stores
