-- A ground of disks in mirrors, as contracts see it.
use Rattle.std.specs.Prelude.{◌≡◌, ◌≢◌, ℕ, ◌+◌, ◌≤◌, min, List, [], ◌∷◌, length, Bool, true, false, Option, Some, None, Result}
use Rattle.std.specs.Option.{option_map}
use Rattle.disk_format.specs.declared.shape.ImageShape.{ImageShape}
use Rattle.page_ground.specs.Seen.{Imaged}
use Rattle.page_ground.specs.declared.fault.StoreFault.{StoreFault}
use Rattle.page_ground.specs.Seen.{DiskSeen, Seen}
use Rattle.mirror_rules.specs.Tree.{Image, Seat, In, Out, limit}
use Rattle.mirror_rules.specs.Claims.{Pairs, Every, Has, IsLive, HasPages}
use Rattle.mirror_rules.specs.Guards.{Direct}
use Rattle.mirror_rules.specs.Levels.{Near, Even}
use Rattle.mirror_rules.specs.Fates.{disk_of, faults_of}
use Rattle.mirror_rules.specs.Steps.{Says, Done, Fault, Puts}
use Rattle.mirror_layer.specs.View.{Beside}
use Rattle.mirror_layer.specs.Calls.{all_told, answered}

-- the shape of each image, whether a raise is owed, the ground's generation, the disks in a row as the machine of mirrors sees them, and what
-- no call changes
pub record Ground : Type 0 where
  pub shape : ImageShape
  pub owed : Bool
  pub generation : ℕ
  pub row : List Seat
  pub beside : List Beside

abbrev pub as_imaged : Image → Imaged
as_imaged i = record { generation = i.generation; pages = i.pages }

-- what was kept, if it is told
abbrev pub kept_told : Bool → Option Image → Option (Option Imaged)
kept_told true kept = Some (option_map {T = Image} as_imaged kept)
kept_told false kept = None

-- the image that a disk has, if it is told
abbrev pub image_told : Bool → Option Image → Option Imaged
image_told true has = option_map {T = Image} as_imaged has
image_told false has = None

abbrev pub disk_seen : Beside → Seat → DiskSeen
disk_seen b (In live c) = record { disk = c.disk; live = live; up = true; holds = image_told b.told (Some c.now); kept = kept_told b.told c.kept; faults = c.faults; opened = b.opened }
disk_seen b (Out why s) = record { disk = s.disk; live = false; up = false; holds = image_told b.told s.image; kept = kept_told b.told s.kept; faults = s.faults; opened = b.opened }

abbrev pub disks_seen : List Beside → List Seat → List DiskSeen
disks_seen [] xs = []
disks_seen (b ∷ bs) [] = []
disks_seen (b ∷ bs) (x ∷ xs) = disk_seen b x ∷ disks_seen bs xs

-- the pages of the first live disk
abbrev pub live_pages : List Seat → List (List ℕ)
live_pages [] = []
live_pages (In true c ∷ xs) = c.now.pages
live_pages (In false c ∷ xs) = live_pages xs
live_pages (Out why s ∷ xs) = live_pages xs

-- pages, if they are told
abbrev pub pages_told : Bool → List (List ℕ) → Option (List (List ℕ))
pages_told true pages = Some pages
pages_told false pages = None

-- the generation that a ground has at least once all that it owes is paid: two more, up to the limit, if a raise is owed; else its own
abbrev pub due_of : Bool → ℕ → ℕ
due_of true g = min (g + 2) limit
due_of false g = g

-- the ground as what lies under a file: its pages are those of its live disks
abbrev pub seen_of : Ground → Seen
seen_of g = record {
  page_size = g.shape.page_size;
  number = g.shape.pages;
  pages = pages_told (all_told g.beside) (live_pages g.row);
  generation = g.generation;
  due = due_of g.owed g.generation;
  disks = disks_seen g.beside g.row;
}

-- the disks have numbers that differ
abbrev pub Differ : List Beside → Type 0
Differ [] = Unit {0}
Differ (b ∷ bs) = Every (λ x. x.disk ≢ b.disk) bs × Differ bs

-- of one disk: its number, and no fewer faults than when it was opened
pub data Counted (b : Beside) (x : Seat) : Type 0 where
  counted : disk_of x ≡ b.disk → b.opened ≤ faults_of x → Counted b x

-- what is true of every ground: a disk is live; each store is there; the disks have the ground's shape, and numbers that differ; the live
-- disks have the same pages, if they are told, and as many as the shape says; each live one has at least the ground's generation, and no
-- opened one more than the next; and if no raise is owed, the live ones have it, and each other is below
pub record IsGround (g : Ground) : Type 0 where
  pub live : Has IsLive g.row
  pub there : Every (λ b. b.there ≡ true) g.beside
  pub shapes : Every (λ b. b.shape ≡ g.shape) g.beside
  pub differ : Differ g.beside
  pub counts : Pairs Counted g.beside g.row
  pub pages : all_told g.beside ≡ true → (F : List (List ℕ)) × Every (HasPages F) g.row × (length F ≡ g.shape.pages)
  pub near : Every (Near Direct g.generation) g.row
  pub even : Even Direct g.owed g.generation g.row
  pub within : g.generation ≤ limit

-- what a call says of a round that left a disk out, and of one that did not
abbrev pub outcome : Says → Says
outcome (Done w) = Done true
outcome (Fault d n) = Fault d n

-- a write is one round of the machine
abbrev pub PutsPage : ℕ → List ℕ → Ground → Result (Unit {0}) StoreFault → Ground → Type 0
PutsPage page bytes before result after = (s : Says) × (outcome s ≡ answered result) × Puts page bytes before.owed before.row s after.owed after.row
