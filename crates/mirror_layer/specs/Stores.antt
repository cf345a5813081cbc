-- The stores of a ground, in the order of the disks, and what the machine of mirrors sees of them.
use Rattle.std.specs.Prelude.{◌≡◌, ℕ, ◌<◌, ◌≤◌, List, [], length, get_or, Option, Some, None, is_some, IfSome}
use Rattle.std.specs.Option.{option_map}
use Rattle.spr_io.specs.Content.{Content}
use Rattle.disk_format.specs.declared.shape.ImageShape.{ImageShape}
use Rattle.page_ground.specs.Seen.{Imaged}
use Rattle.disk_layer.specs.Disk.{is_blank}
use Rattle.disk_format.specs.Image.{image}
use Rattle.mirror_rules.specs.Tree.{Image, Seat, In, Out}
use Rattle.mirror_rules.specs.Tree as machine
use Rattle.mirror_rules.specs.Claims.{Pairs, Every, Has, Nth}
use Rattle.mirror_rules.specs.Guards.{Direct, Leaves}
use Rattle.mirror_rules.specs.Fates.{faults_of}
use Rattle.mirror_layer.specs.View.{Beside, as_image}

-- the machine sees of a store its disk's number, its count, the images that its blocks are and were kept as, and of blocks that are no image
-- whether block 0 is all zeros; if it does not tell what it holds, any of these
pub record Finds (shape : ImageShape) (disk : ℕ) (content : Option Content) (faults : ℕ) (s : machine.Store) : Type 0 where
  pub number : s.disk ≡ disk
  pub count : s.faults ≡ faults
  pub now : IfSome content (λ c. s.image ≡ option_map {T = Imaged} as_image (image shape c.blocks))
  pub last : IfSome content (λ c. s.kept ≡ option_map {T = Imaged} as_image (image shape c.kept))
  pub zeros : IfSome content (λ c. s.image ≡ None → s.blank ≡ is_blank c.blocks)

-- the store at the place of a disk's number is so seen; it tells what it holds if its disk did, and has no fewer faults than when its disk
-- was opened
pub data Stored {T : Type 0} (content : T → Option Content) (faults : T → ℕ) (stores : List T) (b : Beside) (s : machine.Store) : Type 0 where
  stored : {t : T} → Nth b.disk stores t → Finds b.shape b.disk (content t) (faults t) s → is_some (content t) ≡ b.told → b.opened ≤ faults t → Stored content faults stores b s

-- what a disk kept
abbrev pub kept_of : Seat → Option Image
kept_of (In b c) = c.kept
kept_of (Out b s) = s.kept

-- a ground gave its stores back in the order of the disks: each has the image that its disk had last, its count, and what its disk kept
pub data Left (x : Seat) (s : machine.Store) : Type 0 where
  left : Leaves Direct x s → s.faults ≡ faults_of x → s.kept ≡ kept_of x → Left x s

-- a disk and its seat, and the store at the place of its number, of which the same is said
pub data Shuts {T : Type 0} (content : T → Option Content) (faults : T → ℕ) (places : List (Option T)) (b : Beside) (x : Seat) : Type 0 where
  shuts : {t : T} {s : machine.Store} → get_or places b.disk None ≡ Some t → Finds b.shape b.disk (content t) (faults t) s → Leaves Direct x s → s.faults ≡ faults_of x → s.kept ≡ kept_of x → is_some (content t) ≡ b.told → b.opened ≤ faults t
      → Shuts content faults places b x

abbrev pub IsShut : {T : Type 0} → (T → Option Content) → (T → ℕ) → List Beside → List Seat → List (Option T) → Type 0
IsShut content faults bs xs places = Pairs (Shuts content faults places) bs xs

pub record GivesBack {T : Type 0} (content : T → Option Content) (faults : T → ℕ) (beside : List Beside) (row : List Seat) (stores : List T) : Type 0 where
  pub many : length stores ≡ length beside
  pub seen : List machine.Store
  pub stored : Pairs (Stored content faults stores) beside seen
  pub left : Pairs Left row seen

-- the disks have the numbers from 0 on, each once
pub record Numbered (beside : List Beside) : Type 0 where
  pub below : Every (λ b. b.disk < length beside) beside
  pub each : (n : ℕ) → n < length beside → Has (λ b. b.disk ≡ n) beside

-- the room that a ground keeps for its stores: a place for each number, and the list in which they came, emptied
pub record HasRoom {T : Type 0} (beside : List Beside) (places : List (Option T)) (emptied : List T) (room : ℕ) : Type 0 where
  pub numbered : Numbered beside
  pub many : length places ≡ length beside
  pub empty : emptied ≡ []
  pub enough : length beside ≤ room
