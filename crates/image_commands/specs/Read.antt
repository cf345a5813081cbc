-- How the pages of a file were read from its stores, and what became of the stores.
use Rattle.std.specs.Prelude.{◌≡◌, ℕ, ◌<◌, Bool, true, false, List, [], ◌∷◌, length, All, Option, IfSome}
use Rattle.stack_accept.specs.Mount.{Mount}
use Rattle.disk_format.specs.declared.shape.ImageShape.{ImageShape}
use Rattle.mirror_rules.specs.Tree.{Seat}
use Rattle.mirror_rules.specs.Claims.{Pairs}
use Rattle.mirror_rules.specs.Steps.{Named}
use Rattle.mirror_layer.specs.declared.came.Notice.{Notice}
use Rattle.mirror_layer.specs.Calls.{all_told}
use Rattle.mirror_layer.specs.Came.{AreCame}
use Rattle.mirror_layer.specs.Ground.{Ground, seen_of}
use Rattle.mirror_layer.specs.Stores.{GivesBack}
use Rattle.mirror_layer.specs.Bringing.{OpenedOver}
use Rattle.file_stores.specs.declared.stop.Stop.{Stop}
use Rattle.file_stores.specs.declared.stop.Stop.TheVariants as stops
use Rattle.file_stores.specs.Keys.{image_shape}
use Rattle.file_stores.specs.Held.{StoreSeen}
use Rattle.file_stores.specs.Files.{FileSeen}
use Rattle.file_stores.specs.Stops.{Failed}
use Rattle.file_stores.specs.Opening.{IsUnopened, content_of, faults_of, shape_of_file}
use Rattle.file_stores.specs.Reading.{Stays}
use Rattle.file_stores.specs.Under.{Many}
use Rattle.file_stores.specs.Notices.{AreAtClose, NothingTold}
use Rattle.image_commands.specs.Pages.{ArePagesOf}

-- A GROUND WAS OPENED over the stores of a file on disks in mirrors, pages of it were read, and it was closed. All that the reads did
-- to a disk is that the count of a live one may have risen, and has if a read was refused.
pub record Looked (mount : Mount) (refused : Bool) (f g : FileSeen) : Type 0 where
  pub some : 1 < length f.stores
  pub opened : Ground
  pub over : OpenedOver content_of faults_of (shape_of_file mount f.file) f.stores mount.ground opened
  -- its disks as it was closed
  pub row : List Seat
  pub stays : Pairs (Stays refused) opened.row row
  pub back : GivesBack content_of faults_of opened.beside row g.stores

-- what is told of the disks of such a ground, by their numbers: by what its opening made of each, and whether the disk is live as it is closed
pub record LooksTold {mount : Mount} {refused : Bool} {f g : FileSeen} (looked : Looked mount refused f g) (told : List (Option Notice)) : Type 0 where
  pub made : List (Option Notice)
  pub made_so : AreCame (all_told looked.opened.beside) looked.opened.beside looked.over.seen.row looked.opened.row made
  pub each : length made ≡ length f.stores
  pub told_so : AreAtClose (Many (record looked.opened { row = looked.row })) made told

-- these are the pages of an open ground, if it tells them; there is one for each page of the shape
pub record ArePagesIn (shape : ImageShape) (opened : Ground) (pages : List (List ℕ)) : Type 0 where
  pub number : length pages ≡ shape.pages
  pub sizes : All (λ p. length p ≡ shape.page_size) pages
  pub told : IfSome (seen_of opened).pages (λ ps. ps ≡ pages)

-- the pages of a file's only store were read, which is as it was
abbrev pub IsReadAs : Mount → List (List ℕ) → StoreSeen → StoreSeen → Type 0
IsReadAs mount pages old new = ArePagesOf (image_shape mount old.key) old.state.content pages × (new.state ≡ old.state)

-- the pages of a file were read, and this is what is told of its disks
pub data IsRead (mount : Mount) (told : List (Option Notice)) (f g : FileSeen) (pages : List (List ℕ)) : Type 0 where
  read_one : {old new : StoreSeen} → f.stores ≡ old ∷ [] → g.stores ≡ new ∷ [] → IsReadAs mount pages old new → NothingTold told → IsRead mount told f g pages
  read_many : (looked : Looked mount false f g) → LooksTold looked told → ArePagesIn (shape_of_file mount f.file) looked.opened pages → IsRead mount told f g pages

-- a file's only store failed with this count, and holds what it held
abbrev pub IsRefusedOne : ℕ → StoreSeen → StoreSeen → Type 0
IsRefusedOne count old new = (new.state.content ≡ old.state.content) × Failed count old.state new.state

-- Why the pages of a file were not printed, and what is told of its disks: its image was not opened; a read was refused, by its only store or
-- by each live disk of its ground, of which the stop names one with its count then; or all pages were read, and memory ran out for their text.
pub data IsUnprinted (mount : Mount) (told : List (Option Notice)) (f g : FileSeen) (stop : Stop) : Type 0 where
  unopened : IsUnopened mount f g stop → NothingTold told → IsUnprinted mount told f g stop
  refused_one : {old new : StoreSeen} {count : ℕ} → f.stores ≡ old ∷ [] → g.stores ≡ new ∷ [] → IsRefusedOne count old new → stop ≡ stops.Store old.key count → NothingTold told → IsUnprinted mount told f g stop
  refused_many : {disk count : ℕ} (looked : Looked mount true f g) → LooksTold looked told → Named disk count looked.opened.row looked.row → stop ≡ stops.Store (record { file = f.file; disk = disk }) count → IsUnprinted mount told f g stop
  no_text : {pages : List (List ℕ)} → IsRead mount told f g pages → stop ≡ stops.Memory → IsUnprinted mount told f g stop
