-- The files of a run over the stores that were taken: opened, and closed.
use Rattle.std.specs.Prelude.{◌≡◌, ◌⊎◌, ℕ, suc, ◌*◌, ◌<◌, List, [], ◌∷◌, ◌++◌, length, map, Option, Some}
use Rattle.stack_accept.specs.Mount.{Mount}
use Rattle.spr_io.specs.Berth.{BaySeen}
use Rattle.script_meaning.specs.declared.store.StoreKey.{StoreKey}
use Rattle.script_meaning.specs.Stack.{pages_of}
use Rattle.page_messages.specs.declared.paged.PagedFile.{PagedFile}
use Rattle.stack_engine.specs.Engine.{IsSound, machines_in}
use Rattle.run_files.specs.Begun.{BeganAs, IsSized, Opening, begun_as}
use Rattle.stack_engine.specs.Opened.{IsOf}
use Rattle.stack_engine.specs.Start as engines
use Rattle.stack_engine.specs.Tower.{TowerSeen}
use Rattle.file_stores.specs.declared.stop.Stop.{Stop}
use Rattle.file_stores.specs.declared.stop.Stop.TheVariants as stops
use Rattle.file_stores.specs.Keys.{EachAt, image_shape, stores_of_file}
use Rattle.file_stores.specs.Held.{StoreSeen, keys_of, AreOut}
use Rattle.file_stores.specs.Files.{AreFilePairs, ArePairs, FileSeen, IsFile, Lasts}
use Rattle.file_stores.specs.Stops.{HoldsImage}
use Rattle.mirror_layer.specs.declared.came.Notice.{Notice}
use Rattle.mirror_layer.specs.Ground.{Ground, IsGround, seen_of}
use Rattle.mirror_layer.specs.Bringing.{OpenedOver}
use Rattle.mirror_layer.specs.Stores.{GivesBack}
use Rattle.file_stores.specs.Notices.{AreAtClose}
use Rattle.file_stores.specs.Under.{IsSound as IsSoundUnder, Under, seen_under}
use Rattle.file_stores.specs.Opening.{IsLeft, IsOpened, IsUnopened, content_of, faults_of, shape_of_file}

-- these stores were taken from a bay that was so before, and the bay had no fault
pub record IsTaken (mount : Mount) (before now : BaySeen) (keys : List StoreKey) (stores : List StoreSeen) : Type 0 where
  pub out : AreOut mount before now stores
  pub which : keys_of stores ≡ keys
  pub calm : now.faults ≡ before.faults

-- the stores of each file of the stack, in order
pub record AreFiles (mount : Mount) (files : List FileSeen) : Type 0 where
  pub number : length files ≡ length mount.files
  pub each : EachAt (λ at f. (f.file ≡ at) × IsFile mount f) files

-- the files after as before: as many, each with the stores of the same names, of which no count fell and each that told tells still
pub record AreSameFiles (olds news : List FileSeen) : Type 0 where
  pub many : length news ≡ length olds
  pub pairs : AreFilePairs Lasts olds news

-- the file of a number, as its messages name it
abbrev pub paged : Mount → ℕ → PagedFile
paged mount file = record { number = file; page_size = mount.page_size; pages = pages_of mount file }

-- the number of each node's machine, that of the ground first
abbrev pub machines_by_node : Mount → List ℕ
machines_by_node mount = map (λ node. node.machine) mount.nodes

-- the tower is of the file that these pages began, if what lies under it tells its pages
abbrev pub BeganOn : Mount → ℕ → Under → TowerSeen → Type 0
BeganOn mount file under t = (opening : Opening) (told : List (List ℕ)) → (seen_under under).pages ≡ Some told
    → IsSized (begun_as mount file opening) → BeganAs (begun_as mount file opening) told → IsOf opening.bytes t.engine

-- a tower without events, in which nobody has a turn, over the image of a file that was opened over its stores. Its nodes are on the machines of
-- the stack
pub record Opens (mount : Mount) (f : FileSeen) (t : TowerSeen) : Type 0 where
  pub under : Under
  -- what the opening made of each disk in mirrors
  pub made : List (Option Notice)
  pub each : length made ≡ length f.stores
  pub over : IsOpened mount f made under
  pub under_sound : IsSoundUnder under
  pub opens : engines.Opens mount.tree (paged mount f.file) (seen_under under) t.engine
  pub free : t.turns ≡ []
  pub machines : machines_in t.engine ≡ machines_by_node mount
  pub began : BeganOn mount f.file under t

-- a tower was opened over the stores of each file, in order
abbrev pub OpensEach : Mount → List FileSeen → List TowerSeen → Type 0
OpensEach mount [] [] = Unit {0}
OpensEach mount [] (t ∷ ts) = ⊥
OpensEach mount (f ∷ fs) [] = ⊥
OpensEach mount (f ∷ fs) (t ∷ ts) = Opens mount f t × OpensEach mount fs ts

-- and this is what each opening made of the disks of the file, by their numbers
pub data AreMade (mount : Mount) : List FileSeen → List TowerSeen → List (List (Option Notice)) → Type 0 where
  made_none : AreMade mount [] [] []
  made_more : {f : FileSeen} {t : TowerSeen} {fs : List FileSeen} {ts : List TowerSeen} {ms : List (List (Option Notice))} (opens : Opens mount f t) → AreMade mount fs ts ms → AreMade mount (f ∷ fs) (t ∷ ts) (opens.made ∷ ms)

-- a ground was opened over the stores of a file, and gave them back with its disks as they were
pub record ClosesGround (mount : Mount) (f g : FileSeen) : Type 0 where
  pub opened : Ground
  pub over : OpenedOver content_of faults_of (shape_of_file mount f.file) f.stores mount.ground opened
  pub closed : Ground
  pub same : seen_of closed ≡ seen_of opened
  pub sound : IsGround closed
  pub back : GivesBack content_of faults_of closed.beside closed.row g.stores

-- a file's image was opened over its stores and closed again, and nothing was asked of it meanwhile
pub data Closes (mount : Mount) (f g : FileSeen) : Type 0 where
  -- the only store holds an image, and is as it was
  closes_one : {old new : StoreSeen} → f.stores ≡ old ∷ [] → g.stores ≡ new ∷ [] → HoldsImage (image_shape mount old.key) old.state.content → new.state ≡ old.state → Closes mount f g
  -- the stores of disks in mirrors are what the opening left
  closes_many : 1 < length f.stores → ClosesGround mount f g → Closes mount f g

-- why a file could not be opened, and what became of its stores: its image was not; or memory ran out then, and it was closed again
abbrev pub IsUnheld : Mount → FileSeen → FileSeen → Stop → Type 0
IsUnheld mount old new stop = IsUnopened mount old new stop ⊎ (Closes mount old new × (stop ≡ stops.Memory))

-- the first files were opened, and the next one could not be, of whose stores this became; those of the files behind it are left
pub record OpensSome (mount : Mount) (files : List FileSeen) (towers : List TowerSeen) (rest : List FileSeen) (stop : Stop) : Type 0 where
  pub first : List FileSeen
  pub old : FileSeen
  pub new : FileSeen
  pub behind : List FileSeen
  pub all : files ≡ first ++ old ∷ behind
  pub opened : OpensEach mount first towers
  pub left : rest ≡ new ∷ behind
  pub file : new.file ≡ old.file
  pub pairs : ArePairs Lasts old.stores new.stores
  pub cause : IsUnheld mount old new stop

-- why the script is not run over files: not all were opened; or all were, and memory ran out then
abbrev pub Halts : Mount → List FileSeen → List TowerSeen → List FileSeen → Stop → Type 0
Halts mount files towers rest stop = OpensSome mount files towers rest stop ⊎ (OpensEach mount files towers × (rest ≡ []) × (stop ≡ stops.Memory))

-- a tower was closed, and these are the stores of its file
pub record IsShut (file : ℕ) (t : TowerSeen) (f : FileSeen) : Type 0 where
  pub under : Under
  pub ground : seen_under under ≡ t.engine.ground
  pub file_is : f.file ≡ file
  pub keys : keys_of f.stores ≡ stores_of_file (length f.stores) file
  pub left : IsLeft under f
  pub under_sound : IsSoundUnder under
  pub sound : IsSound t.engine

-- each tower was closed, from this file on, and these are the files' stores
abbrev pub AreShut : ℕ → List TowerSeen → List FileSeen → Type 0
AreShut file [] [] = Unit {0}
AreShut file [] (f ∷ fs) = ⊥
AreShut file (t ∷ ts) [] = ⊥
AreShut file (t ∷ ts) (f ∷ fs) = IsShut file t f × AreShut (suc file) ts fs

-- and this is what is told of the disks of each file then, by what its opening made of them
pub data AreEnded : ℕ → List TowerSeen → List FileSeen → List (List (Option Notice)) → List (List (Option Notice)) → Type 0 where
  ended_none : {file : ℕ} → AreEnded file [] [] [] []
  ended_more : {file : ℕ} {t : TowerSeen} {f : FileSeen} {m : List (Option Notice)} {ts : List TowerSeen} {fs : List FileSeen} {ms ns : List (List (Option Notice))} {n : List (Option Notice)} (shut : IsShut file t f) → AreAtClose shut.under m n → AreEnded (suc file) ts fs ms ns
      → AreEnded file (t ∷ ts) (f ∷ fs) (m ∷ ms) (n ∷ ns)
