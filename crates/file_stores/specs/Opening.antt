-- A file's image: how it is opened over the file's stores, and closed.
use Rattle.std.specs.Prelude.{◌≡◌, ℕ, ◌<◌, List, [], ◌∷◌, length, Option}
use Rattle.spr_io.specs.Content.{Content}
use Rattle.stack_accept.specs.Mount.{Mount}
use Rattle.script_meaning.specs.Stack.{pages_of}
use Rattle.disk_format.specs.declared.shape.ImageShape.{ImageShape}
use Rattle.disk_layer.specs.declared.refused.OpenWhy.{OpenWhy}
use Rattle.disk_layer.specs.Calls as disks
use Rattle.mirror_rules.specs.Tree.{Seat, Out, Bad}
use Rattle.mirror_rules.specs.Tree as machine
use Rattle.mirror_rules.specs.Claims.{Has}
use Rattle.mirror_layer.specs.Ground.{Ground}
use Rattle.mirror_layer.specs.Stores.{GivesBack}
use Rattle.mirror_layer.specs.Bringing.{RefusedOver}
use Rattle.mirror_layer.specs.Came.{OpenedWith}
use Rattle.mirror_layer.specs.declared.came.Notice.{Notice}
use Rattle.mirror_layer.specs.declared.refuse.Refusal.{Refusal}
use Rattle.mirror_layer.specs.declared.refuse.Refusal.TheVariants as whys
use Rattle.file_stores.specs.Keys.{image_shape}
use Rattle.file_stores.specs.Held.{StoreSeen}
use Rattle.file_stores.specs.Files.{FileSeen}
use Rattle.file_stores.specs.Stops.{Failed, IsNoImage}
use Rattle.file_stores.specs.declared.stop.Stop.{Stop}
use Rattle.file_stores.specs.declared.stop.Stop.TheVariants as stops
use Rattle.file_stores.specs.WholeDisk.{Alone, IsFirst}
use Rattle.file_stores.specs.Under.{Under, One, Many}

-- the shape of a file's image
abbrev pub shape_of_file : Mount → ℕ → ImageShape
shape_of_file mount file = record { page_size = mount.page_size; pages = pages_of mount file }

-- what a store holds, if that is told; and its count of faults
abbrev pub content_of : StoreSeen → Option Content
content_of s = s.state.content

abbrev pub faults_of : StoreSeen → ℕ
faults_of s = s.state.faults

-- a store as the one under the disk of its key
abbrev pub under : Mount → StoreSeen → disks.Stored
under mount s = record { disk = s.key.disk; shape = image_shape mount s.key; content = s.state.content; faults = s.state.faults }

-- the disk of this number is bad
pub data IsBadOn (disk : ℕ) : Seat → Type 0 where
  bad_on : {s : machine.Store} → s.disk ≡ disk → IsBadOn disk (Out Bad s)

-- a file's image was opened over its stores; and of disks in mirrors, what the opening made of each, by their numbers
abbrev pub IsOpened : Mount → FileSeen → List (Option Notice) → Under → Type 0
IsOpened mount f opened (One a) = (s : StoreSeen) × (f.stores ≡ s ∷ []) × disks.Opened (under mount s) a.disk × IsFirst a
IsOpened mount f opened (Many g) = (1 < length f.stores) × OpenedWith content_of faults_of (shape_of_file mount f.file) f.stores mount.ground opened g

-- the opening of disks in mirrors found this one bad: it was left out, and nothing was written to it
abbrev pub IsFoundBad : Ground → ℕ → Type 0
IsFoundBad g disk = Has (IsBadOn disk) g.row

-- what lay under a file was closed, and these are the file's stores
abbrev pub IsLeft : Under → FileSeen → Type 0
IsLeft (One a) f = (s : StoreSeen) × (f.stores ≡ s ∷ []) × (s.state ≡ record { content = a.disk.content; faults = a.disk.faults })
IsLeft (Many g) f = GivesBack content_of faults_of g.beside g.row f.stores

-- the stop that a refusal of a file's disks in mirrors is
abbrev pub refused_by : ℕ → Refusal → Stop
refused_by file (whys.BadImage disk bad) = stops.Image (record { file = file; disk = disk }) bad.place bad.why
refused_by file (whys.StoreFault fault) = stops.Store (record { file = file; disk = fault.disk }) fault.count
refused_by file whys.Memory = stops.Memory

-- why the image on a file's one store was not opened, and what became of the store
abbrev pub IsUnopenedOne : Mount → StoreSeen → StoreSeen → Stop → Type 0
IsUnopenedOne mount old new (stops.Store key count) = (key ≡ old.key) × Failed count old.state new.state
IsUnopenedOne mount old new (stops.Image key place why) = (key ≡ old.key) × IsNoImage (image_shape mount old.key) old.state.content place why × (new.state ≡ old.state)
IsUnopenedOne mount old new stops.Memory = new.state ≡ old.state
IsUnopenedOne mount old new (stops.Bay key) = ⊥

-- why a file's image was not opened, and what became of its stores
pub data IsUnopened (mount : Mount) (f g : FileSeen) (stop : Stop) : Type 0 where
  unopened_one : {old new : StoreSeen} → f.stores ≡ old ∷ [] → g.stores ≡ new ∷ [] → new.key ≡ old.key → new.state.content ≡ old.state.content → IsUnopenedOne mount old new stop → IsUnopened mount f g stop
  unopened_many : {why : Refusal} → 1 < length f.stores → RefusedOver content_of faults_of (shape_of_file mount f.file) f.stores mount.ground why g.stores → stop ≡ refused_by f.file why → IsUnopened mount f g stop

-- a disk was opened over the one store of a list, whatever stores are
abbrev pub OpenedAlone : {T : Type 0} → (T → Option Content) → (T → ℕ) → ImageShape → List T → Alone → Type 0
OpenedAlone {T = T} content faults shape stores a = (t : T) × (stores ≡ t ∷ []) × disks.Opened (record { disk = 0; shape = shape; content = content t; faults = faults t }) a.disk × IsFirst a

-- a disk was refused over the one store of a list, which goes back
pub record RefusedAlone {T : Type 0} (content : T → Option Content) (faults : T → ℕ) (shape : ImageShape) (stores : List T) (why : OpenWhy) (after : List T) : Type 0 where
  pub old : T
  pub new : T
  pub was_it : stores ≡ old ∷ []
  pub left : after ≡ new ∷ []
  pub same : content new ≡ content old
  pub cause : disks.IsRefusal (record { disk = 0; shape = shape; content = content old; faults = faults old }) (faults new) why
