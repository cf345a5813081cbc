-- Commands in which nothing failed, and how they end.
use Rattle.std.specs.Prelude.{◌≡◌, ◌⊎◌, ℕ, ◌-◌, ◌^◌, ◌<◌, List, length, slice_get, Option, None, Some}
use Rattle.hist_plain.specs.declared.TheConstants.{MAX_EVENTS}
use Rattle.script_text.specs.declared.script.Script.{Script}
use Rattle.stack_accept.specs.Mount.{Mount}
use Rattle.pager_channel.specs.declared.numbers.Ops.{Ops}
use Rattle.tower_log.specs.Log.{place_of}
use Rattle.script_meaning.specs.Log.{Histories, log_at}
use Rattle.script_meaning.specs.declared.store.StoreKey.{StoreKey}
use Rattle.spr_io.specs.Berth.{BaySeen, Berth}
use Rattle.spr_io.specs.Content.{Content}
use Rattle.disk_format.specs.declared.shape.ImageShape.{ImageShape}
use Rattle.disk_format.specs.Image.{image}
use Rattle.page_ground.specs.Seen.{Imaged}
use Rattle.spr_report.specs.declared.status.Status.{Status}
use Rattle.spr_report.specs.declared.status.Status.TheVariants.{Good, Memory}
use Rattle.file_stores.specs.Held.{StoreSeen}
use Rattle.file_stores.specs.Files.{FileSeen}
use Rattle.file_stores.specs.Keys.{EachAt, berth_of, image_shape, stores_of, stores_of_file}
use Rattle.file_stores.specs.Opening.{shape_of_file}
use Rattle.image_commands.specs.Says.{SaysDump, SaysFormat}
use Rattle.run_files.specs.Leaves.{Store}
use Rattle.run_files.specs.Sums.{SaysSum}
use Rattle.run_files.specs.Sums as sums
use Rattle.run_files.specs.Run.{SaysRun, ran_out, reported, stopped, unopened, untaken}

-- the bay had no fault in the run, and its count, which stops at its type's end, was not there
pub record IsBaySound (before after : BaySeen) : Type 0 where
  pub same : after.faults ≡ before.faults
  pub below_end : before.faults < 2 ^ 64 - 1

-- no store of these files had a fault while it was out
abbrev pub AreStoresSound : List FileSeen → List FileSeen → Type 0
AreStoresSound olds news = (file disk : ℕ) (f g : FileSeen) (old new : StoreSeen) → slice_get olds file ≡ Some f → slice_get news file ≡ Some g → Store f g disk old new → new.state.faults ≡ old.state.faults

-- the store of this disk tells what it holds: this image of the shape
pub record HasImage (shape : ImageShape) (stores : List StoreSeen) (disk : ℕ) (imaged : Imaged) : Type 0 where
  pub store : StoreSeen
  pub content : Content
  pub there : slice_get stores disk ≡ Some store
  pub tells : store.state.content ≡ Some content
  pub is : image shape content.blocks ≡ Some imaged

-- each store holds an image
abbrev pub HoldImages : ImageShape → List StoreSeen → Type 0
HoldImages shape stores = (disk : ℕ) → disk < length stores → (i : Imaged) × HasImage shape stores disk i

-- each store of each file told an image when it was taken
abbrev pub HadImages : Mount → List FileSeen → Type 0
HadImages mount olds = (file : ℕ) (f : FileSeen) → slice_get olds file ≡ Some f → HoldImages (shape_of_file mount f.file) f.stores

-- no history of a file has all events that it may have
abbrev pub AreNotFull : Histories → Type 0
AreNotFull h = (file : ℕ) → place_of (log_at h file) < MAX_EVENTS

-- Nothing under the run failed, by what it says: where the stores were taken none had a fault; where the script was not run over them they
-- had had images; and where it was, no history got full.
abbrev pub NothingFailed : {mount : Mount} {script : Script} {traced : Option Ops} {before after : BaySeen} {notices text : List ℕ} {status : Status} → SaysRun mount None script traced before after notices text status → Type 0
NothingFailed (stopped stop lost (untaken why) quiet says ends) = Unit {0}
NothingFailed {mount = mount} (stopped stop lost (unopened halt) quiet says ends) = AreStoresSound halt.olds halt.news × HadImages mount halt.olds
NothingFailed (reported h said closing lost played says ends) = AreStoresSound played.olds played.news × AreNotFull h
NothingFailed (ran_out h said closing lost played says ends) = Unit {0}

-- Nothing under the run of a generated script failed, by what it says: as before; and where pages were read and the script was not run, no store had a fault
abbrev pub NothingFailedSumming : {mount : Mount} {script : Script} {before after : BaySeen} {notices text : List ℕ} {status : Status} → SaysSum mount None script before after notices text status → Type 0
NothingFailedSumming (sums.stopped stop lost (untaken why) quiet says ends) = Unit {0}
NothingFailedSumming {mount = mount} (sums.stopped stop lost (unopened halt) quiet says ends) = AreStoresSound halt.olds halt.news × HadImages mount halt.olds
NothingFailedSumming (sums.unplayed stop lost halt says ends) = AreStoresSound halt.olds halt.news
NothingFailedSumming (sums.summed h said closing lost lasts sum says ends) = AreStoresSound sum.played.olds sum.played.news × AreNotFull h
NothingFailedSumming (sums.ran_out h said closing lost played says ends) = Unit {0}

-- so it is with the run of a generated script
abbrev pub SoundSumEndsWell : Type 0
SoundSumEndsWell = (mount : Mount) (script : Script) (before after : BaySeen) (notices text : List ℕ) (status : Status) (says : SaysSum mount None script before after notices text status)
    → IsBaySound before after → NothingFailedSumming says → (status ≡ Good) ⊎ (status ≡ Memory)

-- NO FAILURE IS MADE UP: if neither the bay nor a store failed, each store that was taken had an image and no history got full, the run ends
-- well, or memory ran out
abbrev pub SoundRunEndsWell : Type 0
SoundRunEndsWell = (mount : Mount) (script : Script) (traced : Option Ops) (before after : BaySeen) (notices text : List ℕ) (status : Status) (says : SaysRun mount None script traced before after notices text status)
    → IsBaySound before after → NothingFailed says → (status ≡ Good) ⊎ (status ≡ Memory)

-- no count of these stores rose, by what the bay tells of them
abbrev pub AreBerthsSound : Mount → List StoreKey → BaySeen → BaySeen → Type 0
AreBerthsSound mount keys before after = EachAt (λ at key. (berth_of mount key after.berths).faults ≡ (berth_of mount key before.berths).faults) keys

-- an image of this shape lies in the bay
pub record LiesImage (shape : ImageShape) (berth : Berth) : Type 0 where
  pub content : Content
  pub imaged : Imaged
  pub lies : berth.holds ≡ Some (Some content)
  pub is : image shape content.blocks ≡ Some imaged

-- the bay tells an image of each of these stores
abbrev pub LieImages : Mount → List StoreKey → BaySeen → Type 0
LieImages mount keys before = EachAt (λ at key. LiesImage (image_shape mount key) (berth_of mount key before.berths)) keys

-- so it is with fresh images, whatever lay there before
abbrev pub SoundFormatEndsWell : Type 0
SoundFormatEndsWell = (mount : Mount) (before after : BaySeen) (text : List ℕ) (status : Status) → SaysFormat mount before after (stores_of mount) text status
    → IsBaySound before after → AreBerthsSound mount (stores_of mount) before after → (status ≡ Good) ⊎ (status ≡ Memory)

-- and with the pages of a file of whose stores each had an image
abbrev pub SoundDumpEndsWell : Type 0
SoundDumpEndsWell = (mount : Mount) (before after : BaySeen) (file : ℕ) (notices text : List ℕ) (status : Status) → SaysDump mount before after file notices text status
    → IsBaySound before after → AreBerthsSound mount (stores_of_file (length mount.disks) file) before after → LieImages mount (stores_of_file (length mount.disks) file) before
    → (status ≡ Good) ⊎ (status ≡ Memory)
