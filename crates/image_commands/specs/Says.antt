-- What formatting the stores of a stack does, and what printing the pages of one does; and the text and status of each.
use Rattle.std.specs.Prelude.{◌≡◌, ◌⊎◌, ℕ, ◌++◌, List, [], length, slice_get, Option, Some}
use Rattle.stack_accept.specs.Mount.{Mount}
use Rattle.script_meaning.specs.declared.store.StoreKey.{StoreKey}
use Rattle.spr_io.specs.Berth.{BaySeen}
use Rattle.spr_io.specs.Texts.{SinkSeen}
use Rattle.spr_report.specs.declared.status.Status.{Status}
use Rattle.spr_report.specs.declared.status.Status.TheVariants as statuses
use Rattle.spr_report.specs.Writing.{Finishes}
use Rattle.disk_format.specs.declared.shape.ImageShape.{ImageShape}
use Rattle.file_stores.specs.declared.stop.Stop.{Stop}
use Rattle.file_stores.specs.declared.stop.Stop.TheVariants as stops
use Rattle.file_stores.specs.Keys.{image_shape, stores_of_file}
use Rattle.file_stores.specs.Files.{FileSeen, IsFile, StandsAt}
use Rattle.file_stores.specs.State.{StoreState, Returned}
use Rattle.file_stores.specs.Stop.{lost_text, stop_text, stop_status}
use Rattle.mirror_layer.specs.declared.came.Notice.{Notice}
use Rattle.file_stores.specs.Notices.{notice_lines}
use Rattle.file_stores.specs.Stops.{NotTaken, OutOfMemory, Untaken}
use Rattle.image_commands.specs.Fresh.{IsFresh, FailedAt, IsUntouched, Part}
use Rattle.image_commands.specs.Pages.{page_lines}
use Rattle.image_commands.specs.Read.{IsRead, IsUnprinted}
use Rattle.image_commands.specs.Told.{done_status}

-- each store has a fresh image
abbrev pub AreFormatted : Mount → BaySeen → BaySeen → List StoreKey → List StoreKey → Type 0
AreFormatted mount before after keys lost = Returned mount before after keys lost (λ at key. IsFresh (image_shape mount key))

-- All stores were taken, and this one could not be formatted whole: those before it have a fresh image, and those after it came
-- back as they were taken.
pub record BrokeOff (mount : Mount) (before after : BaySeen) (keys lost : List StoreKey) (key : StoreKey) (Cause : ImageShape → StoreState → StoreState → Type 0) : Type 0 where
  pub number : ℕ
  pub is : slice_get keys number ≡ Some key
  pub back : Returned mount before after keys lost (Part mount number Cause)

-- why not all stores were formatted: the bay gave one not; or one failed in it, with this count; or memory ran out, and then
-- nothing was written on that one
abbrev pub FormatStops : Mount → BaySeen → BaySeen → List StoreKey → List StoreKey → Stop → Type 0
FormatStops mount before after keys lost (stops.Bay key) = NotTaken mount before after keys lost key
FormatStops mount before after keys lost (stops.Store key count) = BrokeOff mount before after keys lost key (FailedAt count)
FormatStops mount before after keys lost (stops.Image key place why) = ⊥
FormatStops mount before after keys lost stops.Memory = OutOfMemory mount before after keys lost ⊎ ((key : StoreKey) × BrokeOff mount before after keys lost key IsUntouched)

-- Fresh images were written on these stores, or not on all of them.
pub data SaysFormat (mount : Mount) (before after : BaySeen) (keys : List StoreKey) (text : List ℕ) (status : Status) : Type 0 where
  all_fresh : (lost : List StoreKey) → AreFormatted mount before after keys lost → text ≡ lost_text mount lost → status ≡ done_status lost → SaysFormat mount before after keys text status
  not_fresh : (stop : Stop) (lost : List StoreKey) → FormatStops mount before after keys lost stop → text ≡ stop_text mount stop lost → status ≡ stop_status stop → SaysFormat mount before after keys text status

-- The stores of a file were taken, with what became of them, and came back, but for those that are lost.
pub record FileTurned (mount : Mount) (before after : BaySeen) (file : ℕ) (lost : List StoreKey) (Becomes : FileSeen → FileSeen → Type 0) : Type 0 where
  pub old : FileSeen
  pub new : FileSeen
  pub file_is : old.file ≡ file
  pub of : IsFile mount old
  pub stores : Returned mount before after (stores_of_file (length mount.disks) file) lost (StandsAt old.stores new.stores)
  pub becomes : Becomes old new

-- The pages of a file were printed; or not, because its stores could not be taken, or for what became of them. Lines are told of the disks in
-- mirrors of a file that was opened.
pub data SaysDump (mount : Mount) (before after : BaySeen) (file : ℕ) (notices text : List ℕ) (status : Status) : Type 0 where
  printed : (pages : List (List ℕ)) (told : List (Option Notice)) (lost : List StoreKey) → FileTurned mount before after file lost (λ f g. IsRead mount told f g pages) → notices ≡ notice_lines mount file told
      → text ≡ page_lines 0 pages ++ lost_text mount lost → status ≡ done_status lost → SaysDump mount before after file notices text status
  not_taken : (stop : Stop) (lost : List StoreKey) → Untaken mount before after (stores_of_file (length mount.disks) file) lost stop → notices ≡ [] → text ≡ stop_text mount stop lost → status ≡ stop_status stop
      → SaysDump mount before after file notices text status
  not_printed : (stop : Stop) (told : List (Option Notice)) (lost : List StoreKey) → FileTurned mount before after file lost (λ f g. IsUnprinted mount told f g stop) → notices ≡ notice_lines mount file told
      → text ≡ stop_text mount stop lost → status ≡ stop_status stop → SaysDump mount before after file notices text status

-- the pages and a line for each store that is lost were written, or memory ran out for the text
abbrev pub PrintsPages : Mount → List (List ℕ) → List StoreKey → SinkSeen → SinkSeen → Status → Type 0
PrintsPages mount pages lost before after result =
    Finishes before after (page_lines 0 pages ++ lost_text mount lost) (done_status lost) result ⊎ Finishes before after (stop_text mount stops.Memory lost) statuses.Memory result
