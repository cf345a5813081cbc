-- What a run does to the files of a stack and their stores, and what it writes.
use Rattle.std.specs.Prelude.{◌≡◌, ◌⊎◌, ℕ, ◌<◌, ◌≤◌, List, [], map, length, get_or, slice_get, Option, Some, None, Bool, if◌then◌else◌}
use Rattle.std.specs.List.{AllByRecursion}
use Rattle.hist_plain.specs.declared.TheConstants.{MAX_EVENTS}
use Rattle.script_text.specs.declared.script.Script.{Script}
use Rattle.script_text.specs.declared.script.Said.{Said}
use Rattle.script_text.specs.declared.script.Reply.{Reply}
use Rattle.script_text.specs.declared.script.Reply.TheVariants as replies
use Rattle.stack_accept.specs.Mount.{Mount}
use Rattle.tower_core.specs.Legal.{FitsFile}
use Rattle.tower_core.specs.Trail.{IsRun, start}
use Rattle.pager_channel.specs.declared.numbers.Ops.{Ops}
use Rattle.tower_log.specs.declared.logged.Logged.{Logged}
use Rattle.tower_log.specs.declared.logged.Logged.TheVariants.{Entered, Noted}
use Rattle.tower_log.specs.Log.{place_of, trail_of}
use Rattle.spr_volume.specs.Needed.{AreNeeded}
use Rattle.spr_volume.specs.Reads.{AreTakenBefore}
use Rattle.script_meaning.specs.declared.store.StoreKey.{StoreKey}
use Rattle.script_meaning.specs.Stack.{pages_of}
use Rattle.client_objects.specs.Views.{names_at_start}
use Rattle.script_meaning.specs.Log.{Histories, log_of, EndsSynced}
use Rattle.script_meaning.specs.Fits.{FitsScript, EachAnswered}
use Rattle.spr_io.specs.Berth.{BaySeen}
use Rattle.spr_report.specs.declared.status.Status.{Status}
use Rattle.spr_report.specs.declared.status.Status.TheVariants as statuses
use Rattle.spr_report.specs.Report.{report}
use Rattle.mirror_layer.specs.declared.came.Notice.{Notice}
use Rattle.file_stores.specs.Keys.{stores_of}
use Rattle.file_stores.specs.State.{Returned}
use Rattle.file_stores.specs.Files.{FileSeen, StandsAt, stores_in}
use Rattle.file_stores.specs.Notices.{all_notices}
use Rattle.run_files.specs.Begun.{AnswersAs, AnswersButBytes, HasAgain, HasPagesOf, IsSized, Opening, begun_as}
use Rattle.run_files.specs.Held.{AreFiles, AreSameFiles, Closes, IsUnheld}
use Rattle.run_files.specs.Leaves.{LeavesFile}
use Rattle.file_stores.specs.declared.stop.Stop.{Stop}
use Rattle.file_stores.specs.declared.stop.Stop.TheVariants as stops
use Rattle.file_stores.specs.Stop.{lost_text, stop_text, stop_status}
use Rattle.file_stores.specs.Stops.{Untaken}
use Rattle.run_files.specs.Ended.{status_of}

-- the numbers of the operations, if the page messages are traced
abbrev pub traced_by : Ops → Bool → Option Ops
traced_by ops trace = if trace then Some ops else None

-- a note is of one of so many disks
abbrev pub IsOfDisks : ℕ → Logged → Type 0
IsOfDisks disks (Entered entry) = Unit {0}
IsOfDisks disks (Noted note) = note.disk < disks

-- THE LOG OF A FILE, whatever its stores tell
pub record IsOfFile (mount : Mount) (file : ℕ) (log : List Logged) : Type 0 where
  -- each event was allowed where it stands, so that one writer or many readers had each page at each layer; and it stays in the file
  pub run : IsRun mount.tree (pages_of mount file) start (trail_of log)
  pub fits : AllByRecursion (FitsFile mount.page_size (pages_of mount file)) (trail_of log)
  -- there are no more events than a file may have, and each note is of a disk of the stack
  pub few : place_of log ≤ MAX_EVENTS
  pub notes : AllByRecursion (IsOfDisks (length mount.disks)) log
  -- whatever the file began with, each answer is the plain file's at its place, but for the bytes of a read
  pub answers : (opening : Opening) → AnswersButBytes (begun_as mount file opening) log
  -- over each file that has the pages which the log kept, and there those that were read again, the bytes are the plain file's too; and there is a file
  -- that has the pages which the log kept
  pub kept_file : (opening : Opening) × IsSized (begun_as mount file opening) × HasPagesOf (begun_as mount file opening) log
  pub kept_answers : (opening : Opening) → IsSized (begun_as mount file opening) → HasPagesOf (begun_as mount file opening) log → HasAgain (begun_as mount file opening) log → AnswersAs (begun_as mount file opening) log
  -- a page is read again only if the layer on the ground had to give it back or to forget it, so that its channels could end
  pub taken_before : AreTakenBefore mount.tree log
  -- no page message is needless: each comes next, where it stands, for an access, for a sync or for the end of a layer's channels
  pub needed : AreNeeded mount.tree (pages_of mount file) [] log

-- the files' logs, one for each; one whose closing sync is done ends with it
pub record AreOfFiles (mount : Mount) (closer : ℕ) (closing : List Reply) (logs : List (List Logged)) : Type 0 where
  pub number : length logs ≡ length mount.files
  pub each : (file : ℕ) → file < length mount.files → IsOfFile mount file (log_of logs file)
  pub ended : (file : ℕ) → slice_get closing file ≡ Some replies.Done → EndsSynced closer (trail_of (log_of logs file))

-- a log before its first entry
abbrev pub start_of : List Logged → List Logged
start_of log = []

-- what a run had done before its first phase: nothing, and the names are those of the stack
abbrev pub before_all : Mount → Histories → Histories
before_all mount h = record { logs = map start_of h.logs; names = record { began = names_at_start mount; history = [] } }

-- THE SCRIPT WAS RUN OVER THE FILES
pub record Played (mount : Mount) (loss : Option ℕ) (script : Script) (before after : BaySeen) (h : Histories) (said : List (List Said)) (closing : List Reply) (lost : List StoreKey) (notices : List ℕ) : Type 0 where
  -- the stores of each file as they were taken, and as they came back, but for those that were lost
  pub olds : List FileSeen
  pub news : List FileSeen
  pub of : AreFiles mount olds
  pub same : AreSameFiles olds news
  pub stores : Returned mount before after (stores_of mount) lost (StandsAt (stores_in olds) (stores_in news))
  -- what became of them, by the file's log and the answer of its closing sync; and what is told of the disks of each file, as lines by file and then by disk
  pub told : List (List (Option Notice))
  pub many_told : length told ≡ length olds
  pub leaves : (file : ℕ) (old new : FileSeen) → slice_get olds file ≡ Some old → slice_get news file ≡ Some new → LeavesFile mount (slice_get closing file) (log_of h.logs file) old new (get_or told file [])
  pub lines : notices ≡ all_notices mount told
  -- the files' logs; and these, the names' history and the answers fit the script, in which each line has its answer
  pub files : AreOfFiles mount (length script.clients) closing h.logs
  pub fits : FitsScript mount loss script (before_all mount h) h said closing
  pub answered : EachAnswered script said

-- All stores were taken, and the script was not run: the first files were opened and closed again; the next one could not be opened, and
-- those behind it came back as they were taken; or all were opened, and memory ran out.
pub record NotRun (mount : Mount) (before after : BaySeen) (lost : List StoreKey) (stop : Stop) : Type 0 where
  pub olds : List FileSeen
  pub news : List FileSeen
  pub of : AreFiles mount olds
  pub same : AreSameFiles olds news
  pub stores : Returned mount before after (stores_of mount) lost (StandsAt (stores_in olds) (stores_in news))
  pub number : ℕ
  pub opened : (file : ℕ) (old new : FileSeen) → file < number → slice_get olds file ≡ Some old → slice_get news file ≡ Some new → Closes mount old new
  pub refused : (old new : FileSeen) → slice_get olds number ≡ Some old → slice_get news number ≡ Some new → IsUnheld mount old new stop
  pub behind : (file : ℕ) (old new : FileSeen) → number < file → slice_get olds file ≡ Some old → slice_get news file ≡ Some new → new ≡ old
  pub all : (number < length mount.files) ⊎ ((number ≡ length mount.files) × (stop ≡ stops.Memory))

-- why a script is not run: the stores could not all be taken, or the files not be opened
pub data Halted (mount : Mount) (before after : BaySeen) (lost : List StoreKey) (stop : Stop) : Type 0 where
  untaken : Untaken mount before after (stores_of mount) lost stop → Halted mount before after lost stop
  unopened : NotRun mount before after lost stop → Halted mount before after lost stop

-- The ways in which a run ends over the files, each with its notices, its text and its status: the stores could not be taken or opened; the
-- script was run, and this is the report, with the page messages if they are traced; or it was run, and memory ran out for the
-- report.
pub data SaysRun (mount : Mount) (loss : Option ℕ) (script : Script) (traced : Option Ops) (before after : BaySeen) (notices text : List ℕ) (status : Status) : Type 0 where
  stopped : (stop : Stop) (lost : List StoreKey) → Halted mount before after lost stop
      → notices ≡ [] → text ≡ stop_text mount stop lost → status ≡ stop_status stop → SaysRun mount loss script traced before after notices text status
  reported : (h : Histories) (said : List (List Said)) (closing : List Reply) (lost : List StoreKey) → Played mount loss script before after h said closing lost notices
      → text ≡ report mount script traced h.logs h.names.history said closing lost → status ≡ status_of said closing lost → SaysRun mount loss script traced before after notices text status
  ran_out : (h : Histories) (said : List (List Said)) (closing : List Reply) (lost : List StoreKey) → Played mount loss script before after h said closing lost notices
      → text ≡ lost_text mount lost → status ≡ statuses.Memory → SaysRun mount loss script traced before after notices text status
