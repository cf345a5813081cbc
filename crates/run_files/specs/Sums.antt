-- The run of a generated script: the files are read before it, and in place of a report it is summed.
use Rattle.std.specs.Prelude.{◌≡◌, ◌⊎◌, ℕ, ◌<◌, ◌++◌, List, [], ◌∷◌, get_or, length, slice_get, Option, Some, None, IfSome}
use Rattle.hist_plain.specs.File.{Counted}
use Rattle.script_text.specs.declared.script.CallLine.{CallLine}
use Rattle.script_text.specs.declared.script.Reply.{Reply}
use Rattle.script_text.specs.declared.script.Said.{Said}
use Rattle.script_text.specs.declared.script.Script.{Script}
use Rattle.stack_accept.specs.Mount.{Mount}
use Rattle.script_meaning.specs.declared.store.StoreKey.{StoreKey}
use Rattle.script_meaning.specs.Log.{Histories, log_of}
use Rattle.spr_io.specs.Berth.{BaySeen}
use Rattle.spr_io.specs.Texts.{SinkSeen}
use Rattle.spr_report.specs.declared.status.Status.{Status}
use Rattle.spr_report.specs.declared.status.Status.TheVariants as statuses
use Rattle.spr_report.specs.Writing.{Finishes}
use Rattle.tower_log.specs.declared.logged.Logged.{Logged}
use Rattle.tower_log.specs.declared.logged.Logged.TheVariants.{Noted}
use Rattle.tower_log.specs.Log.{trail_of}
use Rattle.mirror_layer.specs.declared.came.Notice.{Notice}
use Rattle.mirror_layer.specs.Ground.{Ground, seen_of}
use Rattle.mirror_layer.specs.Bringing.{OpenedOver}
use Rattle.file_stores.specs.declared.stop.Stop.{Stop}
use Rattle.file_stores.specs.declared.stop.Stop.TheVariants as stops
use Rattle.file_stores.specs.Files.{FileSeen, StandsAt, stores_in}
use Rattle.file_stores.specs.Keys.{stores_of}
use Rattle.file_stores.specs.Notices.{all_notices}
use Rattle.file_stores.specs.Opening.{content_of, faults_of, shape_of_file}
use Rattle.file_stores.specs.State.{Returned}
use Rattle.file_stores.specs.Stop.{lost_text, stop_status, stop_text}
use Rattle.gen_summary.specs.Summary.{summary}
use Rattle.stack_engine.specs.Tower.{TowerSeen}
use Rattle.run_files.specs.Beginning.{AreUnread}
use Rattle.run_files.specs.Begun.{BeganAs, IsSized, Opening, begun_as, file_then}
use Rattle.run_files.specs.Ended.{status_of}
use Rattle.run_files.specs.Held.{AreFiles, AreSameFiles}
use Rattle.run_files.specs.Leaves.{LeavesFile}
use Rattle.run_files.specs.Run.{Halted, IsOfFile, Played}

-- the calls that are summed: those of the second phase
abbrev pub summed_calls : Script → List CallLine
summed_calls script = get_or script.phases 1 []

-- A FILE BEGAN WITH THESE BYTES, as its pages were read from the ground that its stores gave: if that tells its pages, they are these
pub record BeginsAs (mount : Mount) (f : FileSeen) (opening : Opening) : Type 0 where
  pub sized : IsSized (begun_as mount f.file opening)
  pub opened : Ground
  pub over : OpenedOver content_of faults_of (shape_of_file mount f.file) f.stores mount.ground opened
  pub began : IfSome (seen_of opened).pages (BeganAs (begun_as mount f.file opening))

-- THE FILE AT THE END is the plain file that began with what was read, after all events of its log
pub record EndsAs (mount : Mount) (f : FileSeen) (log : List Logged) (last : Counted) : Type 0 where
  pub opening : Opening
  pub begins : BeginsAs mount f opening
  pub is : last.file ≡ file_then (begun_as mount f.file opening) (trail_of log)

-- THE FILES WERE READ, AND THE SCRIPT WAS RUN OVER THEM; these are the files at the end
pub record Summed (mount : Mount) (loss : Option ℕ) (script : Script) (before after : BaySeen) (h : Histories) (said : List (List Said)) (closing : List Reply) (lost : List StoreKey) (notices : List ℕ) (lasts : List Counted) : Type 0 where
  pub played : Played mount loss script before after h said closing lost notices
  pub many : length lasts ≡ length mount.files
  pub ends : (file : ℕ) (f : FileSeen) (last : Counted) → slice_get played.olds file ≡ Some f → slice_get lasts file ≡ Some last → EndsAs mount f (log_of h.logs file) last

-- why a script was not run over open files: memory ran out, or one of them was not read
abbrev pub IsHalt : ℕ → List TowerSeen → Stop → Type 0
IsHalt caller news stop = (stop ≡ stops.Memory) ⊎ AreUnread caller news stop

-- why a script was not run over files that were opened: memory ran out, or a page of one could not be read for this caller, of which the log has the note
pub data IsUnplayed (caller : ℕ) (logs : List (List Logged)) (stop : Stop) : Type 0 where
  memory : stop ≡ stops.Memory → IsUnplayed caller logs stop
  unread : (file disk count : ℕ) → stop ≡ stops.Store (record { file = file; disk = disk }) count
      → log_of logs file ≡ Noted (record { caller = caller; disk = disk; count = count }) ∷ [] → IsUnplayed caller logs stop

-- ALL FILES WERE OPENED, and the script was not run over them. The logs have no event
pub record NotPlayed (mount : Mount) (caller : ℕ) (before after : BaySeen) (lost : List StoreKey) (stop : Stop) (notices : List ℕ) : Type 0 where
  pub logs : List (List Logged)
  pub why : IsUnplayed caller logs stop
  pub empty : (file : ℕ) → trail_of (log_of logs file) ≡ []
  pub number : length logs ≡ length mount.files
  pub files : (file : ℕ) → file < length mount.files → IsOfFile mount file (log_of logs file)
  -- the stores of each file as they were taken, and as they came back, but for those that were lost
  pub olds : List FileSeen
  pub news : List FileSeen
  pub of : AreFiles mount olds
  pub same : AreSameFiles olds news
  pub stores : Returned mount before after (stores_of mount) lost (StandsAt (stores_in olds) (stores_in news))
  -- what became of them, and what is told of the disks of each file
  pub told : List (List (Option Notice))
  pub many_told : length told ≡ length olds
  pub leaves : (file : ℕ) (old new : FileSeen) → slice_get olds file ≡ Some old → slice_get news file ≡ Some new → LeavesFile mount None (log_of logs file) old new (get_or told file [])
  pub lines : notices ≡ all_notices mount told

-- The ways in which the run of a generated script ends over the files, each with its notices, its text and its status: the stores could not be taken or
-- opened; the pages could not be read, or memory ran out before the script; the script was run, and this is its sum; or it was run, and
-- memory ran out for the sum.
pub data SaysSum (mount : Mount) (loss : Option ℕ) (script : Script) (before after : BaySeen) (notices text : List ℕ) (status : Status) : Type 0 where
  stopped : (stop : Stop) (lost : List StoreKey) → Halted mount before after lost stop
      → notices ≡ [] → text ≡ stop_text mount stop lost → status ≡ stop_status stop → SaysSum mount loss script before after notices text status
  unplayed : (stop : Stop) (lost : List StoreKey) → NotPlayed mount (length script.clients) before after lost stop notices
      → text ≡ stop_text mount stop lost → status ≡ stop_status stop → SaysSum mount loss script before after notices text status
  summed : (h : Histories) (said : List (List Said)) (closing : List Reply) (lost : List StoreKey) (lasts : List Counted) → Summed mount loss script before after h said closing lost notices lasts
      → text ≡ summary (summed_calls script) said lasts ++ lost_text mount lost → status ≡ status_of said closing lost → SaysSum mount loss script before after notices text status
  ran_out : (h : Histories) (said : List (List Said)) (closing : List Reply) (lost : List StoreKey) → Played mount loss script before after h said closing lost notices
      → text ≡ lost_text mount lost → status ≡ statuses.Memory → SaysSum mount loss script before after notices text status

-- the plain files that began with these bytes, each after all events of its log
pub record AreLasts (mount : Mount) (begun : List (List ℕ)) (logs : List (List Logged)) (lasts : List Counted) : Type 0 where
  pub many : length lasts ≡ length begun
  pub each : (file : ℕ) (bytes : List ℕ) (last : Counted) → slice_get begun file ≡ Some bytes → slice_get lasts file ≡ Some last
      → last.file ≡ file_then (begun_as mount file (record { bytes = bytes })) (trail_of (log_of logs file))

-- the sum and the status were written, or, if memory ran out for the sum, a line for each store that is lost
pub data SumTold (mount : Mount) (script : Script) (begun : List (List ℕ)) (logs : List (List Logged)) (said : List (List Said)) (lost : List StoreKey) (status : Status) (before after : SinkSeen) (result : Status) : Type 0 where
  told : (lasts : List Counted) → AreLasts mount begun logs lasts
      → Finishes before after (summary (summed_calls script) said lasts ++ lost_text mount lost) status result → SumTold mount script begun logs said lost status before after result
  untold : Finishes before after (lost_text mount lost) statuses.Memory result → SumTold mount script begun logs said lost status before after result
