-- How the text of a run was written.
use Rattle.std.specs.Prelude.{◌≡◌, ◌⊎◌, ℕ, List, Option}
use Rattle.script_text.specs.declared.script.Script.{Script}
use Rattle.script_text.specs.declared.script.Said.{Said}
use Rattle.script_text.specs.declared.script.Reply.{Reply}
use Rattle.stack_accept.specs.Mount.{Mount}
use Rattle.script_meaning.specs.declared.store.StoreKey.{StoreKey}
use Rattle.pager_channel.specs.declared.numbers.Ops.{Ops}
use Rattle.script_meaning.specs.Log.{Histories}
use Rattle.spr_report.specs.Report.{report}
use Rattle.spr_io.specs.Berth.{BaySeen}
use Rattle.spr_io.specs.Texts.{SinkSeen}
use Rattle.spr_report.specs.declared.status.Status.{Status}
use Rattle.spr_report.specs.declared.status.Status.TheVariants as statuses
use Rattle.spr_report.specs.Writing.{Finishes}
use Rattle.file_stores.specs.declared.stop.Stop.{Stop}
use Rattle.file_stores.specs.Stop.{lost_text, stop_text, stop_status}
use Rattle.run_files.specs.Run.{Halted}

-- the report and the status were written, or, if memory ran out for the report, a line for each store that is lost
abbrev pub Tells : Mount → Script → Option Ops → Histories → List (List Said) → List Reply → List StoreKey → Status → SinkSeen → SinkSeen → Status → Type 0
Tells mount script traced h said closing lost status before after result =
    Finishes before after (report mount script traced h.logs h.names.history said closing lost) status result
    ⊎ Finishes before after (lost_text mount lost) statuses.Memory result

-- the script was not run, and this is the text and the status
pub record Stopped (mount : Mount) (before after : BaySeen) (text : List ℕ) (status : Status) : Type 0 where
  pub stop : Stop
  pub lost : List StoreKey
  pub halted : Halted mount before after lost stop
  pub says : text ≡ stop_text mount stop lost
  pub ends : status ≡ stop_status stop
