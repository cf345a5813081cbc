-- The ways in which a run ends, by what is to be written of it.
use Rattle.std.specs.Prelude.{ℕ, List, Option}
use Rattle.script_text.specs.declared.script.Script.{Script}
use Rattle.stack_accept.specs.Mount.{Mount}
use Rattle.pager_channel.specs.declared.numbers.Ops.{Ops}
use Rattle.spr_io.specs.Berth.{BaySeen}
use Rattle.spr_report.specs.declared.status.Status.{Status}
use Rattle.run_files.specs.declared.run.Wanted.{Wanted}
use Rattle.run_files.specs.declared.run.Wanted.TheVariants.{Report, Sum}
use Rattle.run_files.specs.Run.{SaysRun, traced_by}
use Rattle.run_files.specs.Sums.{SaysSum}

abbrev pub SaysWanted : Mount → Option ℕ → Script → Ops → Wanted → BaySeen → BaySeen → List ℕ → List ℕ → Status → Type 0
SaysWanted mount loss script ops (Report trace) before after = SaysRun mount loss script (traced_by ops trace) before after
SaysWanted mount loss script ops Sum before after = SaysSum mount loss script before after
