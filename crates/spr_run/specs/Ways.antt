-- The ways in which a command ends, each with the text that it writes and its status. The line of the status follows the text.
use Rattle.std.specs.Prelude.{◌≡◌, ℕ, Bool, List, [], codes, Option, Some, None}
use Rattle.pager_channel.specs.declared.numbers.Ops.{Ops}
use Rattle.script_text.specs.declared.script.Script.{Script}
use Rattle.stack_accept.specs.Mount.{Mount}
use Rattle.spr_io.specs.Berth.{BaySeen}
use Rattle.spr_io.specs.Texts.{ShelfSeen, SinkSeen}
use Rattle.spr_report.specs.declared.status.Status.{Status}
use Rattle.spr_report.specs.declared.status.Status.TheVariants as statuses
use Rattle.spr_run.specs.declared.words.Asked.TheVariants.{Run, Gen, Check, Format, Dump, Disks, Idl}
use Rattle.spr_run.specs.Asked.{asked}
use Rattle.file_stores.specs.Keys.{stores_of}
use Rattle.file_stores.specs.Written.{WrittenBeside}
use Rattle.image_looks.specs.Disks.{SaysDisks}
use Rattle.image_commands.specs.Says.{SaysFormat, SaysDump}
use Rattle.run_texts.specs.declared.refusal.Refusal.{Refusal}
use Rattle.run_texts.specs.Stacks.{IsMounted, IsTreeOf}
use Rattle.run_texts.specs.Interfaces.{AreTablesOf, IsInterfacesCause}
use Rattle.run_texts.specs.Refusal.{Names, HasFile, IsPrepared, IsStackCause, IsFileCause, IsCause, refusal_text, refusal_status}
use Rattle.run_texts.specs.Generated.{Generation, IsGenerated, IsGenerationCause}
use Rattle.run_files.specs.Run.{SaysRun, traced_by}
use Rattle.run_files.specs.Sums.{SaysSum}

-- what was told of the shelf and the bay before a command, and after it
pub record Outside : Type 0 where
  pub shelf : ShelfSeen
  pub shelf_after : ShelfSeen
  pub bay : BaySeen
  pub bay_after : BaySeen

abbrev pub outside : ShelfSeen → ShelfSeen → BaySeen → BaySeen → Outside
outside shelf shelf_after bay bay_after = record { shelf = shelf; shelf_after = shelf_after; bay = bay; bay_after = bay_after }

-- nothing happened at the bay
abbrev pub IsIdle : Outside → Type 0
IsIdle o = o.bay_after ≡ o.bay

-- nor at the shelf
abbrev pub IsUntouched : Outside → Type 0
IsUntouched o = (o.shelf_after ≡ o.shelf) × IsIdle o

-- the name of a stack or of interfaces, without others
abbrev pub only_stack : List ℕ → Names
only_stack stack = record { idl = []; stack = stack; script = [] }

abbrev pub only_idl : List ℕ → Names
only_idl idl = record { idl = idl; stack = []; script = [] }

-- a command that is refused, for a reason of which this holds
pub record Refuses (Cause : Refusal → Type 0) (names : Names) (text : List ℕ) (status : Status) : Type 0 where
  pub why : Refusal
  pub cause : Cause why
  pub text_is : text ≡ refusal_text names why
  pub status_is : status ≡ refusal_status why

-- `check`: the stack can be mounted, and the text is its tree; or it is refused, or could not be read
pub data SaysCheck (stack : List ℕ) (shelf after : ShelfSeen) (text : List ℕ) (status : Status) : Type 0 where
  mounts : IsTreeOf shelf stack text → after.faults ≡ shelf.faults → status ≡ statuses.Good → SaysCheck stack shelf after text status
  unchecked : Refuses (IsStackCause shelf after stack) (only_stack stack) text status → SaysCheck stack shelf after text status

-- `idl`: the interfaces fit together, and the text is that of their tables; or they are refused, or could not be read
pub data SaysTables (idl : List ℕ) (shelf after : ShelfSeen) (text : List ℕ) (status : Status) : Type 0 where
  prints : AreTablesOf shelf idl text → after.faults ≡ shelf.faults → status ≡ statuses.Good → SaysTables idl shelf after text status
  untabled : Refuses (IsInterfacesCause shelf after idl) (only_idl idl) text status → SaysTables idl shelf after text status

-- `format`: the stores of the stack, by file and then by disk, were formatted, or not all of them; or the stack is refused
pub data SaysFormatted (stack : List ℕ) (o : Outside) (text : List ℕ) (status : Status) : Type 0 where
  formats : (mount : Mount) → IsMounted o.shelf stack mount → o.shelf_after.faults ≡ o.shelf.faults
      → SaysFormat mount o.bay o.bay_after (stores_of mount) text status → SaysFormatted stack o text status
  unformatted : IsIdle o → Refuses (IsStackCause o.shelf o.shelf_after stack) (only_stack stack) text status → SaysFormatted stack o text status

-- `dump`: the pages of the stack's file of the name were printed, or could not be; or the stack is refused, or has
-- no such file
pub data SaysDumped (stack name : List ℕ) (o : Outside) (notices text : List ℕ) (status : Status) : Type 0 where
  dumps : (mount : Mount) (file : ℕ) → HasFile o.shelf stack name mount file → o.shelf_after.faults ≡ o.shelf.faults
      → SaysDump mount o.bay o.bay_after file notices text status → SaysDumped stack name o notices text status
  undumped : IsIdle o → notices ≡ [] → Refuses (IsFileCause o.shelf o.shelf_after stack name) (only_stack stack) text status → SaysDumped stack name o notices text status

-- `disks`: what lies on each disk of each file of the stack was told, and no store's blocks changed; or memory ran out. Or the
-- stack is refused
pub data SaysListed (stack : List ℕ) (o : Outside) (text : List ℕ) (status : Status) : Type 0 where
  lists : (mount : Mount) → IsMounted o.shelf stack mount → o.shelf_after.faults ≡ o.shelf.faults
      → SaysDisks mount o.bay o.bay_after text status → SaysListed stack o text status
  unlisted : IsIdle o → Refuses (IsStackCause o.shelf o.shelf_after stack) (only_stack stack) text status → SaysListed stack o text status

-- `run`: the interfaces have each operation, and the script was run over the files of the stack, or they could not be opened; or
-- a text is refused, or could not be read. The report has the page messages if they are asked for; and
-- if a number is given, each client's calls to other machines go over a link that loses the packets whose number this one divides
pub data SaysRan (names : Names) (trace : Bool) (loss : Option ℕ) (o : Outside) (notices text : List ℕ) (status : Status) : Type 0 where
  runs : (mount : Mount) (script : Script) (ops : Ops) → IsPrepared o.shelf names mount script ops → o.shelf_after.faults ≡ o.shelf.faults
      → SaysRun mount loss script (traced_by ops trace) o.bay o.bay_after notices text status → SaysRan names trace loss o notices text status
  unrun : IsIdle o → notices ≡ [] → Refuses (IsCause o.shelf o.shelf_after names) names text status → SaysRan names trace loss o notices text status

-- the names of the texts of a command that makes its script
abbrev pub names_made : Generation → Names
names_made made = record { idl = made.idl; stack = made.stack; script = [] }

-- `gen`: the interfaces have each operation, and the script that the seed makes for the stack was run over its files and summed, or they could not be
-- opened or read; or a text is refused, or could not be read
pub data SaysGenerated (made : Generation) (o : Outside) (notices text : List ℕ) (status : Status) : Type 0 where
  generates : (mount : Mount) (script : Script) (ops : Ops) → IsGenerated o.shelf made mount script ops → o.shelf_after.faults ≡ o.shelf.faults
      → SaysSum mount None script o.bay o.bay_after notices text status → SaysGenerated made o notices text status
  ungenerated : IsIdle o → notices ≡ [] → Refuses (IsGenerationCause o.shelf o.shelf_after made) (names_made made) text status → SaysGenerated made o notices text status

abbrev pub usage_text : List ℕ
usage_text = codes "usage: spring run, gen, check, format, dump or idl\n"

-- The ways in which a command ends that tells nothing of disks in mirrors: memory ran out before the words were read; the words ask for no
-- command; or they ask for one, which ends in one of its own ways.
pub data SaysQuietly (words : List (List ℕ)) (o : Outside) (text : List ℕ) (status : Status) : Type 0 where
  unread : IsUntouched o → text ≡ [] → status ≡ statuses.Memory → SaysQuietly words o text status
  usage : asked words ≡ None → IsUntouched o → text ≡ usage_text → status ≡ statuses.Usage → SaysQuietly words o text status
  checked : (stack : List ℕ) → asked words ≡ Some (Check stack) → IsIdle o → SaysCheck stack o.shelf o.shelf_after text status → SaysQuietly words o text status
  tabled : (idl : List ℕ) → asked words ≡ Some (Idl idl) → IsIdle o → SaysTables idl o.shelf o.shelf_after text status → SaysQuietly words o text status
  formatted : (stack : List ℕ) → asked words ≡ Some (Format stack) → SaysFormatted stack o text status → SaysQuietly words o text status
  listed : (stack : List ℕ) → asked words ≡ Some (Disks stack) → SaysListed stack o text status → SaysQuietly words o text status

-- The ways in which a command ends, each with its notices, its text and its status.
pub data Says (words : List (List ℕ)) (o : Outside) (notices text : List ℕ) (status : Status) : Type 0 where
  quiet : notices ≡ [] → SaysQuietly words o text status → Says words o notices text status
  dumped : (stack name : List ℕ) → asked words ≡ Some (Dump stack name) → SaysDumped stack name o notices text status → Says words o notices text status
  generated : (made : Generation) → asked words ≡ Some (Gen made.idl made.stack made.seed made.calls) → SaysGenerated made o notices text status → Says words o notices text status
  ran : (names : Names) (trace : Bool) (loss : Option ℕ) → asked words ≡ Some (Run trace loss names.idl names.stack names.script) → SaysRan names trace loss o notices text status → Says words o notices text status

-- what the sinks of a command were told before it, and after it: of its text and status, and of notices
pub record Sinks : Type 0 where
  pub sink : SinkSeen
  pub sink_after : SinkSeen
  pub notices : SinkSeen
  pub notices_after : SinkSeen

abbrev pub sinks : SinkSeen → SinkSeen → SinkSeen → SinkSeen → Sinks
sinks sink sink_after notices notices_after = record { sink = sink; sink_after = sink_after; notices = notices; notices_after = notices_after }

-- How a command ends: in one of the ways, whose text and status are written, or the sink failed; its notices are offered to the sink of notices.
abbrev pub Ends : List (List ℕ) → Outside → Sinks → Status → Type 0
Ends words o s result = WrittenBeside (Says words o) s.sink s.sink_after s.notices s.notices_after result
