-- How a command ends, from how its parts ended.
use Rattle.std.proofs.Common.{◌≡◌, ℕ, Bool, List, Option, Some, None, refl, subst}
use Rattle.pager_channel.specs.declared.numbers.Ops.{Ops}
use Rattle.script_text.specs.declared.script.Script.{Script}
use Rattle.stack_accept.specs.Mount.{Mount}
use Rattle.spr_io.specs.Texts.{SinkSeen}
use Rattle.spr_report.specs.declared.status.Status.{Status}
use Rattle.spr_report.specs.Writing.{Finishes}
use Rattle.spr_run.specs.declared.words.Asked.TheVariants.{Run, Gen, Check, Format, Dump, Disks, Idl}
use Rattle.spr_run.specs.Asked.{asked}
use Rattle.file_stores.specs.Keys.{stores_of}
use Rattle.file_stores.specs.Written.{Written, WrittenBeside}
use Rattle.file_stores.proofs.NoticeLaws.{written-alone}
use Rattle.image_looks.specs.Disks.{SaysDisks}
use Rattle.image_commands.specs.Says.{SaysFormat, SaysDump}
use Rattle.run_texts.specs.Stacks.{IsMounted}
use Rattle.run_texts.specs.declared.refusal.Refusal.{Refusal}
use Rattle.run_texts.specs.Refusal.{Names, HasFile, IsPrepared, IsCause, IsFileCause, refusal_text, refusal_status}
use Rattle.run_texts.specs.Generated.{Generation, IsGenerated, IsGenerationCause}
use Rattle.run_files.specs.Run.{SaysRun, traced_by}
use Rattle.run_files.specs.Sums.{SaysSum}
use Rattle.spr_run.specs.Ways.{Outside, IsIdle, Says, SaysQuietly, SaysCheck, SaysTables, SaysFormatted, SaysDumped, SaysListed, SaysGenerated, SaysRan, Ends, names_made, only_stack, sinks, formats, dumps, undumped, lists, generates, ungenerated, runs, unrun, checked, tabled, formatted, listed, quiet, dumped, generated, ran}

-- what was written so was one of the ways of a command
written-as : {P Q : List ℕ → Status → Type 0} (before after : SinkSeen) (result : Status) → ((text : List ℕ) (status : Status) → P text status → Q text status) → Written P before after result → Written Q before after result
written-as before after result to w = record { text = w.text; status = w.status; says = to w.text w.status w.says; ends = w.ends }

-- the same beside its notices
beside-as : {P Q : List ℕ → List ℕ → Status → Type 0} (before after heard hears : SinkSeen) (result : Status) → ((notices text : List ℕ) (status : Status) → P notices text status → Q notices text status)
    → WrittenBeside P before after heard hears result → WrittenBeside Q before after heard hears result
beside-as before after heard hears result to w = record { notices = w.notices; offered = w.offered; written = written-as before after result (to w.notices) w.written }

pub ends-formats : (stack : List ℕ) (o : Outside) (mount : Mount) (before after : SinkSeen) (result : Status) → IsMounted o.shelf stack mount → o.shelf_after.faults ≡ o.shelf.faults
    → Written (SaysFormat mount o.bay o.bay_after (stores_of mount)) before after result → Written (SaysFormatted stack o) before after result
ends-formats stack o mount before after result is calm w = written-as before after result (λ text status said. formats mount is calm said) w

pub ends-dumps : (stack name : List ℕ) (o : Outside) (mount : Mount) (file : ℕ) (before after heard hears : SinkSeen) (result : Status) → HasFile o.shelf stack name mount file → o.shelf_after.faults ≡ o.shelf.faults
    → WrittenBeside (SaysDump mount o.bay o.bay_after file) before after heard hears result → WrittenBeside (SaysDumped stack name o) before after heard hears result
ends-dumps stack name o mount file before after heard hears result has calm w = beside-as before after heard hears result (λ notices text status said. dumps mount file has calm said) w

-- a `dump` that is refused tells no notices
pub ends-undumped : (stack name : List ℕ) (o : Outside) (why : Refusal) (before after heard : SinkSeen) (result : Status) → IsIdle o → IsFileCause o.shelf o.shelf_after stack name why
    → Finishes before after (refusal_text (only_stack stack) why) (refusal_status why) result → WrittenBeside (SaysDumped stack name o) before after heard heard result
ends-undumped stack name o why before after heard result idle cause ends =
    written-alone (SaysDumped stack name o) before after heard result
    (record { text = refusal_text (only_stack stack) why; status = refusal_status why; says = undumped idle refl (record { why = why; cause = cause; text_is = refl; status_is = refl }); ends = ends })

pub ends-lists : (stack : List ℕ) (o : Outside) (mount : Mount) (before after : SinkSeen) (result : Status) → IsMounted o.shelf stack mount → o.shelf_after.faults ≡ o.shelf.faults
    → Written (SaysDisks mount o.bay o.bay_after) before after result → Written (SaysListed stack o) before after result
ends-lists stack o mount before after result is calm w = written-as before after result (λ text status said. lists mount is calm said) w

pub ends-runs : (names : Names) (trace : Bool) (loss : Option ℕ) (o : Outside) (mount : Mount) (script : Script) (ops : Ops) (before after heard hears : SinkSeen) (result : Status) → IsPrepared o.shelf names mount script ops → o.shelf_after.faults ≡ o.shelf.faults
    → WrittenBeside (SaysRun mount loss script (traced_by ops trace) o.bay o.bay_after) before after heard hears result → WrittenBeside (SaysRan names trace loss o) before after heard hears result
ends-runs names trace loss o mount script ops before after heard hears result prepared calm w = beside-as before after heard hears result (λ notices text status said. runs mount script ops prepared calm said) w

-- a run that is refused tells no notices
pub ends-unrun : (names : Names) (trace : Bool) (loss : Option ℕ) (o : Outside) (why : Refusal) (before after heard : SinkSeen) (result : Status) → IsIdle o → IsCause o.shelf o.shelf_after names why
    → Finishes before after (refusal_text names why) (refusal_status why) result → WrittenBeside (SaysRan names trace loss o) before after heard heard result
ends-unrun names trace loss o why before after heard result idle cause ends =
    written-alone (SaysRan names trace loss o) before after heard result
    (record { text = refusal_text names why; status = refusal_status why; says = unrun idle refl (record { why = why; cause = cause; text_is = refl; status_is = refl }); ends = ends })

pub ends-generates : (made : Generation) (o : Outside) (mount : Mount) (script : Script) (ops : Ops) (before after heard hears : SinkSeen) (result : Status) → IsGenerated o.shelf made mount script ops → o.shelf_after.faults ≡ o.shelf.faults
    → WrittenBeside (SaysSum mount None script o.bay o.bay_after) before after heard hears result → WrittenBeside (SaysGenerated made o) before after heard hears result
ends-generates made o mount script ops before after heard hears result is calm w = beside-as before after heard hears result (λ notices text status said. generates mount script ops is calm said) w

-- so does one that makes its script
pub ends-ungenerated : (made : Generation) (o : Outside) (why : Refusal) (before after heard : SinkSeen) (result : Status) → IsIdle o → IsGenerationCause o.shelf o.shelf_after made why
    → Finishes before after (refusal_text (names_made made) why) (refusal_status why) result → WrittenBeside (SaysGenerated made o) before after heard heard result
ends-ungenerated made o why before after heard result idle cause ends =
    written-alone (SaysGenerated made o) before after heard result
    (record { text = refusal_text (names_made made) why; status = refusal_status why; says = ungenerated idle refl (record { why = why; cause = cause; text_is = refl; status_is = refl }); ends = ends })

-- a command that tells nothing of disks in mirrors
pub ends-quietly : (words : List (List ℕ)) (o : Outside) (before after heard : SinkSeen) (result : Status) → Written (SaysQuietly words o) before after result → Ends words o (sinks before after heard heard) result
ends-quietly words o before after heard result w = written-alone (Says words o) before after heard result (written-as before after result (λ text status said. quiet refl said) w)

pub ends-check : (words : List (List ℕ)) (stack : List ℕ) (o : Outside) (before after heard : SinkSeen) (result : Status) → asked words ≡ Some (Check stack) → IsIdle o
    → Written (SaysCheck stack o.shelf o.shelf_after) before after result → Ends words o (sinks before after heard heard) result
ends-check words stack o before after heard result asks idle w = ends-quietly words o before after heard result (written-as before after result (λ text status said. checked stack asks idle said) w)

pub ends-tables : (words : List (List ℕ)) (idl : List ℕ) (o : Outside) (before after heard : SinkSeen) (result : Status) → asked words ≡ Some (Idl idl) → IsIdle o
    → Written (SaysTables idl o.shelf o.shelf_after) before after result → Ends words o (sinks before after heard heard) result
ends-tables words idl o before after heard result asks idle w = ends-quietly words o before after heard result (written-as before after result (λ text status said. tabled idl asks idle said) w)

pub ends-format : (words : List (List ℕ)) (stack : List ℕ) (o : Outside) (before after heard : SinkSeen) (result : Status) → asked words ≡ Some (Format stack)
    → Written (SaysFormatted stack o) before after result → Ends words o (sinks before after heard heard) result
ends-format words stack o before after heard result asks w = ends-quietly words o before after heard result (written-as before after result (λ text status said. formatted stack asks said) w)

pub ends-dump : (words : List (List ℕ)) (stack name : List ℕ) (o : Outside) (before after heard hears : SinkSeen) (result : Status) → asked words ≡ Some (Dump stack name)
    → WrittenBeside (SaysDumped stack name o) before after heard hears result → Ends words o (sinks before after heard hears) result
ends-dump words stack name o before after heard hears result asks w = beside-as before after heard hears result (λ notices text status said. dumped stack name asks said) w

pub ends-list : (words : List (List ℕ)) (stack : List ℕ) (o : Outside) (before after heard : SinkSeen) (result : Status) → asked words ≡ Some (Disks stack)
    → Written (SaysListed stack o) before after result → Ends words o (sinks before after heard heard) result
ends-list words stack o before after heard result asks w = ends-quietly words o before after heard result (written-as before after result (λ text status said. listed stack asks said) w)

pub ends-run : (words : List (List ℕ)) (names : Names) (trace : Bool) (loss : Option ℕ) (o : Outside) (before after heard hears : SinkSeen) (result : Status) → asked words ≡ Some (Run trace loss names.idl names.stack names.script)
    → WrittenBeside (SaysRan names trace loss o) before after heard hears result → Ends words o (sinks before after heard hears) result
ends-run words names trace loss o before after heard hears result asks w = beside-as before after heard hears result (λ notices text status said. ran names trace loss asks said) w

pub ends-generated : (words : List (List ℕ)) (made : Generation) (o : Outside) (before after heard hears : SinkSeen) (result : Status) → asked words ≡ Some (Gen made.idl made.stack made.seed made.calls)
    → WrittenBeside (SaysGenerated made o) before after heard hears result → Ends words o (sinks before after heard hears) result
ends-generated words made o before after heard hears result asks w = beside-as before after heard hears result (λ notices text status said. generated made asks said) w

-- the names that a command was made with are those that the words have
pub named-dump : {a b x y : List ℕ} (o : Outside) (before after heard hears : SinkSeen) (result : Status) → a ≡ b → x ≡ y
    → WrittenBeside (SaysDumped a x o) before after heard hears result → WrittenBeside (SaysDumped b y o) before after heard hears result
named-dump {b = b} {x = x} o before after heard hears result stack name w =
    subst (λ (n : List ℕ). WrittenBeside (SaysDumped b n o) before after heard hears result) name (subst (λ (s : List ℕ). WrittenBeside (SaysDumped s x o) before after heard hears result) stack w)
