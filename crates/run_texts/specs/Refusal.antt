-- Why a command ends before a store is taken, and what it writes then.
use Rattle.std.specs.Prelude.{◌≡◌, ℕ, List, [], ◌∷◌, ◌++◌, codes, Some, None, Err}
use Rattle.std.specs.Fmt.{decimal}
use Rattle.text_words.specs.Lines.{line_of}
use Rattle.script_text.specs.declared.script.Script.{Script}
use Rattle.script_text.specs.Grammar.{IsScript, spelling}
use Rattle.script_text.specs.Reading.{script_at}
use Rattle.script_text.specs.Why.{why_word}
use Rattle.spr_io.specs.Causes.{Rose}
use Rattle.spr_io.specs.Texts.{ShelfSeen}
use Rattle.stack_text.specs.declared.stack.StackLine.{StackLine}
use Rattle.stack_text.specs.declared.stack.StackText.{StackText}
use Rattle.stack_text.specs.Reading.{stack_at}
use Rattle.stack_text.specs.Why.{word_of}
use Rattle.stack_accept.specs.Mount.{Mount}
use Rattle.stack_accept.specs.Rules.{first_breach}
use Rattle.script_meaning.specs.Stack.{file_named}
use Rattle.spr_report.specs.declared.status.Status.{Status}
use Rattle.spr_report.specs.declared.status.Status.TheVariants as statuses
use Rattle.idl_reader.specs.Why.{word_of as idl_word}
use Rattle.idl_check.specs.Why.{word_of as unfit_word}
use Rattle.run_texts.specs.OperationNames.{full_name}
use Rattle.pager_channel.specs.declared.numbers.Ops.{Ops}
use Rattle.run_texts.specs.declared.texts.TheConstants.{TEXT_LIMIT}
use Rattle.run_texts.specs.declared.refusal.TextNames.{TextNames}
use Rattle.run_texts.specs.declared.refusal.Refusal.{Refusal}
use Rattle.run_texts.specs.declared.refusal.Refusal.TheVariants as refusals
use Rattle.run_texts.specs.Known.{unknown_line}
use Rattle.run_texts.specs.Stacks.{IsText, SpellsStack, IsMounted}
use Rattle.run_texts.specs.Interfaces.{HasInterfaces, IsInterfacesCause, IsOpsCause}

-- the names of the texts of a command; one that it does not have is empty
pub record Names : Type 0 where
  pub idl : List ℕ
  pub stack : List ℕ
  pub script : List ℕ

-- the same, as a call has them
abbrev pub names_of : TextNames → Names
names_of names = record { idl = names.idl.now; stack = names.stack.now; script = names.script.now }

-- the first line that breaks a rule, and the lowest rule that it breaks
abbrev pub Breaks : List StackLine → Refusal → Type 0
Breaks lines (refusals.Unfit line rule) = first_breach lines ≡ Some (record { rule = rule; line = line })
Breaks lines refusals.Memory = Unit {0}
Breaks lines refusal = ⊥

-- why a stack is refused: its first bad line and the first reason on it, or its first line that breaks a rule and the lowest
-- rule that this line breaks
abbrev pub RefusesStack : List ℕ → Refusal → Type 0
RefusesStack text (refusals.Stack line why) = stack_at text ≡ Err (record { line = line; why = why })
RefusesStack text (refusals.Unfit line rule) = (stack : StackText) × SpellsStack text stack × (first_breach stack.lines ≡ Some (record { rule = rule; line = line }))
RefusesStack text refusals.Memory = Unit {0}
RefusesStack text refusal = ⊥

-- a script that a text spells
pub record Spells (text : List ℕ) (script : Script) : Type 0 where
  pub is_script : IsScript script
  pub spelled : text ≡ spelling script

-- why a script is refused over a stack: its first bad line and the first reason on it; or, where no line is bad, the first line
-- that names what the stack does not have
abbrev pub RefusesScript : Mount → List ℕ → Refusal → Type 0
RefusesScript mount text (refusals.Script line why) = script_at text ≡ Err (record { line = line; why = why })
RefusesScript mount text (refusals.ScriptUnknown line) = (script : Script) × Spells text script × (unknown_line mount script ≡ Some line)
RefusesScript mount text refusals.Memory = Unit {0}
RefusesScript mount text refusal = ⊥

-- a script that a text spells, which names what the stack has
pub record Scripts (mount : Mount) (text : List ℕ) (script : Script) : Type 0 where
  pub spells : Spells text script
  pub known : unknown_line mount script ≡ None

-- the text of the name spells such a script
pub record HasScript (shelf : ShelfSeen) (name : List ℕ) (mount : Mount) (script : Script) : Type 0 where
  pub text : List ℕ
  pub text_is : IsText shelf TEXT_LIMIT name text
  pub scripts : Scripts mount text script

-- the texts of these names are interfaces with operations of these numbers, a stack that mounts so, and this script
pub record IsPrepared (shelf : ShelfSeen) (names : Names) (mount : Mount) (script : Script) (ops : Ops) : Type 0 where
  pub interfaces : HasInterfaces shelf names.idl ops
  pub stack_is : IsMounted shelf names.stack mount
  pub script_is : HasScript shelf names.script mount script

-- A refusal of a stack has its cause: a fault of the shelf, or its text. Without such a fault the shelf had none.
abbrev pub IsStackCause : ShelfSeen → ShelfSeen → List ℕ → Refusal → Type 0
IsStackCause before after stack refusals.StackShelf = Rose before.faults after.faults
IsStackCause before after stack refusals.Memory = after.faults ≡ before.faults
IsStackCause before after stack refusal = (after.faults ≡ before.faults) × ((text : List ℕ) × IsText before TEXT_LIMIT stack text × RefusesStack text refusal)

-- the stack of the name is mounted, and it refuses this script
abbrev pub RefusesOver : ShelfSeen → List ℕ → List ℕ → Refusal → Type 0
RefusesOver shelf stack name refusal =
    (mount : Mount) × IsMounted shelf stack mount × ((text : List ℕ) × IsText shelf TEXT_LIMIT name text × RefusesScript mount text refusal)

-- Behind interfaces a run's refusal has its cause: a stack that is refused; or, behind one that is mounted, a script that is refused,
-- or a fault of the shelf.
abbrev pub IsRunCause : ShelfSeen → ShelfSeen → List ℕ → List ℕ → Refusal → Type 0
IsRunCause before after stack name (refusals.Script line why) = (after.faults ≡ before.faults) × RefusesOver before stack name (refusals.Script line why)
IsRunCause before after stack name (refusals.ScriptUnknown line) = (after.faults ≡ before.faults) × RefusesOver before stack name (refusals.ScriptUnknown line)
IsRunCause before after stack name refusals.ScriptShelf = ((mount : Mount) × IsMounted before stack mount) × Rose before.faults after.faults
IsRunCause before after stack name refusal = IsStackCause before after stack refusal

-- A run's refusal has its cause: interfaces that are refused, or behind interfaces with each operation a stack or a script.
abbrev pub IsCause : ShelfSeen → ShelfSeen → Names → Refusal → Type 0
IsCause before after names (refusals.Idl place why) = IsInterfacesCause before after names.idl (refusals.Idl place why)
IsCause before after names (refusals.IdlUnfit place why) = IsInterfacesCause before after names.idl (refusals.IdlUnfit place why)
IsCause before after names (refusals.IdlMissing which) = IsOpsCause before after names.idl (refusals.IdlMissing which)
IsCause before after names refusals.IdlShelf = Rose before.faults after.faults
IsCause before after names refusals.Memory = after.faults ≡ before.faults
IsCause before after names refusal = ((ops : Ops) × HasInterfaces before names.idl ops) × IsRunCause before after names.stack names.script refusal

-- the stack of the name is mounted, and this is the number of its file of a name
pub record HasFile (shelf : ShelfSeen) (stack name : List ℕ) (mount : Mount) (file : ℕ) : Type 0 where
  pub stack_is : IsMounted shelf stack mount
  pub file_is : file_named mount name ≡ Some file

-- A file's refusal has its cause: a stack that is refused, or one that has no file of the name.
abbrev pub IsFileCause : ShelfSeen → ShelfSeen → List ℕ → List ℕ → Refusal → Type 0
IsFileCause before after stack name refusals.FileUnknown = (after.faults ≡ before.faults) × ((mount : Mount) × IsMounted before stack mount × (file_named mount name ≡ None))
IsFileCause before after stack name refusal = IsStackCause before after stack refusal

-- the first line or place of a text that is refused, and why
abbrev pub line_text : List ℕ → ℕ → List ℕ → List ℕ
line_text kind line word = line_of (kind ∷ decimal line ∷ word ∷ [])

-- a text that could not be read
abbrev pub shelf_text : List ℕ → List ℕ
shelf_text name = line_of (codes "shelf" ∷ name ∷ [])

-- an operation that interfaces lack
abbrev pub missing_text : List ℕ → List ℕ
missing_text name = line_of (codes "idl" ∷ codes "missing" ∷ name ∷ [])

-- the text of a refusal; if memory ran out it is empty
abbrev pub refusal_text : Names → Refusal → List ℕ
refusal_text names (refusals.Idl place why) = line_text (codes "idl") place (idl_word why)
refusal_text names (refusals.IdlUnfit place why) = line_text (codes "idl") place (unfit_word why)
refusal_text names (refusals.IdlMissing which) = missing_text (full_name which)
refusal_text names (refusals.Stack line why) = line_text (codes "stack") line (word_of why)
refusal_text names (refusals.Unfit line rule) = line_text (codes "stack") line (codes "A" ++ decimal rule)
refusal_text names (refusals.Script line why) = line_text (codes "script") line (why_word why)
refusal_text names (refusals.ScriptUnknown line) = line_text (codes "script") line (codes "unknown")
refusal_text names refusals.FileUnknown = line_of (codes "file" ∷ codes "unknown" ∷ [])
refusal_text names refusals.IdlShelf = shelf_text names.idl
refusal_text names refusals.StackShelf = shelf_text names.stack
refusal_text names refusals.ScriptShelf = shelf_text names.script
refusal_text names refusals.Memory = []

abbrev pub refusal_status : Refusal → Status
refusal_status refusals.IdlShelf = statuses.ShelfFault
refusal_status refusals.StackShelf = statuses.ShelfFault
refusal_status refusals.ScriptShelf = statuses.ShelfFault
refusal_status refusals.Memory = statuses.Memory
refusal_status refusal = statuses.Refused
