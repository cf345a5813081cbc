-- What a command reads that makes its script from a number, and why it ends before a store is taken.
use Rattle.std.specs.Prelude.{◌≡◌, ℕ, List}
use Rattle.script_text.specs.declared.script.Script.{Script}
use Rattle.script_gen.specs.Made.{generated}
use Rattle.stack_accept.specs.Mount.{Mount}
use Rattle.stack_seats.specs.Seats.{shape_of}
use Rattle.pager_channel.specs.declared.numbers.Ops.{Ops}
use Rattle.spr_io.specs.Causes.{Rose}
use Rattle.spr_io.specs.Texts.{ShelfSeen}
use Rattle.run_texts.specs.declared.refusal.Refusal.{Refusal}
use Rattle.run_texts.specs.declared.refusal.Refusal.TheVariants as refusals
use Rattle.run_texts.specs.Stacks.{IsMounted}
use Rattle.run_texts.specs.Interfaces.{HasInterfaces, IsInterfacesCause, IsOpsCause}
use Rattle.run_texts.specs.Refusal.{IsStackCause}

-- what such a run is asked for: the names of its texts, the seed of its script, and how many calls the second phase has
pub record Generation : Type 0 where
  pub idl : List ℕ
  pub stack : List ℕ
  pub seed : ℕ
  pub calls : ℕ

-- the texts of these names are interfaces with operations of these numbers and a stack that mounts so, and this is the script
-- that the seed makes for the stack's shape
pub record IsGenerated (shelf : ShelfSeen) (asked : Generation) (mount : Mount) (script : Script) (ops : Ops) : Type 0 where
  pub interfaces : HasInterfaces shelf asked.idl ops
  pub stack_is : IsMounted shelf asked.stack mount
  pub script_is : script ≡ generated (shape_of mount) asked.seed asked.calls

-- Such a run's refusal has its cause: interfaces that are refused, or behind interfaces with each operation a stack.
abbrev pub IsGenerationCause : ShelfSeen → ShelfSeen → Generation → Refusal → Type 0
IsGenerationCause before after asked (refusals.Idl place why) = IsInterfacesCause before after asked.idl (refusals.Idl place why)
IsGenerationCause before after asked (refusals.IdlUnfit place why) = IsInterfacesCause before after asked.idl (refusals.IdlUnfit place why)
IsGenerationCause before after asked (refusals.IdlMissing which) = IsOpsCause before after asked.idl (refusals.IdlMissing which)
IsGenerationCause before after asked refusals.IdlShelf = Rose before.faults after.faults
IsGenerationCause before after asked refusals.Memory = after.faults ≡ before.faults
IsGenerationCause before after asked refusal = ((ops : Ops) × HasInterfaces before asked.idl ops) × IsStackCause before after asked.stack refusal
