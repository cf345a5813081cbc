-- Accesses that touch no page, and reads that take no memory.
use Rattle.std.specs.Prelude.{◌≡◌, ◌≢◌, ℕ, ◌+◌, ◌<◌, Result, Err, OnOk}
use Rattle.hist_plain.specs.declared.event.Answer.{Answer}
use Rattle.hist_plain.specs.declared.event.Event.TheVariants as events
use Rattle.hist_plain.specs.declared.event.Op.{Op}
use Rattle.hist_plain.specs.declared.event.Op.TheVariants as ops
use Rattle.stack_engine.specs.declared.refusal.StepErr.{StepErr}
use Rattle.stack_engine.specs.declared.refusal.StepErr.TheVariants as errors
use Rattle.stack_engine.specs.Engine.{EngineSeen, IsNext, state_in}

-- an Open, or an access of another life, with its answer
abbrev pub IsStill : EngineSeen → ℕ → ℕ → Op → Answer → Type 0
IsStill e node life ops.Open answer = answer ≡ Answer.Life ((state_in e).life node)
IsStill e node life op answer = (life ≢ (state_in e).life node) × (answer ≡ Answer.Revoked ((state_in e).life node))

-- a read that counts
abbrev pub IsCurrentRead : EngineSeen → ℕ → ℕ → Op → Type 0
IsCurrentRead e node life (ops.Read page off len) = life ≡ (state_in e).life node
IsCurrentRead e node life op = ⊥

-- THE SPARE ROOM is for reads: each that was made has one less of it, and nothing else lowers it
pub record LowersSpare {A : Type 0} (node life : ℕ) (op : Op) (old new : EngineSeen) (r : Result A StepErr) : Type 0 where
  pub one : IsCurrentRead old node life op → 0 < old.trail.spare → OnOk r (new.trail.spare + 1 ≡ old.trail.spare)
  pub none : old.trail.spare ≡ 0 → new.trail.spare ≡ 0
  pub others : (IsCurrentRead old node life op → ⊥) → new.trail.spare ≡ old.trail.spare

-- READS THAT TAKE NO MEMORY: while there is spare room for them, they do not lack it
pub record SparesRead {A : Type 0} (node life : ℕ) (op : Op) (old new : EngineSeen) (r : Result A StepErr) : Type 0 where
  pub free : IsCurrentRead old node life op → 0 < old.trail.spare → r ≢ Err errors.Memory
  pub lowers : LowersSpare node life op old new r

-- ONE TRY OF AN ACCESS and the spare room: of one that is allowed this is said, and any other leaves it as it was
pub record SparesTry {A : Type 0} (caller number node life : ℕ) (op : Op) (old new : EngineSeen) (r : Result A StepErr) : Type 0 where
  pub allowed : IsNext old (events.Access caller number node life op) → SparesRead node life op old new r
  pub others : (IsNext old (events.Access caller number node life op) → ⊥) → new.trail.spare ≡ old.trail.spare
