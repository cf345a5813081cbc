-- Some clients with a pass that has their numbers.
use Rattle.std.specs.Prelude.{◌≡◌, ℕ, ◌+◌, ◌<◌, ◌≤◌, List, [], ◌∷◌, ◌++◌, length, Option, Some, None, vec_capacity}
use Rattle.script_text.specs.declared.script.CallLine.{CallLine}
use Rattle.stack_accept.specs.Mount.{Mount}
use Rattle.spr_volume.specs.Passes.{VolumeSeen, with_range}
use Rattle.spr_client.specs.Lines.{AreCalls}
use Rattle.run_phases.specs.declared.parts.Part.{Part}
use Rattle.run_phases.specs.Workers.{AreReady, HaveRoom}
use Rattle.run_phases.specs.Phases.{IsReady, PhaseDone}

module _ {G : Type 0} where
  -- the clients may do the lines of a phase, and have room for the answers
  pub record MayRun (mount : Mount) (v : VolumeSeen) (lines : List CallLine) (part : Part G) : Type 0 where
    pub ready : IsReady mount v part.pass part.first part.workers.items
    pub calls : AreCalls mount lines
    pub room : HaveRoom (lines ∷ []) part.workers.items

  -- the clients did the lines of a phase
  pub record PartDone (mount : Mount) (lines : List CallLine) (old new : Part G) : Type 0 where
    pub first_same : new.first ≡ old.first
    pub done : PhaseDone mount lines old.first old.workers.items new.workers.items old.pass new.pass
    pub ready : AreReady mount old.first new.workers.items
    pub capacity : vec_capacity old.workers ≤ vec_capacity new.workers

  -- two halves of a part, neither empty; the lower one has room for the clients of both
  pub record AreHalves (whole low high : Part G) : Type 0 where
    pub workers : whole.workers.items ≡ low.workers.items ++ high.workers.items
    pub low_some : 0 < length low.workers.items
    pub high_some : 0 < length high.workers.items
    pub low_first : low.first ≡ whole.first
    pub high_first : high.first ≡ whole.first + length low.workers.items
    pub low_pass : low.pass ≡ with_range whole.pass whole.pass.first high.first
    pub high_pass : high.pass ≡ with_range whole.pass high.first whole.pass.end
    pub capacity : vec_capacity low.workers ≡ vec_capacity whole.workers

  -- how many clients a slot has
  abbrev pub slot_len : Option (Part G) → ℕ
  slot_len None = 0
  slot_len (Some part) = length part.workers.items

  -- a slot has a part that may run, of so many clients at most
  abbrev pub HasPart : Mount → VolumeSeen → List CallLine → ℕ → Option (Part G) → Type 0
  HasPart mount v lines most None = ⊥
  HasPart mount v lines most (Some part) = MayRun mount v lines part × (length part.workers.items ≤ most)

  -- the part in a slot did the lines of a phase
  abbrev pub SlotDone : Mount → List CallLine → Option (Part G) → Option (Part G) → Type 0
  SlotDone mount lines None new = ⊥
  SlotDone mount lines (Some old) None = ⊥
  SlotDone mount lines (Some old) (Some new) = PartDone mount lines old new
