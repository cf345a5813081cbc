-- What one hold of a file's lock does.
use Rattle.std.specs.Prelude.{◌≡◌, ℕ, List, ◌++◌, Result}
use Rattle.hist_plain.specs.declared.event.Event.{Event}
use Rattle.tower_log.specs.declared.logged.Logged.{Logged}
use Rattle.tower_log.specs.Log.{place_of, trail_of}
use Rattle.stack_engine.specs.declared.moved.Moved.{Moved}
use Rattle.stack_engine.specs.declared.refusal.StepErr.{StepErr}
use Rattle.spr_volume.specs.TowerCalls.{Moves}
use Rattle.spr_volume.specs.FilePasses.{FileSeat, Quietly}

-- the seat is as it was, but for the log that it knows, and for whether it ever took the value
abbrev pub IsSame : FileSeat → FileSeat → Type 0
IsSame old new = new ≡ record old { seen = new.seen; took = new.took }

-- ONE HOLD of a call: the log goes on without an entry of the range, and then the call makes one step, from this place
pub record Held (first end caller : ℕ) (event : List Event → Event) (old new : List Logged) (out : List ℕ) (r : Result Moved StepErr) (place : ℕ) : Type 0 where
  pub before : List Logged
  pub quietly : Quietly first end old before
  pub last : List Logged
  pub log : new ≡ before ++ last
  pub at : place ≡ place_of before
  pub moves : Moves caller (event (trail_of before)) before last out r
