-- What a call at a file of a volume does, and what a call on its names.
use Rattle.std.specs.Prelude.{◌≡◌, ◌≢◌, ℕ, List, Option, Result}
use Rattle.hist_plain.specs.declared.event.Event.{Event}
use Rattle.marshal_buf.specs.Held.{Held}
use Rattle.name_context.specs.declared.entry.NameCall.{NameCall}
use Rattle.name_context.specs.declared.entry.NameErr.{NameErr}
use Rattle.name_context.specs.Names.{Name}
use Rattle.stack_engine.specs.declared.refusal.StepErr.{StepErr}
use Rattle.spr_volume.specs.declared.answered.Answered.{Answered}
pub use Rattle.spr_volume.specs.FileCalls.{Called, Ends, IsAccess, IsEnd, IsSync}
use Rattle.spr_volume.specs.NamesCalls.{Called as NamesCalled}
pub use Rattle.spr_volume.specs.NamesCalls.{TellsNothing, TellsObject}
use Rattle.spr_volume.specs.Passes.{Knows, VolumeSeen, as_known, known}

-- a call at one of the files; of the others, and of the names, the pass knows what it knew
pub record CalledAt (file caller : ℕ) (IsIts : List Event → Event → Type 0) (old new : Knows) (out : List ℕ) (r : Result Answered StepErr) : Type 0 where
  pub pass : new ≡ as_known old new
  pub names : new.history ≡ old.history
  pub here : Called old.first old.end caller IsIts (known old file) (known new file) out r
  pub others : (other : ℕ) → other ≢ file → known new other ≡ known old other

-- a call on the names; of the files the pass knows what it knew
pub record CalledNames (v : VolumeSeen) (caller : ℕ) (call : NameCall) (path : Option (List (List ℕ))) (stored : Option Held) (Tells : List Name → Type 0) (old new : Knows) (refused : Option NameErr) : Type 0 where
  pub pass : new ≡ as_known old new
  pub files : new.logs ≡ old.logs
  pub here : NamesCalled v.names.began old.first old.end caller call path stored Tells old.history new.history refused
