-- What a call at a file of a volume does.
use Rattle.std.specs.Prelude.{◌≡◌, ◌≢◌, ℕ, ◌≤◌, List, [], ◌∷◌, ◌++◌, length, Result, Ok, Err}
use Rattle.hist_plain.specs.declared.event.Event.{Event}
use Rattle.hist_plain.specs.declared.event.Keep.{Keep}
use Rattle.hist_plain.specs.declared.event.Op.{Op}
use Rattle.tower_log.specs.declared.logged.Entry.{Entry}
use Rattle.tower_log.specs.declared.logged.Logged.{Logged}
use Rattle.tower_log.specs.declared.logged.Logged.TheVariants.{Entered}
use Rattle.tower_log.specs.Log.{place_of, trail_of}
use Rattle.stack_engine.specs.declared.refusal.StepErr.{StepErr}
use Rattle.stack_engine.specs.declared.ends.End.{End}
use Rattle.spr_volume.specs.TowerCalls.{IsAnswered, Refuses, access_of, end_of, sync_of}
use Rattle.spr_volume.specs.declared.answered.Answered.{Answered}
use Rattle.spr_volume.specs.FilePasses.{FilesKnown, Quietly, known, with_logs}

-- THE EVENT OF AN ACCESS, after these events: it has its caller's next number
abbrev pub IsAccess : ℕ → ℕ → ℕ → Op → List Event → Event → Type 0
IsAccess caller node life op trail event = event ≡ access_of caller node life op trail

-- THE EVENT OF A SYNC that is complete, after these events: it has its caller's next number, and is from a place of them that is
-- not before this one
pub record IsSync (caller node : ℕ) (keep : Keep) (least : ℕ) (trail : List Event) (event : Event) : Type 0 where
  pub from : ℕ
  pub least_is : least ≤ from
  pub reached : from ≤ length trail
  pub is : event ≡ sync_of caller node from keep trail

-- THE EVENT OF A REVOKE OR A RELEASE, after these events: it has its caller's next number
abbrev pub IsEnd : ℕ → ℕ → End → List Event → Event → Type 0
IsEnd caller node end trail event = event ≡ end_of caller node end trail

-- how a call ends: its event stands last in the log, at the place that is answered, with its answer; or it is refused
abbrev pub Ends : ℕ → (List Event → Event → Type 0) → List Logged → List Logged → List ℕ → Result Answered StepErr → Type 0
Ends caller IsIts before last out (Ok answered) =
    (entry : Entry) × (last ≡ Entered entry ∷ []) × IsIts (trail_of before) entry.event × IsAnswered entry.event answered.answer out entry
    × (answered.place ≡ place_of before)
Ends caller IsIts before last out (Err err) = Refuses caller before last err

-- A CALL of a caller of a range: the log goes on without an entry of the range, and then the call ends
pub record Called (first end caller : ℕ) (IsIts : List Event → Event → Type 0) (old new : List Logged) (out : List ℕ) (r : Result Answered StepErr) : Type 0 where
  pub before : List Logged
  pub quietly : Quietly first end old before
  pub last : List Logged
  pub log : new ≡ before ++ last
  pub ends : Ends caller IsIts before last out r

-- a call at one of the files; of the others the pass knows what it knew
pub record CalledAt (file caller : ℕ) (IsIts : List Event → Event → Type 0) (old new : FilesKnown) (out : List ℕ) (r : Result Answered StepErr) : Type 0 where
  pub pass : new ≡ with_logs old new.logs
  pub here : Called old.first old.end caller IsIts (known old file) (known new file) out r
  pub others : (other : ℕ) → other ≢ file → known new other ≡ known old other
