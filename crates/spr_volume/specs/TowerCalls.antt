-- What a caller asks for, and how far one try of it got.
use Rattle.std.specs.Prelude.{◌≡◌, ℕ, ◌<◌, ◌≤◌, List, [], ◌∷◌, ◌++◌, length, None, Some, Result, Ok, Err}
use Rattle.hist_plain.specs.declared.TheConstants.{MAX_EVENTS}
use Rattle.hist_plain.specs.declared.event.Answer.{Answer}
use Rattle.hist_plain.specs.declared.event.Answer.TheVariants as answers
use Rattle.hist_plain.specs.declared.event.Event.{Event}
use Rattle.hist_plain.specs.declared.event.Event.TheVariants as events
use Rattle.hist_plain.specs.declared.event.Keep.{Keep}
use Rattle.hist_plain.specs.declared.event.Op.{Op}
use Rattle.hist_plain.specs.Event.{caller_of}
use Rattle.hist_plain.specs.History.{mine}
use Rattle.tower_log.specs.declared.logged.Entry.{Entry}
use Rattle.tower_log.specs.declared.logged.Logged.{Logged}
use Rattle.tower_log.specs.declared.logged.Logged.TheVariants.{Entered, Noted}
use Rattle.tower_log.specs.Log.{place_of, trail_of}
use Rattle.stack_engine.specs.declared.ends.End.{End}
use Rattle.stack_engine.specs.declared.moved.Moved.{Moved}
use Rattle.stack_engine.specs.declared.moved.Moved.TheVariants.{Busy, Done, Stepped}
use Rattle.stack_engine.specs.declared.refusal.StepErr.{StepErr}
use Rattle.stack_engine.specs.declared.refusal.StepErr.TheVariants.{StoreFault, TrailFull, Memory}
use Rattle.stack_engine.specs.Ended.{event_ended}

-- the access that a caller makes after these events
abbrev pub access_of : ℕ → ℕ → ℕ → Op → List Event → Event
access_of caller node life op trail = events.Access caller (length (mine trail caller)) node life op

-- the sync that a caller completes after these events, from a place of them on
abbrev pub sync_of : ℕ → ℕ → ℕ → Keep → List Event → Event
sync_of caller node from keep trail = events.Synced caller (length (mine trail caller)) node from keep

-- the end of a layer's channels that a caller makes after these events: a revoke or a release
abbrev pub end_of : ℕ → ℕ → End → List Event → Event
end_of caller node end trail = event_ended end caller (length (mine trail caller)) node

-- the call's event with its answer; the bytes that were read are in `out`
pub record IsAnswered (event : Event) (answer : Answer) (out : List ℕ) (entry : Entry) : Type 0 where
  pub event_is : entry.event ≡ event
  pub answer_is : entry.answer ≡ Some answer
  pub bytes : answer ≡ answers.Bytes → entry.bytes ≡ out

-- what a call that is refused adds to the log: a failed store is noted; a full trail, or memory that ran out, adds nothing
abbrev pub Refuses : ℕ → List Logged → List Logged → StepErr → Type 0
Refuses caller before last (StoreFault disk count) = last ≡ Noted (record { caller = caller; disk = disk; count = count }) ∷ []
Refuses caller before last TrailFull = (last ≡ []) × (MAX_EVENTS ≤ place_of before)
Refuses caller before last Memory = (last ≡ []) × (place_of before < MAX_EVENTS)

-- the next step of a call, which adds this to the log: its event with its answer; a page message, which is nobody's; nothing, since
-- another caller is before it; or a refusal
abbrev pub Moves : ℕ → Event → List Logged → List Logged → List ℕ → Result Moved StepErr → Type 0
Moves caller event before last out (Ok (Done answer)) = (entry : Entry) × (last ≡ Entered entry ∷ []) × IsAnswered event answer out entry
Moves caller event before last out (Ok (Stepped message)) = (entry : Entry) × (last ≡ Entered entry ∷ []) × (entry.event ≡ message) × (caller_of message ≡ None)
Moves caller event before last out (Ok (Busy holder)) = last ≡ []
Moves caller event before last out (Err err) = Refuses caller before last err

-- ONE TRY of a call whose event, after the events so far, is this
pub record Tries (caller : ℕ) (event : List Event → Event) (old new : List Logged) (out : List ℕ) (r : Result Moved StepErr) : Type 0 where
  pub last : List Logged
  pub log : new ≡ old ++ last
  pub moves : Moves caller (event (trail_of old)) old last out r
