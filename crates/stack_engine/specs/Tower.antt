-- What contracts see of a tower, and what its calls do.
use Rattle.std.specs.Prelude.{◌≡◌, ℕ, ◌<◌, List, [], length, Result, Some, None}
use Rattle.hist_plain.specs.declared.event.Answer.{Answer}
use Rattle.hist_plain.specs.declared.event.Event.{Event}
use Rattle.hist_plain.specs.declared.event.Event.TheVariants as events
use Rattle.hist_plain.specs.declared.event.Keep.{Keep}
use Rattle.hist_plain.specs.declared.event.Op.{Op}
use Rattle.hist_plain.specs.History.{mine}
use Rattle.tower_core.specs.declared.right.Right.{Right}
use Rattle.tower_core.specs.Trail.{IsSettled}
use Rattle.page_ground.specs.Seen.{AllKept}
use Rattle.stack_engine.specs.declared.ends.End.{End}
use Rattle.stack_engine.specs.declared.moved.Moved.{Moved}
use Rattle.stack_engine.specs.declared.moved.Moved.TheVariants.{Busy, Done, Stepped}
use Rattle.stack_engine.specs.declared.refusal.StepErr.{StepErr}
use Rattle.stack_engine.specs.declared.turns.Turn.{Turn}
use Rattle.stack_engine.specs.Accesses.{LowersSpare}
use Rattle.stack_engine.specs.Ended.{IsEnded}
use Rattle.stack_engine.specs.Engine.{EngineSeen, IsNext, column_in, events_in, file_in, tree_in}
use Rattle.stack_engine.specs.Messages.{IsPageMessage, NeedsDisks}
use Rattle.stack_engine.specs.Moves.{Enters, IsRefused, Makes, Sends}
use Rattle.stack_engine.specs.Plans.{IsLowestUnsettled, SettlesBy, StepsTo, Wants}
use Rattle.stack_engine.specs.Turns.{blocker, leaf_at, pushed_as, turns_stepping, without_turns}

-- the engine, and whose turn it is
pub record TowerSeen : Type 0 where
  pub engine : EngineSeen
  pub turns : List Turn

-- it is not allowed yet, and this event was entered for it
pub record Steps (caller node life : ℕ) (op : Op) (old new : TowerSeen) (event : Event) : Type 0 where
  pub page : ℕ
  pub want : Right
  pub asked : Event
  pub wants : Wants old.engine node life op page want
  pub steps : StepsTo old.engine node page want asked
  pub sends : Sends asked old.engine new.engine event
  pub free : blocker caller page (leaf_at (tree_in old.engine) node) old.turns ≡ None
  pub turns : new.turns ≡ turns_stepping caller page asked old.turns

-- it is not allowed yet, and another caller is before this one
pub record Waits (caller node life : ℕ) (op : Op) (old new : TowerSeen) (holder : ℕ) : Type 0 where
  pub page : ℕ
  pub want : Right
  pub asked : Event
  pub wants : Wants old.engine node life op page want
  pub steps : StepsTo old.engine node page want asked
  pub holder_is : blocker caller page (leaf_at (tree_in old.engine) node) old.turns ≡ Some holder
  pub same : new ≡ old

-- it is allowed, and was made
pub record Hits (caller number node life : ℕ) (op : Op) (old new : TowerSeen) (answer : Answer) : Type 0 where
  pub allowed : IsNext old.engine (events.Access caller number node life op)
  pub makes : Makes caller number node life op old.engine new.engine answer
  pub turns : new.turns ≡ without_turns caller old.turns

-- it was made, and answered so
abbrev pub IsDone : Answer → Moved → Type 0
IsDone wanted (Done answer) = answer ≡ wanted
IsDone wanted moved = ⊥

-- ONE TRY OF AN ACCESS
abbrev pub Advances : ℕ → ℕ → ℕ → ℕ → Op → TowerSeen → TowerSeen → Moved → Type 0
Advances caller number node life op old new (Done answer) = Hits caller number node life op old new answer
Advances caller number node life op old new (Stepped event) = Steps caller node life op old new event
Advances caller number node life op old new (Busy holder) = Waits caller node life op old new holder

-- a call that was refused gave up its caller's turns
pub record Fails (caller : ℕ) (old new : TowerSeen) (err : StepErr) : Type 0 where
  pub refused : IsRefused caller old.engine new.engine err
  pub turns : new.turns ≡ without_turns caller old.turns

-- a sync is done: every page was settled, the ground kept its pages in this call, and it stands in the log
pub record Syncs (caller number node from : ℕ) (keep : Keep) (old new : TowerSeen) (answer : Answer) : Type 0 where
  pub settled : (page : ℕ) → page < (file_in old.engine).pages → IsSettled from (column_in old.engine page)
  pub is : answer ≡ Answer.Done
  pub enters : Enters (record { event = events.Synced caller number node from keep; answer = Some Answer.Done; bytes = [] }) old.engine new.engine
  pub kept : AllKept new.engine.ground new.engine.ground.pages
  pub pages : new.engine.ground.pages ≡ old.engine.ground.pages
  pub turns : new.turns ≡ without_turns caller old.turns

-- a push of the lowest page that is not settled. It lowers no right where another caller has the page's turn
pub record Settles (caller node from : ℕ) (keep : Keep) (old new : TowerSeen) (event : Event) : Type 0 where
  pub page : ℕ
  pub lowest : IsLowestUnsettled old.engine from page
  pub settles : SettlesBy old.engine page node from (pushed_as caller page keep old.turns) event
  pub sends : Sends event old.engine new.engine event
  pub turns : new.turns ≡ old.turns

-- ONE TRY OF A SYNC. It waits for nobody
abbrev pub AdvancesSync : ℕ → ℕ → ℕ → ℕ → Keep → TowerSeen → TowerSeen → Moved → Type 0
AdvancesSync caller number node from keep old new (Done answer) = Syncs caller number node from keep old new answer
AdvancesSync caller number node from keep old new (Stepped event) = Settles caller node from keep old new event
AdvancesSync caller number node from keep old new (Busy holder) = ⊥

-- WHAT ONE STEP DOES, of an event that is allowed: a message is sent, an access is made, a sync is completed, or channels end
abbrev pub TakesStep : EngineSeen → EngineSeen → Event → Type 0
TakesStep old new (events.Access caller number node life op) = (answer : Answer) × Makes caller number node life op old new answer
TakesStep old new (events.Synced caller number node from keep) = Enters (record { event = events.Synced caller number node from keep; answer = Some Answer.Done; bytes = [] }) old new
    × AllKept new.ground new.ground.pages
TakesStep old new (events.DestroyCache caller number node) = IsEnded End.Destroy caller number node old new
TakesStep old new (events.DonePager caller number node) = IsEnded End.Done caller number node old new
TakesStep old new event = (stands : Event) × Sends event old new stands

-- an event that a step takes: its caller, if it has one, is the one that calls, and has this number next
abbrev pub IsStepOf : EngineSeen → ℕ → Event → Type 0
IsStepOf e caller (events.Access by number node life op) = (by ≡ caller) × (number ≡ length (mine (events_in e) caller))
IsStepOf e caller (events.Synced by number node from keep) = (by ≡ caller) × (number ≡ length (mine (events_in e) caller))
IsStepOf e caller (events.DestroyCache by number node) = (by ≡ caller) × (number ≡ length (mine (events_in e) caller))
IsStepOf e caller (events.DonePager by number node) = (by ≡ caller) × (number ≡ length (mine (events_in e) caller))
IsStepOf e caller event = IsPageMessage event

-- THE STEP NEEDS THE DISKS: a completed sync makes them keep their pages, and a message may need them
abbrev pub StepNeedsDisks : EngineSeen → Event → Type 0
StepNeedsDisks e (events.Synced caller number node from keep) = Unit {0}
StepNeedsDisks e event = NeedsDisks e event

-- the spare room after a step: only a read lowers it
abbrev pub SparesStep : {A : Type 0} → EngineSeen → EngineSeen → Event → Result A StepErr → Type 0
SparesStep old new (events.Access caller number node life op) r = LowersSpare node life op old new r
SparesStep old new event r = new.trail.spare ≡ old.trail.spare
