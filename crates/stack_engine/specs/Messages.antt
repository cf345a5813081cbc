-- The page messages that an engine sends, as events.
use Rattle.std.specs.Prelude.{◌≡◌, ℕ, Bool, true, false, if◌then◌else◌, [], ◌∷◌, ◌++◌, IsSomeAnd}
use Rattle.hist_plain.specs.declared.event.Event.{Event}
use Rattle.hist_plain.specs.declared.event.Event.TheVariants as events
use Rattle.hist_plain.specs.Event.{page_of}
use Rattle.tower_core.specs.Trail.{step_of}
use Rattle.page_messages.specs.declared.kinds.Asked.{Asked}
use Rattle.page_messages.specs.declared.kinds.Called.{Called}
use Rattle.page_exchange.specs.declared.ground.GroundErr.{GroundErr}
use Rattle.page_exchange.specs.declared.ground.GroundErr.TheVariants as causes
use Rattle.page_exchange.specs.Steps.{NeedsGround}
use Rattle.tower_log.specs.declared.logged.Logged.TheVariants.{Noted}
use Rattle.tower_log.specs.Trail.{TrailSeen}
use Rattle.stack_engine.specs.declared.refusal.StepErr.{StepErr}
use Rattle.stack_engine.specs.declared.refusal.StepErr.TheVariants as errors
use Rattle.stack_engine.specs.Engine.{EngineSeen, file_in, reads_ground, sides_in, state_in, tree_in}

-- a message that a plan may name. A grant is asked for as a PageIn, whatever it finds
abbrev pub IsPageMessage : Event → Type 0
IsPageMessage (events.PageIn node page write) = Unit {0}
IsPageMessage (events.PageOut node page) = Unit {0}
IsPageMessage (events.WriteOut node page) = Unit {0}
IsPageMessage (events.SyncOut node page) = Unit {0}
IsPageMessage (events.FlushBack node page) = Unit {0}
IsPageMessage (events.DenyWrites node page) = Unit {0}
IsPageMessage (events.WriteBack node page) = Unit {0}
IsPageMessage (events.DeleteRange node page) = Unit {0}
IsPageMessage event = ⊥

-- THE EVENT NEEDS THE DISKS: it is a message that needs the ground
abbrev pub NeedsDisks : EngineSeen → Event → Type 0
NeedsDisks e event = IsSomeAnd (page_of event) (λ page. NeedsGround (tree_in e) (step_of (state_in e).life page event) (sides_in e page))

-- a question that sends a copy up where it is changed: a page that goes out of a leaf, or one of which a right is kept
abbrev pub IsPush : Asked → Type 0
IsPush Asked.PageOut = Unit {0}
IsPush Asked.WriteOut = Unit {0}
IsPush Asked.Sync = Unit {0}
IsPush what = ⊥

-- the event that a question is, once it is answered
abbrev pub event_asked : Asked → ℕ → ℕ → Event
event_asked Asked.PageInRead node page = events.PageIn node page false
event_asked Asked.PageInWrite node page = events.PageIn node page true
event_asked Asked.PageOut node page = events.PageOut node page
event_asked Asked.WriteOut node page = events.WriteOut node page
event_asked Asked.Sync node page = events.SyncOut node page
event_asked Asked.Done node page = events.PageOut node page

-- the event that an order is, once it is obeyed
abbrev pub event_called : Called → ℕ → ℕ → Event
event_called Called.FlushBack node page = events.FlushBack node page
event_called Called.DenyWrites node page = events.DenyWrites node page
event_called Called.WriteBack node page = events.WriteBack node page
event_called Called.DeleteRange node page = events.DeleteRange node page
event_called Called.Destroy node page = events.DeleteRange node page

-- the event that a grant is, by whether it found zeros for a node that had nothing
abbrev pub event_granted : Bool → ℕ → ℕ → Bool → Event
event_granted true node page write = events.ZeroFill node page write
event_granted false node page write = events.PageIn node page write

-- how many bytes are kept of a page that is granted: all, if it is read from the ground, and else none
abbrev pub kept_size : EngineSeen → ℕ → ℕ → ℕ
kept_size e node page = if reads_ground e.tables node page then (file_in e).page_size else 0

-- a store that failed is noted, and want of memory is not
abbrev pub Refuses : ℕ → TrailSeen → TrailSeen → GroundErr → StepErr → Type 0
Refuses caller old new (causes.Store fault) err =
    (err ≡ errors.StoreFault fault.disk fault.count)
    × (new.log ≡ old.log ++ Noted (record { caller = caller; disk = fault.disk; count = fault.count }) ∷ [])
    × (new ≡ record old { log = new.log; room = new.room })
Refuses caller old new causes.Memory err = (err ≡ errors.Memory) × (new ≡ old)
