-- What one call does to a file's engine.
use Rattle.std.specs.Prelude.{◌≡◌, ℕ, ◌<◌, ◌≤◌, ◌==◌, List, [], ◌∷◌, ◌++◌, take, drop, length, unwrap_or, Some, None, if◌then◌else◌}
use Rattle.hist_plain.specs.declared.TheConstants.{MAX_EVENTS}
use Rattle.hist_plain.specs.declared.event.Event.{Event}
use Rattle.hist_plain.specs.declared.event.Event.TheVariants as events
use Rattle.hist_plain.specs.declared.event.Op.{Op}
use Rattle.hist_plain.specs.declared.event.Op.TheVariants as ops
use Rattle.hist_plain.specs.declared.event.Answer.{Answer}
use Rattle.hist_plain.specs.declared.event.Answer.TheVariants as answers
use Rattle.hist_plain.specs.Event.{node_of, page_of}
use Rattle.hist_plain.specs.History.{IsZeroPage, mine}
use Rattle.page_ground.specs.Seen.{IsFault}
use Rattle.tower_core.specs.declared.right.Right.{Right}
use Rattle.layer_laws.specs.Sent.{page_above}
use Rattle.layer_laws.specs.Side.{Side}
use Rattle.page_messages.specs.Written.{AreFramesFor}
use Rattle.page_exchange.specs.Ground.{IsCalmCall, IsOneCall}
use Rattle.page_exchange.specs.Tables.{AreLeft, CarriesDown, CarriesUp, IsSameFile}
use Rattle.tower_log.specs.declared.logged.Entry.{Entry}
use Rattle.tower_log.specs.declared.logged.Logged.TheVariants.{Entered, Noted}
use Rattle.tower_log.specs.Log.{place_of}
use Rattle.stack_engine.specs.declared.refusal.StepErr.{StepErr}
use Rattle.stack_engine.specs.declared.refusal.StepErr.TheVariants as errors
use Rattle.stack_engine.specs.Engine.{EngineSeen, column_in, events_in, file_in, log_in, reads_ground, sides_in, state_in, tree_in, wire_in}
use Rattle.stack_engine.specs.Messages.{NeedsDisks}
use Rattle.stack_engine.specs.Opened.{IsOf}

-- the engine is of the same file, and called its ground once at most
pub record Goes (old new : EngineSeen) : Type 0 where
  pub file : IsSameFile old.tables new.tables
  pub call : IsOneCall old.ground new.ground
  pub of : (opening : List ℕ) → IsOf opening old → IsOf opening new

-- one event was entered, without a fault
pub record Enters (entry : Entry) (old new : EngineSeen) : Type 0 where
  pub goes : Goes old new
  pub log : log_in new ≡ log_in old ++ Entered entry ∷ []
  pub calm : IsCalmCall old.ground new.ground

-- a grant that found zeros for a node that had nothing
pub record FindsZeros (old new : EngineSeen) (node page : ℕ) : Type 0 where
  pub nothing : (column_in old page).right node ≡ Right.Nothing
  pub zeros : IsZeroPage (file_in old).page_size (sides_in new page node).copy

-- the event that stands in the log for one that was asked for: such a grant is a ZeroFill, and everything else is itself
abbrev pub StandsFor : EngineSeen → EngineSeen → Event → Event → Type 0
StandsFor old new (events.PageIn node page write) event =
    (FindsZeros old new node page → event ≡ events.ZeroFill node page write) × ((FindsZeros old new node page → ⊥) → event ≡ events.PageIn node page write)
StandsFor old new asked event = event ≡ asked

-- the bytes that go with it: of a page that was read from the ground, the page as the node got it
abbrev pub bytes_kept : EngineSeen → EngineSeen → Event → List ℕ
bytes_kept old new (events.PageIn node page write) = if reads_ground old.tables node page then (sides_in new page node).copy else []
bytes_kept old new asked = []

-- what the event's node has of its page, by its own table; and what the node's parent has of it, where the ground's page is this
abbrev pub own_side : EngineSeen → Event → Side
own_side e event = sides_in e (unwrap_or (page_of event) 0) (node_of event)

abbrev pub page_over : EngineSeen → List ℕ → Event → List ℕ
page_over e base event = page_above (tree_in e) (sides_in e (unwrap_or (page_of event) 0)) base (node_of event)

-- THE PACKETS OF THE EVENT: an order goes down to the node, and its answer up; and a question goes up, and its answer down
abbrev pub AreCarried : EngineSeen → EngineSeen → Event → Type 0
AreCarried old new (events.FlushBack node page) = CarriesDown old.tables (wire_in new) node
AreCarried old new (events.DenyWrites node page) = CarriesDown old.tables (wire_in new) node
AreCarried old new (events.WriteBack node page) = CarriesDown old.tables (wire_in new) node
AreCarried old new (events.DeleteRange node page) = CarriesDown old.tables (wire_in new) node
AreCarried old new event = CarriesUp old.tables (wire_in new) (node_of event)

-- THE FRAMES OF THE EVENT went over the wire, as the two write them by what they had before it, in packets between two machines. A page that came
-- to a node that had nothing of it is the parent's
pub record GoesOver (old new : EngineSeen) (event : Event) : Type 0 where
  pub base : List ℕ
  pub came : (own_side old event).right ≡ Right.Nothing → (own_side new event).copy ≡ page_over old base event
  pub went : AreFramesFor (tree_in old) (state_in old) (wire_in new).ops (file_in old) (own_side old event) (page_over old base event) event (wire_in new).first (wire_in new).second
  pub carried : AreCarried old new event

-- a page message was sent in its two frames, and stands in the log. It calls the ground only if it needs it
pub record Sends (asked : Event) (old new : EngineSeen) (event : Event) : Type 0 where
  pub stands : StandsFor old new asked event
  pub frames : GoesOver old new event
  pub enters : Enters (record { event = event; answer = None; bytes = bytes_kept old new asked }) old new
  pub spare : new.trail.spare ≡ old.trail.spare
  pub idle : (NeedsDisks old asked → ⊥) → new.ground ≡ old.ground

-- why a call entered no event
abbrev pub IsWhy : ℕ → EngineSeen → EngineSeen → StepErr → Type 0
IsWhy caller old new (errors.StoreFault disk count) =
    (log_in new ≡ log_in old ++ Noted (record { caller = caller; disk = disk; count = count }) ∷ [])
    × IsFault old.ground new.ground (record { disk = disk; count = count })
IsWhy caller old new errors.TrailFull = (log_in new ≡ log_in old) × (MAX_EVENTS ≤ place_of (log_in old)) × (new.ground ≡ old.ground)
IsWhy caller old new errors.Memory = (log_in new ≡ log_in old) × (place_of (log_in old) < MAX_EVENTS) × IsCalmCall old.ground new.ground

-- A REFUSED CALL: every table and the ground's pages are as before
pub record IsRefused (caller : ℕ) (old new : EngineSeen) (err : StepErr) : Type 0 where
  pub goes : Goes old new
  pub tables : AreLeft old.tables new.tables
  pub pages : new.ground.pages ≡ old.ground.pages
  pub why : IsWhy caller old new err
  pub spare : new.trail.spare ≡ old.trail.spare

-- a caller's next event is its own
pub record IsCallers (e : EngineSeen) (caller number : ℕ) : Type 0 where
  pub next : number ≡ length (mine (events_in e) caller)

-- what an access that counts is answered
abbrev pub answer_if_current : Op → Answer
answer_if_current (ops.Read page off len) = answers.Bytes
answer_if_current op = answers.Done

-- WHAT AN ACCESS IS ANSWERED, where the node has this life now
abbrev pub answer_to : ℕ → ℕ → Op → Answer
answer_to now life ops.Open = answers.Life now
answer_to now life op = if life == now then answer_if_current op else answers.Revoked now

-- the bytes that it is answered with: a range of the node's own copy
abbrev pub bytes_to : EngineSeen → ℕ → ℕ → Op → List ℕ
bytes_to e node life (ops.Read page off len) = if life == (state_in e).life node then take len (drop off (sides_in e page node).copy) else []
bytes_to e node life op = []

-- an access was made, and stands in the log with its answer
pub record Makes (caller number node life : ℕ) (op : Op) (old new : EngineSeen) (answer : Answer) : Type 0 where
  pub is : answer ≡ answer_to ((state_in old).life node) life op
  pub enters : Enters (record { event = events.Access caller number node life op; answer = Some answer; bytes = bytes_to old node life op }) old new
  pub ground : new.ground ≡ old.ground
