-- What tells the messages of a file, and of which logs a report can tell.
use Rattle.std.specs.Prelude.{ℕ, ◌+◌, ◌<◌, ◌≤◌, List, [], ◌∷◌, length, Option, Some, None}
use Rattle.std.specs.List.{AllByRecursion}
use Rattle.hist_plain.specs.declared.event.Event.{Event}
use Rattle.hist_plain.specs.declared.TheConstants.{MAX_EVENTS}
use Rattle.tower_core.specs.TreeShape.{TreeShape}
use Rattle.tower_core.specs.Trail.{State, start, state_after, IsAllowed, IsRun}
use Rattle.tower_core.specs.Legal.{FitsFile}
use Rattle.pager_channel.specs.declared.numbers.Ops.{Ops}
use Rattle.page_messages.specs.declared.paged.PagedFile.{PagedFile}
use Rattle.tower_log.specs.declared.logged.Logged.{Logged}
use Rattle.tower_log.specs.Log.{trail_of, place_of}
use Rattle.spr_report.specs.declared.heads.Heads.{Heads}
use Rattle.spr_report.specs.Heads.{heads_of}
use Rattle.stack_accept.specs.declared.entries.FileEntry.{FileEntry}
use Rattle.stack_accept.specs.Mount.{Mount}

-- the tree, the file, the numbers of the operations, and the state so far
pub record Tracing : Type 0 where
  pub shape : TreeShape
  pub file : PagedFile
  pub ops : Ops
  pub state : State

-- the heads of an event, if it is a message
abbrev pub heads_by : Tracing → Event → Option Heads
heads_by t event = heads_of t.shape t.file t.ops t.state event

-- with one more event
abbrev pub with_event : Tracing → Event → Tracing
with_event t event = record t { state = state_after t.shape t.state event }

abbrev pub traced_after : Option Tracing → Event → Option Tracing
traced_after None event = None
traced_after (Some t) event = Some (with_event t event)

-- at the start of the log of a file; none, if messages are not traced
abbrev pub tracing_from : Mount → Option Ops → ℕ → FileEntry → Option Tracing
tracing_from mount None number file = None
tracing_from mount (Some ops) number file = Some (record {
  shape = mount.tree;
  file = record { number = number; page_size = mount.page_size; pages = file.pages };
  ops = ops;
  state = start;
})

-- the event stays in the file, may come next, and has a place
pub record IsNextOf (t : Tracing) (event : Event) : Type 0 where
  pub fits : FitsFile t.file.page_size t.file.pages event
  pub allowed : IsAllowed t.shape t.file.pages t.state event
  pub few : t.state.len < MAX_EVENTS

-- so are these events, each after those before it
pub record AreNextOf (t : Tracing) (events : List Event) : Type 0 where
  pub fits : AllByRecursion (FitsFile t.file.page_size t.file.pages) events
  pub run : IsRun t.shape t.file.pages t.state events
  pub few : t.state.len + length events ≤ MAX_EVENTS

-- WHAT A REPORT ASKS OF A LOG: each event stays in the file and was allowed where it stands, and there are no more of them than
-- a file may have
pub record IsReported (mount : Mount) (file : FileEntry) (log : List Logged) : Type 0 where
  pub fits : AllByRecursion (FitsFile mount.page_size file.pages) (trail_of log)
  pub run : IsRun mount.tree file.pages start (trail_of log)
  pub few : place_of log ≤ MAX_EVENTS

-- of a log for each file, in order
abbrev pub AreReported : Mount → List FileEntry → List (List Logged) → Type 0
AreReported mount [] [] = Unit {0}
AreReported mount [] (log ∷ logs) = ⊥
AreReported mount (file ∷ files) [] = ⊥
AreReported mount (file ∷ files) (log ∷ logs) = IsReported mount file log × AreReported mount files logs
