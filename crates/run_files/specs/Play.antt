-- What a script over the files did.
use Rattle.std.specs.Prelude.{◌≡◌, ℕ, suc, List, [], length, slice_get, Some, Option}
use Rattle.std.specs.List.{AllByRecursion}
use Rattle.hist_plain.specs.History.{IsNumbered}
use Rattle.script_text.specs.declared.script.Script.{Script}
use Rattle.script_text.specs.declared.script.Said.{Said}
use Rattle.script_text.specs.declared.script.Reply.{Reply}
use Rattle.script_text.specs.declared.script.Reply.TheVariants.{Done}
use Rattle.stack_accept.specs.Mount.{Mount}
use Rattle.tower_log.specs.Log.{trail_of}
use Rattle.tower_shows.specs.Began.{ArePagesOf}
use Rattle.name_context.specs.History.{NamesSeen, IsStory}
use Rattle.client_objects.specs.Views.{names_at_start}
use Rattle.script_meaning.specs.Log.{EndsSynced, Histories, items}
use Rattle.script_meaning.specs.Fits.{FitsScript, EachAnswered, IsEntryUpTo, IsUpTo}
use Rattle.stack_engine.specs.Engine.{EngineSeen, events_in, file_in, log_in, tree_in}
use Rattle.stack_engine.specs.Opened.{last_from}
use Rattle.stack_engine.specs.Tower.{TowerSeen}
use Rattle.spr_volume.specs.Passes.{AreBack, Knows, as_known, known, logs}
use Rattle.spr_client.specs.Calls.{histories}
use Rattle.run_phases.specs.Closing.{EndsQuietly}
use Rattle.run_files.specs.Begun.{Begun, Holds, Opening, file_then}

-- nothing was logged yet
abbrev pub IsUnwritten : TowerSeen → Type 0
IsUnwritten t = log_in t.engine ≡ []

-- each log and the names' history was made by callers up to this one, and numbers what they did
pub record AreMadeUpTo (last : ℕ) (h : Histories) : Type 0 where
  pub numbered : AllByRecursion (λ log. IsNumbered (trail_of log)) h.logs
  pub callers : AllByRecursion (λ log. AllByRecursion (IsUpTo last) (items log)) h.logs
  pub story : IsStory h.names.began h.names.history
  pub name_callers : AllByRecursion (IsEntryUpTo last) h.names.history

-- the names of a stack before any call
abbrev pub unnamed : Mount → NamesSeen
unnamed mount = record { began = names_at_start mount; history = [] }

-- THE PHASES AND THE CLOSING SYNCS, by what the pass of all callers knew before them and knows after them: what it knows fits the
-- script, if nobody else did anything; each line has its answer; and a file whose closing sync is done has nothing of the callers
-- behind the place that the sync is from
pub record IsPlayed (mount : Mount) (loss : Option ℕ) (script : Script) (p q : Knows) (said : List (List Said)) (closing : List Reply) : Type 0 where
  pub pass : q ≡ as_known p q
  pub fits : AreMadeUpTo (length script.clients) (histories mount q) → FitsScript mount loss script (histories mount p) (histories mount q) said closing
  pub answered : EachAnswered script said
  pub closed : (file : ℕ) → slice_get closing file ≡ Some Done → EndsQuietly p.first p.end (length script.clients) (known q file)
  pub said_each : length said ≡ length script.clients
  pub closing_each : length closing ≡ length mount.files

-- the file of an engine that began so
abbrev pub begun_in : EngineSeen → Opening → Begun
begun_in e opening = record { tree = tree_in e; page_size = (file_in e).page_size; pages = (file_in e).pages; opening = opening }

-- nothing changed a file behind the place of its last completed sync: pages that are its own from there on are those that it has now
pub record IsWhole (e : EngineSeen) : Type 0 where
  pub from : ℕ
  pub last : last_from (events_in e) ≡ Some from
  pub now : (opening : Opening) (ps : List (List ℕ)) → Holds (begun_in e opening) (log_in e) from ps → ArePagesOf (file_in e).page_size (length ps) (file_then (begun_in e opening) (events_in e)).bytes ps

-- a file that a caller's sync ended, and that nothing changed behind the place that the sync is from
pub record IsClosed (caller : ℕ) (t : TowerSeen) : Type 0 where
  pub ends : EndsSynced caller (events_in t.engine)
  pub whole : IsWhole t.engine

-- the logs and the answers fit the script, each line has its answer, and a file whose closing sync is done is closed
pub record ArePlayed (mount : Mount) (loss : Option ℕ) (script : Script) (before after : List TowerSeen) (names : NamesSeen) (said : List (List Said)) (closing : List Reply) : Type 0 where
  pub fits : AllByRecursion (λ log. IsNumbered (trail_of log)) (logs after) → FitsScript mount loss script (record { logs = logs before; names = unnamed mount }) (record { logs = logs after; names = names }) said closing
  pub answered : EachAnswered script said
  pub closed : (file : ℕ) (t : TowerSeen) → slice_get closing file ≡ Some Done → slice_get after file ≡ Some t → IsClosed (length script.clients) t
  pub later : AreBack (suc (length script.clients)) before after
  pub said_each : length said ≡ length script.clients
  pub closing_each : length closing ≡ length mount.files
