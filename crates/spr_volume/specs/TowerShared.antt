-- What contracts see of a tower that callers share.
use Rattle.std.specs.Prelude.{◌≡◌, ℕ, List, ◌++◌, length, Option, Some}
use Rattle.hist_plain.specs.Event.{caller_of}
use Rattle.tower_log.specs.declared.logged.Logged.{Logged}
use Rattle.tower_log.specs.declared.logged.Logged.TheVariants.{Entered, Noted}
use Rattle.stack_engine.specs.Engine.{EngineSeen, log_in}
use Rattle.stack_engine.specs.Opened.{AreAnswers, IsOf}
use Rattle.stack_engine.specs.Engine as engines
use Rattle.stack_engine.specs.Tower.{TowerSeen}
use Rattle.spr_volume.specs.Later.{IsLater}
use Rattle.spr_volume.specs.Needed.{AreNeeded}

-- the tower, and what it was when it was handed in
pub record SharedSeen : Type 0 where
  pub began : TowerSeen
  pub tower : TowerSeen

-- a tower that was handed in just now
abbrev pub shared : TowerSeen → SharedSeen
shared t = record { began = t; tower = t }

-- what holds of its parts: the tower is the one that was handed in, later on, and its log has this length
pub record IsShared (began now : EngineSeen) (logged : ℕ) : Type 0 where
  pub later : IsLater began now
  pub long : logged ≡ length (log_in now)

-- its log
abbrev pub log_of : SharedSeen → List Logged
log_of s = log_in s.tower.engine

-- the caller of an entry of the log, or none: a page message is nobody's
abbrev pub by : Logged → Option ℕ
by (Entered entry) = caller_of entry.event
by (Noted note) = Some note.caller

-- ANSWERS ARE THE PLAIN FILE'S: whatever bytes the file began with, each answer of this log is the plain file's at its place
abbrev pub IsPlain : EngineSeen → List Logged → Type 0
IsPlain began log = (opening : List ℕ) → IsOf opening began → AreAnswers (engines.tree_in began) (engines.file_in began).page_size opening log

-- MESSAGES ARE NEEDED: each page message that this log has more than the one that was handed in comes next for an access or for a sync
pub record IsNeeded (began : EngineSeen) (log : List Logged) : Type 0 where
  pub more : List Logged
  pub log_is : log ≡ log_in began ++ more
  pub needed : AreNeeded (engines.tree_in began) (engines.file_in began).pages (engines.events_in began) more
