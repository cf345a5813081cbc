-- What closing syncs did.
use Rattle.std.specs.Prelude.{◌≡◌, ◌≢◌, ℕ, ◌<◌, ◌≤◌, List, [], ◌∷◌, ◌++◌, slice_get, Some}
use Rattle.hist_plain.specs.declared.event.Event.TheVariants as events
use Rattle.hist_plain.specs.declared.event.Keep.{Keep}
use Rattle.script_text.specs.declared.script.Reply.{Reply}
use Rattle.script_text.specs.declared.script.Reply.TheVariants as replies
use Rattle.stack_accept.specs.Mount.{Mount}
use Rattle.stack_accept.specs.declared.entries.FileEntry.{FileEntry}
use Rattle.tower_log.specs.Log.{place_of, trail_of}
use Rattle.tower_log.specs.declared.logged.Logged.{Logged}
use Rattle.script_meaning.specs.Log.{IsFull}
use Rattle.script_meaning.specs.Plan.{Made}
use Rattle.script_meaning.specs.Fits.{Did, Closes}
use Rattle.spr_volume.specs.Passes.{Knows, Quietly, known, as_known}
use Rattle.spr_client.specs.Calls.{histories}

-- A LOG ENDS WITH A SYNC of this caller, from a place behind which it has, but for that, entries of no caller of a range
pub record EndsQuietly (first end caller : ℕ) (log : List Logged) : Type 0 where
  pub start : List Logged
  pub before : List Logged
  pub quietly : Quietly first end start before
  pub number : ℕ
  pub node : ℕ
  pub from : ℕ
  pub keep : Keep
  pub from_is : place_of start ≤ from
  pub is : trail_of log ≡ trail_of before ++ events.Synced caller number node from keep ∷ []

-- the closing syncs were made, file by file, and answered so; no other caller of the pass did anything
pub record FilesClosed (mount : Mount) (closer : ℕ) (files : List FileEntry) (said : List Reply) (p q : Knows) : Type 0 where
  pub pass : q ≡ as_known p q
  pub made : List Made
  pub did : Did closer (histories mount p) (histories mount q) made
  pub closes : Closes (IsFull (histories mount q)) closer 0 files made said
  pub others : (other : ℕ) → other ≢ closer → p.first ≤ other → other < p.end → Did other (histories mount p) (histories mount q) []
  pub closed : (file : ℕ) → slice_get said file ≡ Some replies.Done → EndsQuietly p.first p.end closer (known q file)
