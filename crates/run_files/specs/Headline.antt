-- What a run promises of a file, read as the promise is: over all that a run says.
use Rattle.std.specs.Prelude.{◌≡◌, ℕ, List, slice_get, Option, Some, Contains}
use Rattle.hist_plain.specs.declared.event.Event.TheVariants.{Synced}
use Rattle.hist_plain.specs.declared.event.Keep.{Keep}
use Rattle.script_text.specs.declared.script.Script.{Script}
use Rattle.script_text.specs.declared.script.Said.{Said}
use Rattle.script_text.specs.declared.script.Reply.{Reply}
use Rattle.stack_accept.specs.Mount.{Mount}
use Rattle.spr_io.specs.Berth.{BaySeen}
use Rattle.spr_io.specs.Content.{Content}
use Rattle.tower_log.specs.declared.logged.Logged.{Logged}
use Rattle.tower_log.specs.Log.{trail_of}
use Rattle.script_meaning.specs.declared.store.StoreKey.{StoreKey}
use Rattle.script_meaning.specs.Log.{Histories, log_of}
use Rattle.file_stores.specs.Held.{StoreSeen}
use Rattle.file_stores.specs.Files.{FileSeen}
use Rattle.run_files.specs.Begun.{AnswersAs, Begun, IsFrom, IsLegalOver, Opening, begun_as}
use Rattle.run_files.specs.Leaves.{Store, TellsAll, live_of}
use Rattle.run_files.specs.Run.{Played}

-- a store keeps an image that has, page by page, the file as it was at some place from this one on
abbrev pub KeepsFrom : Begun → List Logged → ℕ → Option Content → Type 0
KeepsFrom b log from content = (c : Content) × (content ≡ Some c) × IsFrom b log from c.kept

-- THE HEADLINE of a file, by its one history and its live disks
pub record IsHeadline (mount : Mount) (file : ℕ) (log : List Logged) (f g : FileSeen) (live : List ℕ) : Type 0 where
  -- the bytes that the file began with
  pub opening : Opening
  -- every view is coherent over them: each event was allowed, and each copy has the newest bytes
  pub legal : IsLegalOver (begun_as mount file opening) log
  -- each access answers what one plain file answers at its place in the history
  pub answers : AnswersAs (begun_as mount file opening) log
  -- after a sync that was done every live store holds that history's bytes, as they were when the sync was called or later
  pub synced : (place caller number node from : ℕ) (keep : Keep) → slice_get (trail_of log) place ≡ Some (Synced caller number node from keep)
      → (disk : ℕ) (old new : StoreSeen) → Contains live disk → Store f g disk old new → KeepsFrom (begun_as mount file opening) log from new.state.content

-- each file of a run whose stores tell what they hold has it, on the disks that are live at the end; that the history begins with all that a caller had
-- seen, and holds its calls once each, is `Played` (fits)
abbrev pub Headline : Type 0
Headline = (mount : Mount) (loss : Option ℕ) (script : Script) (before after : BaySeen) (h : Histories) (said : List (List Said)) (closing : List Reply) (lost : List StoreKey) (notices : List ℕ) (played : Played mount loss script before after h said closing lost notices)
    → (file : ℕ) (f g : FileSeen) (at : slice_get played.olds file ≡ Some f) (to : slice_get played.news file ≡ Some g) → TellsAll f
    → IsHeadline mount file (log_of h.logs file) f g (live_of (played.leaves file f g at to).closed)
