-- The sittings of a file over mirrors that are no runs: a dump, a refusal, and a file that was opened and closed again.
use Rattle.std.specs.Prelude.{ℕ, Bool, false, List, [], ◌++◌, Option}
use Rattle.script_text.specs.declared.script.Reply.{Reply}
use Rattle.stack_accept.specs.Mount.{Mount}
use Rattle.stack_accept.specs.Plan.{disks_in}
use Rattle.script_meaning.specs.Stack.{pages_of}
use Rattle.mirror_rules.specs.Tree.{Image, Store as Found}
use Rattle.mirror_rules.specs.Claims.{Every, Pairs}
use Rattle.mirror_rules.specs.Guards.{Direct, Within, Among}
use Rattle.mirror_rules.specs.History.{Chain, Comes, Joins, Lived, Marked, Moment, Rests, Sync, everywhere, images_at}
use Rattle.mirror_layer.specs.declared.refuse.Refusal.{Refusal}
use Rattle.mirror_layer.specs.Bringing.{Brought, RefusedOver}
use Rattle.file_stores.specs.Held.{StoreSeen}
use Rattle.file_stores.specs.Files.{FileSeen}
use Rattle.file_stores.specs.Opening.{content_of, faults_of, shape_of_file}
use Rattle.image_commands.specs.Read.{ArePagesIn, Looked}
use Rattle.tower_log.specs.declared.logged.Logged.{Logged}
use Rattle.mirror_layer.specs.declared.came.Notice.{Notice}
use Rattle.run_files.specs.Held.{ClosesGround}
use Rattle.run_files.specs.Leaves.{LeavesFile, TellsAll}
use Rattle.run_files.specs.Promise.{HasCountedUp}

-- the machine of mirrors sees these of the stores of a file, in the order of its ground
abbrev pub AreSeen : Mount → ℕ → List StoreSeen → List Found → Type 0
AreSeen mount file stores seen = Pairs (Brought content_of faults_of (shape_of_file mount file) stores) (disks_in mount.ground) seen

-- THE STORES COME TO A SITTING of a chain: each shows nothing, or an image that a store of the chain showed once; and these places count for the
-- next run, and for the sync that the chain is looked at for
pub record ComesAs (mount : Mount) (f : FileSeen) (past next counts : List Image) (ss : List Found) (for_run for_sync : ℕ → Bool) : Type 0 where
  pub seen : AreSeen mount f.file f.stores ss
  pub comes : Every (Comes Direct (pages_of mount f.file) past) ss
  pub marked : Marked next counts ss for_run for_sync

-- where a chain stands behind a sitting with no flush: all images that its stores show join the past; those at these places join the ones that
-- count for the next run, and for the sync
abbrev pub rests_with : List Image → List Image → List Image → List Found → (ℕ → Bool) → (ℕ → Bool) → Moment
rests_with past next counts ts for_run for_sync = Rests (images_at everywhere ts ++ past) (images_at for_run ts ++ next) (images_at for_sync ts ++ counts)

-- A SITTING OF A FILE THAT IS NO RUN, over stores of which these count for the next run and for the sync; what the machine sees of the stores behind it, and
-- which count then
pub data Sits (mount : Mount) (f g : FileSeen) (for_run for_sync : ℕ → Bool) : List Found → (run_then sync_then : ℕ → Bool) → Type 0 where
  -- a dump, also one that a read refused: if a disk that counts was up, all that are live behind its opening count too; and who counted counts on
  sits_looked : {refused : Bool} {ts : List Found} {run_then sync_then : ℕ → Bool} (look : Looked mount refused f g) → Joins for_run for_sync look.over.seen.row look.opened.row run_then sync_then → AreSeen mount f.file g.stores ts
      → Sits mount f g for_run for_sync ts run_then sync_then
  -- an opening that was refused, of a run or a dump, for whatever reason, also where memory ran out before a store was asked: who counted counts on, and no
  -- other
  sits_refused : {why : Refusal} {ts : List Found} → RefusedOver content_of faults_of (shape_of_file mount f.file) f.stores mount.ground why g.stores → AreSeen mount f.file g.stores ts → Sits mount f g for_run for_sync ts for_run for_sync
  -- a file that was opened and closed again, as a later one could not be opened, or memory ran out: as a dump, by what its closed ground reads
  sits_closed : {run_then sync_then : ℕ → Bool} (again : ClosesGround mount f g) → Joins for_run for_sync again.over.seen.row again.opened.row run_then sync_then → Sits mount f g for_run for_sync again.back.seen run_then sync_then

-- EACH OF THEM GOES ON WITH A CHAIN
abbrev pub SittingsGoOn : Type 0
SittingsGoOn = (mount : Mount) (f g : FileSeen) (tells : TellsAll f) (s : Sync) (past next counts : List Image) (ss ts : List Found) (for_run for_sync run_then sync_then : ℕ → Bool)
    → Chain Direct (pages_of mount f.file) s (Rests past next counts) → ComesAs mount f past next counts ss for_run for_sync → Sits mount f g for_run for_sync ts run_then sync_then
    → Chain Direct (pages_of mount f.file) s (rests_with past next counts ts run_then sync_then)

-- WHAT THE GROUND OF A FILE THAT WAS CLOSED AGAIN READS ON ITS STORES is what the machine sees of them
abbrev pub ClosedAreSeen : Type 0
ClosedAreSeen = (mount : Mount) (f g : FileSeen) (again : ClosesGround mount f g) → AreSeen mount f.file g.stores again.back.seen

-- and so is what that of a run reads
abbrev pub RunsAreSeen : Type 0
RunsAreSeen = (mount : Mount) (closing : Option Reply) (log : List Logged) (f g : FileSeen) (notices : List (Option Notice)) (run : LeavesFile mount closing log f g notices) → AreSeen mount f.file g.stores run.ended.seen

-- A DUMP SHOWS WHAT A SYNC MADE LASTING: in a chain one that read all pages, and had a disk up that counts for a sync, has pages that are versions of
-- them since that sync
abbrev pub EachSyncIsDumped : Type 0
EachSyncIsDumped = (mount : Mount) (f g : FileSeen) (look : Looked mount false f g) (pages : List (List ℕ)) (are : ArePagesIn (shape_of_file mount f.file) look.opened pages) (tells : TellsAll f) (Vs : List (ℕ → ℕ → List ℕ))
    (past next counts : List Image)
    → Chain Direct (pages_of mount f.file) (Lived Vs []) (Rests past next counts) → Every (Comes Direct (pages_of mount f.file) past) look.over.seen.stores_seen → HasCountedUp look.over.seen.row counts
    → Within (Among Vs) pages
