-- What a sync made lasting, over any list of the program's sittings behind it.
use Rattle.std.specs.Prelude.{ℕ, ◌+◌, ◌<◌, Bool, false, List, [], ◌∷◌, ◌++◌}
use Rattle.stack_accept.specs.Mount.{Mount}
use Rattle.script_meaning.specs.Stack.{pages_of}
use Rattle.mirror_rules.specs.Tree.{Image, Store as Found, limit}
use Rattle.mirror_rules.specs.Claims.{Every}
use Rattle.mirror_rules.specs.Guards.{Direct, Within, Among}
use Rattle.mirror_rules.specs.History.{Chain, Comes, Lived, Rests, Sync, either, everywhere, images_at}
use Rattle.file_stores.specs.Files.{FileSeen}
use Rattle.file_stores.specs.Opening.{shape_of_file}
use Rattle.image_commands.specs.Read.{ArePagesIn, Looked}
use Rattle.run_files.specs.Leaves.{TellsAll}
use Rattle.run_files.specs.Promise.{ComesTo, HasCountedUp, StoresCome, Syncs, ToldRun, first_pages, history, left_by, live_first, live_then, number_of}
use Rattle.run_laws.specs.Sittings.{ComesAs, Sits}

-- SITTINGS SINCE A SYNC, in any order, over a file of so many pages: the file's histories since then; the images that its stores showed; those that count for the
-- next run; and those that count for the sync. Each may be over another stack: over mirrors, or over one disk of them. Between two sittings disks may be
-- lost, replaced, moved or put back. A dump of one disk alone, and a refusal of it, leave what its store holds, and are no steps
pub data SinceSync : ℕ → List (ℕ → ℕ → List ℕ) → (past next counts : List Image) → Type 0 where
  -- the run that completed the sync, in a chain, whatever was before
  sync_made : {s : Sync} {past next counts : List Image} {for_run for_sync : ℕ → Bool} {from : ℕ} (run : ToldRun) → Chain Direct (number_of run) s (Rests past next counts) → ComesTo run past next counts for_run for_sync
      → Syncs run from → run.leaves.closed.generation + 1 < limit
      → SinceSync (number_of run) (history run from ∷ []) (left_by run everywhere ++ past) (left_by run (live_then run) ++ []) (left_by run (live_then run) ++ [])
  -- a run that begins with a disk up that counts for it
  sync_ran : {Vs : List (ℕ → ℕ → List ℕ)} {past next counts : List Image} {for_run for_sync : ℕ → Bool} (run : ToldRun) → SinceSync (number_of run) Vs past next counts → ComesTo run past next counts for_run for_sync
      → run.leaves.closed.generation + 1 < limit
      → SinceSync (number_of run) (history run 0 ∷ Vs) (left_by run everywhere ++ past) (left_by run (live_then run) ++ []) (left_by run (either for_sync (live_first run)) ++ counts)
  -- a sitting that is no run
  sync_sat : {Vs : List (ℕ → ℕ → List ℕ)} {past next counts : List Image} {for_run for_sync run_then sync_then : ℕ → Bool} {ss ts : List Found} (mount : Mount) (f g : FileSeen) → SinceSync (pages_of mount f.file) Vs past next counts
      → TellsAll f → ComesAs mount f past next counts ss for_run for_sync → Sits mount f g for_run for_sync ts run_then sync_then
      → SinceSync (pages_of mount f.file) Vs (images_at everywhere ts ++ past) (images_at run_then ts ++ next) (images_at sync_then ts ++ counts)

-- such sittings are a chain
abbrev pub SittingsAreChains : Type 0
SittingsAreChains = (pages : ℕ) (Vs : List (ℕ → ℕ → List ℕ)) (past next counts : List Image) → SinceSync pages Vs past next counts → Chain Direct pages (Lived Vs []) (Rests past next counts)

-- OVER ANY NUMBER OF SITTINGS a run that has a disk up that counts for the sync begins with pages of those histories
abbrev pub RunsShowTheSync : Type 0
RunsShowTheSync = (run : ToldRun) (Vs : List (ℕ → ℕ → List ℕ)) (past next counts : List Image)
    → SinceSync (number_of run) Vs past next counts → StoresCome run past → HasCountedUp run.leaves.began.seen.row counts → Within (Among Vs) (first_pages run)

-- and a dump that has such a disk up has such pages
abbrev pub DumpsShowTheSync : Type 0
DumpsShowTheSync = (mount : Mount) (f g : FileSeen) (look : Looked mount false f g) (pages : List (List ℕ)) (are : ArePagesIn (shape_of_file mount f.file) look.opened pages) (tells : TellsAll f) (Vs : List (ℕ → ℕ → List ℕ)) (past next counts : List Image)
    → SinceSync (pages_of mount f.file) Vs past next counts → Every (Comes Direct (pages_of mount f.file) past) look.over.seen.stores_seen → HasCountedUp look.over.seen.row counts → Within (Among Vs) pages
