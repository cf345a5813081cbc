-- What a sync made lasting, from one run to the next, on one disk as on disks in mirrors.
use Rattle.std.specs.Prelude.{◌≡◌, ℕ, ◌+◌, ◌<◌, ◌≤◌, Bool, List, [], ◌∷◌, ◌++◌, slice_get, Option, Some}
use Rattle.hist_plain.specs.declared.event.Event.{Event}
use Rattle.hist_plain.specs.declared.event.Event.TheVariants.{Synced}
use Rattle.hist_plain.specs.declared.event.Keep.{Keep}
use Rattle.script_text.specs.declared.script.Reply.{Reply}
use Rattle.script_text.specs.declared.script.Reply.TheVariants.{Done}
use Rattle.stack_accept.specs.Mount.{Mount}
use Rattle.script_meaning.specs.Stack.{pages_of}
use Rattle.disk_format.specs.declared.shape.ImageShape.{ImageShape}
use Rattle.tower_log.specs.declared.logged.Logged.{Logged}
use Rattle.tower_log.specs.Log.{trail_of}
use Rattle.stack_engine.specs.Opened.{last_from}
use Rattle.file_stores.specs.Held.{StoreSeen}
use Rattle.file_stores.specs.Files.{FileSeen}
use Rattle.file_stores.specs.Opening.{shape_of_file}
use Rattle.mirror_rules.specs.Tree.{Image, Cell, Seat, In, limit}
use Rattle.mirror_rules.specs.Claims.{Every, Nth}
use Rattle.mirror_rules.specs.Guards.{Direct, Within, Among, IsIn, live_at}
use Rattle.mirror_rules.specs.History.{Chain, Comes, Lived, Marked, Moment, Rests, Sync, Up, either, everywhere, images_at, lived}
use Rattle.mirror_layer.specs.declared.came.Notice.{Notice}
use Rattle.run_files.specs.Begun.{Begun, Holds, HoldsAll, begun_as, synced_from, versions}
use Rattle.run_files.specs.Leaves.{LeavesFile, OwesRaise, TellsAll}

-- A RUN OF A FILE over a stack, whose stores tell what they hold
pub record ToldRun : Type 0 where
  pub mount : Mount
  pub closing : Option Reply
  pub log : List Logged
  pub before : FileSeen
  pub after : FileSeen
  pub notices : List (Option Notice)
  pub leaves : LeavesFile mount closing log before after notices
  pub tells : TellsAll before

-- the shape of the file's image, and how many pages that has
abbrev pub shape_of : ToldRun → ImageShape
shape_of run = shape_of_file run.mount run.before.file

abbrev pub number_of : ToldRun → ℕ
number_of run = pages_of run.mount run.before.file

-- the file and its beginning, and the pages that it began with
abbrev pub file_of : ToldRun → Begun
file_of run = begun_as run.mount run.before.file (run.leaves.told run.tells).opening

abbrev pub first_pages : ToldRun → List (List ℕ)
first_pages run = (run.leaves.told run.tells).is.pages

-- its history in the run, from a place of its log on
abbrev pub history : ToldRun → ℕ → ℕ → ℕ → List ℕ
history run from = versions (file_of run) run.log from

-- a run completed a sync, the last one from this place on
abbrev pub Syncs : ToldRun → ℕ → Type 0
Syncs run from = last_from (trail_of run.log) ≡ Some from

-- EACH SYNC COUNTS: the place that a completed sync is from is not behind the latest, from which on a disk keeps and shows the file
abbrev pub EachSyncCounts : Type 0
EachSyncCounts = (trail : List Event) (place caller number node from : ℕ) (keep : Keep) → slice_get trail place ≡ Some (Synced caller number node from keep) → (latest : ℕ) × (last_from trail ≡ Some latest) × (from ≤ latest)

-- A RUN OVER THE ONLY STORE THAT ANOTHER LEFT: it holds what it was left with. The stack may be another
pub record Follows (run next : ToldRun) : Type 0 where
  pub left : StoreSeen
  pub came : StoreSeen
  pub left_is : run.after.stores ≡ left ∷ []
  pub came_is : next.before.stores ≡ came ∷ []
  pub same : came.state.content ≡ left.state.content
  pub shape : shape_of next ≡ shape_of run

-- A FILE ON ONE DISK FROM ONE RUN TO THE NEXT: a run over the store that another left begins, page by page, with the file as it was at the last
-- sync that the other one completed, or later; and if its closing sync was done, with the whole file.
abbrev pub NextBegins : Type 0
NextBegins = (run next : ToldRun) → Follows run next
    → Holds (file_of run) run.log (synced_from run.log) (first_pages next) × (run.closing ≡ Some Done → HoldsAll (file_of run) run.log (first_pages next))

-- RUNS OF A FILE ON ONE DISK SINCE A SYNC: its histories since then, and the last of them
pub data SinceSyncOnDisk : List (ℕ → ℕ → List ℕ) → ToldRun → Type 0 where
  disk_synced : {from : ℕ} (run : ToldRun) → Syncs run from → SinceSyncOnDisk (history run from ∷ []) run
  disk_ran : {Vs : List (ℕ → ℕ → List ℕ)} {last : ToldRun} → SinceSyncOnDisk Vs last → (run : ToldRun) → Follows last run → SinceSyncOnDisk (history run 0 ∷ Vs) run

-- OVER ANY NUMBER OF RUNS: each begins the file with pages of those histories
abbrev pub DiskLastsOn : Type 0
DiskLastsOn = (Vs : List (ℕ → ℕ → List ℕ)) (last next : ToldRun) → SinceSyncOnDisk Vs last → Follows last next → Within (Among Vs) (first_pages next)

-- the disks of a run that are live when it ends, by their places; and those that were when its ground was opened
abbrev pub live_then : ToldRun → ℕ → Bool
live_then run = live_at run.leaves.closed.row

abbrev pub live_first : ToldRun → ℕ → Bool
live_first run = live_at run.leaves.opened.row

-- each store shows nothing, or an image that a store of a chain showed once
abbrev pub StoresCome : ToldRun → List Image → Type 0
StoresCome run past = Every (Comes Direct (number_of run) past) run.leaves.began.seen.stores_seen

-- THE STORES OF A FILE COME TO A RUN of a chain; these places count for the run and for the sync that the chain is looked at for; a disk that counts for the
-- run is up; and a raise is owed, as it is by disks in mirrors, and by a disk alone whose generation is above 1, as each has that counts since a sync of a
-- mirror was done
pub record ComesTo (run : ToldRun) (past next counts : List Image) (for_run for_sync : ℕ → Bool) : Type 0 where
  pub comes : StoresCome run past
  pub marked : Marked next counts run.leaves.began.seen.stores_seen for_run for_sync
  pub up : Up for_run run.leaves.began.seen.row
  pub owes : OwesRaise run.before run.leaves.opened

-- what a run leaves at these places
abbrev pub left_by : ToldRun → (ℕ → Bool) → List Image
left_by run places = images_at places run.leaves.ended.seen

-- where a chain stands behind a run: all images that its stores show join the past; those of the disks that were live when it ended count for the next run; and
-- these for a sync
abbrev pub rests_behind : ToldRun → (past counts : List Image) → (ℕ → Bool) → Moment
rests_behind run past counts for_sync = Rests (left_by run everywhere ++ past) (left_by run (live_then run) ++ []) (left_by run for_sync ++ counts)

-- A RUN GOES ON WITH A CHAIN in the sense of the machine of mirrors, whatever its disks were before: disks in mirrors, or one of them alone. If it completed no
-- sync, the file's history in it joins those since the sync that the chain is looked at for. If it completed one, the chain may be looked at for the last
-- that it completed. The last generation is never reached
abbrev pub RunsGoOn : Type 0
RunsGoOn = (run : ToldRun) (s : Sync) (past next counts : List Image) (for_run for_sync : ℕ → Bool)
    → Chain Direct (number_of run) s (Rests past next counts) → ComesTo run past next counts for_run for_sync → run.leaves.closed.generation + 1 < limit
    → Chain Direct (number_of run) (lived (history run 0) s) (rests_behind run past counts (either for_sync (live_first run)))
    × ((from : ℕ) → Syncs run from → Chain Direct (number_of run) (Lived (history run from ∷ []) []) (rests_behind run past [] (live_then run)))

-- a disk of a row is up, whose image counts
pub record HasCountedUp (row : List Seat) (counts : List Image) : Type 0 where
  pub place : ℕ
  pub live : Bool
  pub cell : Cell
  pub up : Nth place row (In live cell)
  pub counted : IsIn counts cell.now

-- THE PROMISE: in a chain each run that has a disk up that counts for a sync begins with a file whose pages are versions of them since that sync. So a
-- sync that was done lasts, as long as each run begins with a disk up that was live when the run before it ended
abbrev pub EachSyncLasts : Type 0
EachSyncLasts = (run : ToldRun) (Vs : List (ℕ → ℕ → List ℕ)) (past next counts : List Image)
    → Chain Direct (number_of run) (Lived Vs []) (Rests past next counts) → StoresCome run past → HasCountedUp run.leaves.began.seen.row counts → Within (Among Vs) (first_pages run)
