-- What a run leaves of a file and its stores, on one disk as on disks in mirrors.
use Rattle.std.specs.Prelude.{◌≡◌, ◌⊎◌, ℕ, ◌+◌, ◌<◌, ◌≤◌, List, [], ◌∷◌, length, slice_get, unwrap_or, Option, Some, None, IfSome, IsSome, Contains, true}
use Rattle.script_text.specs.declared.script.Reply.{Reply}
use Rattle.script_text.specs.declared.script.Reply.TheVariants.{Done}
use Rattle.stack_accept.specs.Mount.{Mount}
use Rattle.spr_io.specs.Content.{Content}
use Rattle.disk_format.specs.declared.shape.ImageShape.{ImageShape}
use Rattle.disk_format.specs.Image.{image}
use Rattle.page_ground.specs.Seen.{is_up_in, kept_in, live_in, numbers_in}
use Rattle.page_ground.specs.Seen.{pages_in as told_in}
use Rattle.tower_log.specs.declared.logged.Logged.{Logged}
use Rattle.tower_log.specs.Log.{trail_of}
use Rattle.tower_log.specs.Notes.{Rises, counts_of, last_count}
use Rattle.stack_engine.specs.Opened.{last_from}
use Rattle.spr_volume.specs.Later.{notes_in}
use Rattle.mirror_rules.specs.Tree.{Seat}
use Rattle.mirror_rules.specs.History.{Went, Kept}
use Rattle.mirror_layer.specs.declared.came.Notice.{Notice}
use Rattle.mirror_layer.specs.Calls.{all_told}
use Rattle.mirror_layer.specs.Came.{AreCame}
use Rattle.mirror_layer.specs.Ground.{Ground, IsGround, live_pages, seen_of}
use Rattle.mirror_layer.specs.Bringing.{OpenedOver}
use Rattle.mirror_layer.specs.Stores.{GivesBack}
use Rattle.file_stores.specs.Keys.{EachAt}
use Rattle.file_stores.specs.Held.{StoreSeen}
use Rattle.file_stores.specs.Files.{FileSeen}
use Rattle.file_stores.specs.Notices.{AreAtClose, NothingTold}
use Rattle.file_stores.specs.Under.{Many}
use Rattle.file_stores.specs.Opening.{IsFoundBad, content_of, faults_of, shape_of_file}
use Rattle.run_files.specs.Begun.{Begun, BeganAs, Holds, HoldsAll, IsAll, IsAlong, IsFrom, Opening, begun_as, pages_in, shape_in, synced_from, versions}

-- the store of this number before and after
abbrev pub Store : FileSeen → FileSeen → ℕ → StoreSeen → StoreSeen → Type 0
Store f g disk old new = (slice_get f.stores disk ≡ Some old) × (slice_get g.stores disk ≡ Some new)

-- each store of the file tells what it holds
abbrev pub TellsAll : FileSeen → Type 0
TellsAll f = EachAt (λ at s. IsSome s.state.content) f.stores

-- the disks of a ground that are live
abbrev pub live_of : Ground → List ℕ
live_of g = live_in (seen_of g).disks

-- the pages that a disk of a ground keeps
abbrev pub kept_by : Ground → ℕ → Option (List (List ℕ))
kept_by g disk = unwrap_or (told_in (kept_in (seen_of g).disks disk)) None

-- WHAT A LIVE DISK KEEPS, by the log of its file and the answer of the closing sync; when the file was opened it had kept these pages
pub record IsKept (b : Begun) (closing : Option Reply) (log : List Logged) (first : Option (List (List ℕ))) (kept : List (List ℕ)) : Type 0 where
  -- until a sync was completed: the pages that it had kept, or an image that has, page by page, the file as it was at some place
  pub unsynced : last_from (trail_of log) ≡ None → (pages_in (shape_in b) kept ≡ first) ⊎ IsFrom b log 0 kept
  -- then an image that has, page by page, the file as it was at some place from the last completed sync on
  pub synced : (from : ℕ) → last_from (trail_of log) ≡ Some from → IsFrom b log from kept
  -- and if the closing sync is done, an image of the whole file
  pub whole : closing ≡ Some Done → IsAll b log kept

-- what the store of a live disk tells at the end: it keeps what it is to keep, and reads as what a later run is to find, an image of the file from the
-- last completed sync on, and if the closing sync is done, of the whole file
pub record IsLeft (b : Begun) (closing : Option Reply) (log : List Logged) (first : Option (List (List ℕ))) (after : Option Content) : Type 0 where
  pub new : Content
  pub still : after ≡ Some new
  pub kept : IsKept b closing log first new.kept
  pub reads : IsFrom b log (synced_from log) new.blocks
  pub reads_all : closing ≡ Some Done → IsAll b log new.blocks

-- WHAT IS TOLD OF THE BYTES of a file, where each of its stores tells what it holds, from the opening of its ground to the close
pub record IsTold (b : Begun) (closing : Option Reply) (log : List Logged) (f g : FileSeen) (opened closed : Ground) : Type 0 where
  -- the pages of the ground as it was opened began the file
  pub pages : List (List ℕ)
  pub shown : (seen_of opened).pages ≡ Some pages
  pub began : BeganAs b pages
  pub along : IsAlong b log
  -- those at the end are, page by page, the file as it was at some place from the last completed sync on; and if the closing sync is done, the
  -- whole file
  pub shows : IfSome (seen_of closed).pages (Holds b log (synced_from log))
  pub shows_all : closing ≡ Some Done → IfSome (seen_of closed).pages (HoldsAll b log)
  pub reached : (from : ℕ) → last_from (trail_of log) ≡ Some from → from ≤ length (trail_of log)
  -- so each disk that is live at the end keeps the file
  pub lasts : (disk : ℕ) (old new : StoreSeen) → Store f g disk old new → Contains (live_of closed) disk → IsLeft b closing log (kept_by opened disk) new.state.content
  -- the ground went as in a run of the machine of mirrors, with the file's history; and behind a completed sync a raise that was owed is paid, and
  -- the live disks have the file as it was from that sync on, above each other disk that was opened and has it not
  pub went : Went (versions b log 0) opened.generation opened.row closed.generation closed.row
  pub synced : (from : ℕ) → last_from (trail_of log) ≡ Some from → opened.owed ≡ true → Kept (versions b log from) opened.generation closed.generation closed.row

-- the bytes with which the file began, and what is told of it
pub record TellsFile (mount : Mount) (closing : Option Reply) (log : List Logged) (f g : FileSeen) (opened closed : Ground) : Type 0 where
  pub opening : Opening
  pub is : IsTold (begun_as mount f.file opening) closing log f g opened closed

-- THE DISKS OF A FILE from its opening to its close: they are the same ones, and those are told as opened that were. At the end some disk is live, which
-- was so at the opening; each other one's store failed since it was taken, or its blocks were found bad
pub record DisksStay (f g : FileSeen) (opened closed : Ground) : Type 0 where
  pub many : length g.stores ≡ length f.stores
  pub same : numbers_in (seen_of closed).disks ≡ numbers_in (seen_of opened).disks
  pub up : (disk : ℕ) → is_up_in (seen_of closed).disks disk ≡ is_up_in (seen_of opened).disks disk
  pub some : 0 < length (live_of closed)
  pub live : (disk : ℕ) → Contains (live_of closed) disk → Contains (live_of opened) disk
  pub fell : (disk : ℕ) (old new : StoreSeen) → Store f g disk old new → Contains (live_of closed) disk ⊎ (old.state.faults < new.state.faults) ⊎ IsFoundBad opened disk

-- THE FAULTS OF ITS STORES in the run, by the notes of its log
pub record FaultsAreNoted (log : List Logged) (f g : FileSeen) (closed : Ground) : Type 0 where
  -- the counts of a disk's notes are among those of its store's faults in this run
  pub rises : (disk : ℕ) (old new : StoreSeen) → Store f g disk old new → Rises old.state.faults new.state.faults (counts_of disk log)
  -- the store of each disk that is live at the end failed once at least for each note of the file: a fault that another disk masked is not told
  pub paid : (disk : ℕ) (old new : StoreSeen) → Store f g disk old new → Contains (live_of closed) disk → old.state.faults + notes_in log ≤ new.state.faults

-- WHERE A FILE HAS ONE STORE: its disk is live at the end; the count of its faults is that of the last note, or what it was if there is none, so
-- that no fault goes untold; and if it told its content, that was the image with
-- which the ground was opened, and the disk had kept what it had. Nothing is told of it
pub record IsOnly (shape : ImageShape) (log : List Logged) (opened closed : Ground) (notices : List (Option Notice)) (old new : StoreSeen) : Type 0 where
  pub live : live_of closed ≡ 0 ∷ []
  pub noted : new.state.faults ≡ last_count old.state.faults (counts_of 0 log)
  pub came : IfSome old.state.content (λ c. image shape c.blocks ≡ Some (record { generation = opened.generation; pages = live_pages opened.row }))
  pub had_kept : IfSome old.state.content (λ c. kept_by opened 0 ≡ pages_in shape c.kept)
  pub silent : NothingTold notices

-- what is told of the disks of a file, by their numbers: by what the opening of its ground made of each, as it was found, and whether the disk is live at the end
pub record AreNotices (f : FileSeen) (opened closed : Ground) (found : List Seat) (notices : List (Option Notice)) : Type 0 where
  pub made : List (Option Notice)
  pub made_so : AreCame (all_told opened.beside) opened.beside found opened.row made
  pub each : length made ≡ length f.stores
  pub notices_so : AreAtClose (Many closed) made notices

-- a raise is owed by disks in mirrors when they are opened, and by one disk above generation 1
abbrev pub OwesRaise : FileSeen → Ground → Type 0
OwesRaise f opened = (1 < length f.stores) ⊎ (1 < opened.generation)

-- WHAT A RUN LEAVES OF A FILE, by its log and the answer of its closing sync, and what is told of its disks
pub record LeavesFile (mount : Mount) (closing : Option Reply) (log : List Logged) (f g : FileSeen) (notices : List (Option Notice)) : Type 0 where
  -- the ground that the stores gave when they were opened
  pub opened : Ground
  pub began : OpenedOver content_of faults_of (shape_of_file mount f.file) f.stores mount.ground opened
  pub owes : OwesRaise f opened → opened.owed ≡ true
  -- and the one that gave them back
  pub closed : Ground
  pub sound : IsGround closed
  pub shaped : closed.shape ≡ opened.shape
  pub ended : GivesBack content_of faults_of closed.beside closed.row g.stores
  pub disks : DisksStay f g opened closed
  pub faults : FaultsAreNoted log f g closed
  pub told : TellsAll f → TellsFile mount closing log f g opened closed
  pub words : AreNotices f opened closed began.seen.row notices
  pub only : (old new : StoreSeen) → f.stores ≡ old ∷ [] → g.stores ≡ new ∷ [] → IsOnly (shape_of_file mount f.file) log opened closed notices old new
