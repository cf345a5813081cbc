-- What the engine of a file left of the file, and of the disks under it.
use Rattle.std.proofs.Common.{◌≡◌, ◌⊎◌, inl, inr, ⊎_elim, ℕ, ◌*◌, ◌<◌, ◌≤◌, List, [], ◌∷◌, ◌++◌, length, Option, Some, None, IfSome, IsSome, refl, sym, ap, subst, ◌∙◌, arith}
use Rattle.std.specs.Prelude.{Contains, slice_get, unwrap_or}
use Rattle.std.specs.List.{AllByRecursion}
use Rattle.std.specs.Option.{option_map}
use Rattle.script_text.specs.declared.script.Reply.{Reply}
use Rattle.script_text.specs.declared.script.Reply.TheVariants.{Done}
use Rattle.stack_accept.specs.Mount.{Mount}
use Rattle.disk_format.specs.declared.shape.ImageShape.{ImageShape}
use Rattle.page_ground.specs.Seen.{Imaged}
use Rattle.disk_format.specs.Image.{image}
use Rattle.page_ground.specs.Seen.{AreBehind, Seen, held_in, faults_in, live_in, opened_in, pages_in as told_in}
use Rattle.page_ground.specs.Seen.{kept_in as kept_by}
use Rattle.tower_core.specs.Legal.{FitsFile, IsLegal, file_after}
use Rattle.tower_core.specs.Trail.{IsRun, start, state_of}
use Rattle.tower_core.specs.TreeShape.{IsTree, TreeShape}
use Rattle.page_messages.specs.declared.paged.PagedFile.{PagedFile}
use Rattle.tower_log.specs.declared.logged.Logged.{Logged}
use Rattle.tower_log.specs.declared.logged.Logged.TheVariants.{Entered, Noted}
use Rattle.tower_log.specs.Log.{trail_of}
use Rattle.tower_log.specs.Notes.{Rises, counts_of, last_count}
use Rattle.tower_shows.specs.Began.{ArePagesOf}
use Rattle.tower_shows.specs.Since.{AreSince}
use Rattle.tower_shows.proofs.Stays.{told_stays}
use Rattle.stack_engine.specs.Answers.{KeepsWholePages, ShowsWhatItRead}
use Rattle.stack_engine.specs.Engine.{EngineSeen, IsSound, events_in, file_in, log_in, sides_in, tree_in}
use Rattle.stack_engine.specs.Opened.{AreAnswers, IsOf, KeepsSince, last_from}
use Rattle.stack_engine.specs.Start as engines
use Rattle.spr_volume.specs.Needed.{AreNeeded}
use Rattle.spr_volume.specs.Reads.{StandsByFirst}
use Rattle.spr_volume.proofs.Kept.{kept_file}
use Rattle.spr_volume.proofs.Reading.{reads_find, taken_before}
use Rattle.spr_volume.specs.Later.{AreAnswered, AreLater, IsLater, IsNoteOf, IsOnDisk, KeepsFirst, TurnsFirst}
use Rattle.script_meaning.specs.Stack.{pages_of}
use Rattle.file_stores.specs.Opening.{shape_of_file}
use Rattle.file_stores.proofs.Lists.{some-is}
use Rattle.run_files.specs.Held.{paged}
use Rattle.run_files.specs.Play.{IsWhole}
use Rattle.run_files.specs.Begun.{AnswersAs, BeganAs, Begun, HasAgain, HasPagesOf, Holds, HoldsAll, IsAll, IsAlong, IsFrom, IsSized, Opening, StandFor, begun_as, file_then, pages_in, synced_from}
use Rattle.run_files.specs.Leaves.{IsKept}
use Rattle.run_files.specs.Run.{IsOfDisks, IsOfFile}
use Rattle.run_files.proofs.AnswerLaws.{answers-but-bytes}
use Rattle.run_files.proofs.PageLaws.{image-many}

-- the file that these pages began, if what lies under it tells them
abbrev pub Began : Mount → ℕ → Seen → EngineSeen → Type 0
Began mount file ground e = (opening : Opening) (told : List (List ℕ)) → ground.pages ≡ Some told
    → IsSized (begun_as mount file opening) → BeganAs (begun_as mount file opening) told → IsOf opening.bytes e

-- an image became one of no lower generation, with pages that the file had at some place
pub record IsTurnedIn (b : Begun) (log : List Logged) (then now : Option Imaged) : Type 0 where
  pub old : Imaged
  pub new : Imaged
  pub was : then ≡ Some old
  pub is : now ≡ Some new
  pub later : old.generation ≤ new.generation
  pub since : Holds b log 0 new.pages

-- an engine that was opened over a ground, and closed later on
pub record EngineRun (mount : Mount) (file : ℕ) (before after : Seen) (e0 e1 : EngineSeen) : Type 0 where
  pub opens : engines.Opens mount.tree (paged mount file) before e0
  pub began : Began mount file before e0
  pub later : IsLater e0 e1
  pub sound : IsSound e1
  pub ground : after ≡ e1.ground

module _ (mount : Mount) (file : ℕ) (before after : Seen) (e0 e1 : EngineSeen) (run : EngineRun mount file before after e0 e1) where
  tree-is : tree_in e1 ≡ mount.tree
  tree-is = run.later.file.tree ∙ run.opens.tree_is

  file-is : file_in e1 ≡ paged mount file
  file-is = run.later.file.file ∙ run.opens.file_is

  -- what is said of its tree and its file is said of the stack's
  at-mount : (P : TreeShape → PagedFile → Type 0) → P (tree_in e1) (file_in e1) → P mount.tree (paged mount file)
  at-mount P h = subst (λ (t : TreeShape). P t (paged mount file)) tree-is (subst (λ (f : PagedFile). P (tree_in e1) f) file-is h)

  -- the ground has the file's pages
  pub same-size : after.page_size ≡ mount.page_size
  same-size = ap (λ (g : Seen). g.page_size) run.ground ∙ (run.sound.under.size ∙ ap (λ (f : PagedFile). f.page_size) file-is)

  pub same-number : after.number ≡ pages_of mount file
  same-number = ap (λ (g : Seen). g.number) run.ground ∙ (run.sound.under.number ∙ ap (λ (f : PagedFile). f.pages) file-is)

  -- all that is logged was logged since
  log-is : run.later.more ≡ log_in e1
  log-is = sym (run.later.log ∙ ap (λ (l : List Logged). l ++ run.later.more) run.opens.no_log)

  pub disks-later : AreLater (log_in e1) before after
  disks-later = subst (λ (l : List Logged). AreLater l before after) log-is
      (subst (λ (g : Seen). AreLater run.later.more g after) run.opens.ground_is (subst (λ (g : Seen). AreLater run.later.more e0.ground g) (sym run.ground) run.later.disks))

  -- if a sync was completed, what was due at the opening is paid
  pub lifts-of : (from : ℕ) → last_from (events_in e1) ≡ Some from → before.due ≤ after.generation
  lifts-of from last =
      subst (λ (g : Seen). g.due ≤ after.generation) run.opens.ground_is
      (subst (λ (g : Seen). e0.ground.due ≤ g.generation) (sym run.ground) (run.later.lifts from (ap (λ (l : List Logged). last_from (trail_of l)) run.opens.no_log) last))

  -- the notes count each disk's faults since it was opened
  pub rises-of : (disk : ℕ) → Rises (opened_in before.disks disk) (faults_in after.disks disk) (counts_of disk (log_in e1))
  rises-of disk = subst (λ n. Rises n (faults_in after.disks disk) (counts_of disk (log_in e1))) (disks-later.opened disk)
      (subst (λ (g : Seen). Rises (opened_in g.disks disk) (faults_in g.disks disk) (counts_of disk (log_in e1))) (sym run.ground) (run.sound.notes disk))

  -- where one disk is live its count is that of its last note
  pub noted-of : (disk : ℕ) → IsOnDisk disk before → faults_in after.disks disk ≡ last_count (faults_in before.disks disk) (counts_of disk (log_in e1))
  noted-of disk on =
      ap (λ (g : Seen). faults_in g.disks disk) run.ground
      ∙ (run.later.noted disk (subst (IsOnDisk disk) (sym run.opens.ground_is) on)
      ∙ (ap (λ (l : List Logged). last_count (faults_in e0.ground.disks disk) (counts_of disk l)) log-is ∙ ap (λ (g : Seen). last_count (faults_in g.disks disk) (counts_of disk (log_in e1))) run.opens.ground_is))

  answered-is : AreAnswered mount.tree start (log_in e1)
  answered-is = subst (λ (l : List Logged). AreAnswered mount.tree start l) log-is
      (subst (λ (t : TreeShape). AreAnswered t start run.later.more) run.opens.tree_is
      (subst (λ (l : List Logged). AreAnswered (tree_in e0) (state_of (tree_in e0) (trail_of l)) run.later.more) run.opens.no_log run.later.answered))

  needed-is : AreNeeded mount.tree (pages_of mount file) [] (log_in e1)
  needed-is = subst (λ (l : List Logged). AreNeeded mount.tree (pages_of mount file) [] l) log-is
      (subst (λ (f : PagedFile). AreNeeded mount.tree f.pages [] run.later.more) run.opens.file_is
      (subst (λ (t : TreeShape). AreNeeded t (file_in e0).pages [] run.later.more) run.opens.tree_is
      (subst (λ (l : List Logged). AreNeeded (tree_in e0) (file_in e0).pages (trail_of l) run.later.more) run.opens.no_log run.later.needed)))

  -- each file that has the pages which the log kept, and those that were read again, answers as the log does
  kept-answers : (opening : Opening) → IsSized (begun_as mount file opening) → HasPagesOf (begun_as mount file opening) (log_in e1) → HasAgain (begun_as mount file opening) (log_in e1) → AnswersAs (begun_as mount file opening) (log_in e1)
  kept-answers opening long keeps again =
      let shows : ShowsWhatItRead mount.tree mount.page_size (pages_of mount file) (log_in e1) (sides_in e1) = at-mount (λ t f. ShowsWhatItRead t f.page_size f.pages (log_in e1) (sides_in e1)) run.sound.shows in
      (shows opening.bytes long (reads_find mount.tree mount.page_size (pages_of mount file) opening.bytes (log_in e1) (at-mount (λ t f. IsTree t) run.sound.true_to.tree) long
      (at-mount (λ t f. IsRun t f.pages start (events_in e1)) run.sound.true_to.run) (at-mount (λ t f. AllByRecursion (FitsFile f.page_size f.pages) (events_in e1)) run.sound.true_to.fits) keeps again)).1

  -- its log is the file's
  pub of-file : StandsByFirst mount.tree → (disks : ℕ) → disks ≡ length mount.disks → ((disk : ℕ) → Contains (live_in before.disks) disk → disk < disks) → IsOfFile mount file (log_in e1)
  of-file first disks same few = record {
    run = at-mount (λ t f. IsRun t f.pages start (events_in e1)) run.sound.true_to.run;
    fits = at-mount (λ t f. AllByRecursion (FitsFile f.page_size f.pages) (events_in e1)) run.sound.true_to.fits;
    few = run.sound.few;
    notes = subst (λ n. AllByRecursion (IsOfDisks n) (log_in e1)) same (notes-of (log_in e1) disks-later.notes);
    answers = λ opening. answers-but-bytes (begun_as mount file opening) (log_in e1) (at-mount (λ t f. IsRun t f.pages start (events_in e1)) run.sound.true_to.run) answered-is;
    kept_file = let found = kept_file mount.page_size (pages_of mount file) (log_in e1) (at-mount (λ t f. KeepsWholePages f.page_size f.pages (log_in e1)) run.sound.keeps) in (record { bytes = found.0 }, found.1, found.2);
    kept_answers = kept-answers;
    taken_before = taken_before mount.tree (pages_of mount file) (log_in e1) (at-mount (λ t f. IsTree t) run.sound.true_to.tree) first (at-mount (λ t f. IsRun t f.pages start (events_in e1)) run.sound.true_to.run);
    needed = needed-is;
  }
    where
      notes-of : (log : List Logged) → AllByRecursion (IsNoteOf (live_in before.disks)) log → AllByRecursion (IsOfDisks disks) log
      notes-of [] h = tt
      notes-of (Entered entry ∷ log) h = (tt, notes-of log h.1)
      notes-of (Noted note ∷ log) h = (few note.disk h.0, notes-of log h.1)

  -- the pages are told still
  pub still-told : (opening : Opening) → IsOf opening.bytes e0 → (told : List (List ℕ)) × (after.pages ≡ Some told)
  still-told opening of = some after.pages (subst (λ (g : Seen). IsSome g.pages) (sym run.ground) (run.later.of opening.bytes of).began.is_told)
    where
      some : (o : Option (List (List ℕ))) → IsSome o → (told : List (List ℕ)) × (o ≡ Some told)
      some None h = absurd cc
      some (Some told) h = (told, refl)

  -- a file along its log
  pub along-of : (opening : Opening) → IsOf opening.bytes e0 → IsAlong (begun_as mount file opening) (log_in e1)
  along-of opening of =
      let now : IsOf opening.bytes e1 = run.later.of opening.bytes of in
      record {
        size = at-mount (λ t f. length opening.bytes ≡ f.pages * f.page_size) now.began.sized;
        legal = at-mount (λ t f. IsLegal t f.page_size f.pages opening.bytes (events_in e1)) now.began.legal;
        answers = at-mount (λ t f. AreAnswers t f.page_size opening.bytes (log_in e1)) now.answers;
      }

  -- behind a completed sync the ground's pages are those of the file from it on
  pub shows-of : (opening : Opening) (from : ℕ) → IsOf opening.bytes e0 → last_from (events_in e1) ≡ Some from → IfSome after.pages (Holds (begun_as mount file opening) (log_in e1) from)
  shows-of opening from of last =
      let now : IsOf opening.bytes e1 = run.later.of opening.bytes of in
      subst (λ (g : Seen). IfSome g.pages (Holds (begun_as mount file opening) (log_in e1) from)) (sym run.ground)
      (at-mount (λ t f. IfSome e1.ground.pages (AreSince t f.page_size opening.bytes (events_in e1) from))
      (told_stays (tree_in e1) (file_in e1).page_size (file_in e1).pages opening.bytes (events_in e1) (sides_in e1) e1.ground.pages from run.sound.true_to now.began (now.synced from last).ground))

  -- before any sync they are those of the file at some place
  pub shows-first : (opening : Opening) → IsOf opening.bytes e0 → IfSome after.pages (Holds (begun_as mount file opening) (log_in e1) 0)
  shows-first opening of =
      let now : IsOf opening.bytes e1 = run.later.of opening.bytes of in
      subst (λ (g : Seen). IfSome g.pages (Holds (begun_as mount file opening) (log_in e1) 0)) (sym run.ground)
      (at-mount (λ t f. IfSome e1.ground.pages (AreSince t f.page_size opening.bytes (events_in e1) 0))
      (told_stays (tree_in e1) (file_in e1).page_size (file_in e1).pages opening.bytes (events_in e1) (sides_in e1) e1.ground.pages 0 run.sound.true_to now.began
      (λ page place inside low high. record { place = place; not_before = omega arith; not_after = high; is = refl })))

  -- so they are from the last completed sync on, if there was one
  pub shows-last : (opening : Opening) → IsOf opening.bytes e0 → IfSome after.pages (Holds (begun_as mount file opening) (log_in e1) (synced_from (log_in e1)))
  shows-last opening of = by (last_from (events_in e1)) refl
    where
      by : (o : Option ℕ) → last_from (events_in e1) ≡ o → IfSome after.pages (Holds (begun_as mount file opening) (log_in e1) (unwrap_or o 0))
      by None is = shows-first opening of
      by (Some from) is = shows-of opening from of is

  -- where nothing changed the file behind a sync, pages from there on are those that it has now
  now-of : (w : IsWhole e1) (opening : Opening) (ps : List (List ℕ)) → Holds (begun_as mount file opening) (log_in e1) w.from ps → ArePagesOf mount.page_size (length ps) (file_then (begun_as mount file opening) (events_in e1)).bytes ps
  now-of w opening ps =
      at-mount (λ t f. AreSince t f.page_size opening.bytes (events_in e1) w.from ps → ArePagesOf f.page_size (length ps) (file_after t f.page_size opening.bytes (events_in e1)).bytes ps) (w.now opening ps)

  -- and an image of it from there on is one of the whole file
  pub all-of : (w : IsWhole e1) (opening : Opening) (blocks : List (List ℕ)) → IsFrom (begun_as mount file opening) (log_in e1) w.from blocks → IsAll (begun_as mount file opening) (log_in e1) blocks
  all-of w opening blocks (found, is, since) =
      (found, is, subst (λ n. ArePagesOf mount.page_size n (file_then (begun_as mount file opening) (events_in e1)).bytes found.pages) (image-many (shape_of_file mount file) blocks found is) (now-of w opening found.pages since))

  -- the pages of the ground are then those of the whole file
  pub shows-all : (w : IsWhole e1) (opening : Opening) → IsOf opening.bytes e0 → IfSome after.pages (HoldsAll (begun_as mount file opening) (log_in e1))
  shows-all w opening of =
      let now : IsOf opening.bytes e1 = run.later.of opening.bytes of in
      let many : IfSome e1.ground.pages (λ ps. length ps ≡ pages_of mount file) = at-mount (λ t f. IfSome e1.ground.pages (λ ps. length ps ≡ f.pages)) now.began.many in
      by after.pages (subst (λ (g : Seen). IfSome g.pages (λ ps. length ps ≡ pages_of mount file)) (sym run.ground) many) (shows-of opening w.from of w.last)
    where
      by : (o : Option (List (List ℕ))) → IfSome o (λ ps. length ps ≡ pages_of mount file) → IfSome o (Holds (begun_as mount file opening) (log_in e1) w.from) → IfSome o (HoldsAll (begun_as mount file opening) (log_in e1))
      by None many since = tt
      by (Some ps) many since = subst (λ n. ArePagesOf mount.page_size n (file_then (begun_as mount file opening) (events_in e1)).bytes ps) many (now-of w opening ps since)

  -- and what has other pages is behind
  pub reached-of : (opening : Opening) (from : ℕ) → IsOf opening.bytes e0 → last_from (events_in e1) ≡ Some from → from ≤ length (events_in e1)
  reached-of opening from of last = ((run.later.of opening.bytes of).synced from last).reached

  pub behind-of : (opening : Opening) (from : ℕ) → IsOf opening.bytes e0 → last_from (events_in e1) ≡ Some from → AreBehind (Holds (begun_as mount file opening) (log_in e1) from) after
  behind-of opening from of last =
      subst (λ (g : Seen). AreBehind (Holds (begun_as mount file opening) (log_in e1) from) g) (sym run.ground)
      (at-mount (λ t f. AreBehind (AreSince t f.page_size opening.bytes (events_in e1) from) e1.ground) ((run.later.of opening.bytes of).synced from last).behind)

  -- the image of a disk, live or not
  pub turned-of : (opening : Opening) (disk : ℕ) → IsOf opening.bytes e0 → (held_in after.disks disk ≡ held_in before.disks disk) ⊎ IsTurnedIn (begun_as mount file opening) (log_in e1) (held_in before.disks disk) (held_in after.disks disk)
  turned-of opening disk of = by (run.later.turned opening.bytes (held_in e0.ground.disks disk) disk of (inl refl))
    where
      by : TurnsFirst opening.bytes (held_in e0.ground.disks disk) e1 disk → (held_in after.disks disk ≡ held_in before.disks disk) ⊎ IsTurnedIn (begun_as mount file opening) (log_in e1) (held_in before.disks disk) (held_in after.disks disk)
      by (inl same) = inl (ap (λ (g : Seen). held_in g.disks disk) run.ground ∙ (same ∙ ap (λ (g : Seen). held_in g.disks disk) run.opens.ground_is))
      by (inr t) = inr (record {
        old = t.old;
        new = t.new;
        was = ap (λ (g : Seen). held_in g.disks disk) (sym run.opens.ground_is) ∙ t.was;
        is = ap (λ (g : Seen). held_in g.disks disk) run.ground ∙ t.is;
        later = t.later;
        since = at-mount (λ v f. AreSince v f.page_size opening.bytes (events_in e1) 0 t.new.pages) t.since;
      })

  -- what a live disk keeps of a file that began with these bytes
  pub kept-of : (closing : Option Reply) (opening : Opening) (disk : ℕ) (first : Option (List (List ℕ))) (kept : List (List ℕ)) → IsOf opening.bytes e0 → Contains (live_in after.disks) disk
      → told_in (kept_by before.disks disk) ≡ Some first → kept_by after.disks disk ≡ Some (image (shape_of_file mount file) kept) → (closing ≡ Some Done → IsWhole e1)
      → IsKept (begun_as mount file opening) closing (log_in e1) first kept
  kept-of closing opening disk first kept of live was is whole =
      let shape : ImageShape = shape_of_file mount file in
      let now : IsOf opening.bytes e1 = run.later.of opening.bytes of in
      let live1 : Contains (live_in e1.ground.disks) disk = subst (λ (g : Seen). Contains (live_in g.disks) disk) run.ground live in
      let kept1 : kept_by e1.ground.disks disk ≡ Some (image shape kept) = ap (λ (g : Seen). kept_by g.disks disk) (sym run.ground) ∙ is in
      let kept0 : told_in (kept_by e0.ground.disks disk) ≡ Some first = ap (λ (g : Seen). told_in (kept_by g.disks disk)) run.opens.ground_is ∙ was in
      let since : (from : ℕ) → KeepsSince (tree_in e1) (file_in e1).page_size opening.bytes (events_in e1) from (kept_by e1.ground.disks disk) → StandFor shape (Holds (begun_as mount file opening) (log_in e1) from) kept =
      λ from told. stands shape kept (Holds (begun_as mount file opening) (log_in e1) from) (kept_by e1.ground.disks disk) kept1
      (at-mount (λ t f. KeepsSince t f.page_size opening.bytes (events_in e1) from (kept_by e1.ground.disks disk)) told) in
      let from_start : KeepsFirst opening.bytes (kept_by e0.ground.disks disk) e1 disk =
      run.later.kept opening.bytes (kept_by e0.ground.disks disk) disk of live1 (λ none. inl refl) in
      record {
        unsynced = λ none.
            ⊎_elim
            (λ (same : told_in (kept_by e1.ground.disks disk) ≡ told_in (kept_by e0.ground.disks disk)).
            inl (some-is (pages_in shape kept) first (ap told_in (sym kept1) ∙ (same ∙ kept0))))
            (λ (told : KeepsSince (tree_in e1) (file_in e1).page_size opening.bytes (events_in e1) 0 (kept_by e1.ground.disks disk)). inr (since 0 told))
            (from_start none);
        synced = λ from last. since from ((now.synced from last).disks disk live1);
        whole = λ done. let w = whole done in all-of w opening kept (since w.from ((now.synced w.from w.last).disks disk live1));
      }
    where
      -- what is told of what a disk kept, said of the blocks
      stands : (shape : ImageShape) (blocks : List (List ℕ)) (P : List (List ℕ) → Type 0) (found : Option (Option Imaged)) → found ≡ Some (image shape blocks)
          → IfSome (told_in found) (λ pages. (ps : List (List ℕ)) × (pages ≡ Some ps) × P ps) → StandFor shape P blocks
      stands shape blocks P found is told =
          by (image shape blocks) refl (subst (λ (o : Option (Option Imaged)). IfSome (told_in o) (λ pages. (ps : List (List ℕ)) × (pages ≡ Some ps) × P ps)) is told)
        where
          by : (o : Option Imaged) → image shape blocks ≡ o → (ps : List (List ℕ)) × (option_map {T = Imaged} (λ v. v.pages) o ≡ Some ps) × P ps → StandFor shape P blocks
          by None e (ps, same, p) = absurd cc
          by (Some found) e (ps, same, p) = (found, e, subst P (sym (some-is found.pages ps same)) p)
