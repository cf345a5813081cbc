-- The same file later on: at the start, after one stretch and another, and after one try.
use Rattle.std.proofs.Common.{◌≡◌, ◌⊎◌, inl, inr, ℕ, ◌+◌, ◌<◌, ◌≤◌, ◌==◌, Bool, true, false, cond, List, [], ◌∷◌, ◌++◌, length, Option, Some, None, IfSome, IsSome, refl, sym, ap, subst, ◌∙◌, arith, append_assoc}
use Rattle.std.specs.Prelude.{Contains}
use Rattle.std.specs.List.{AllByRecursion, fold}
use Rattle.std.proofs.lemmas.List.{append-nil}
use Rattle.std.proofs.lemmas.List.Sums.{fold-append}
use Rattle.std.proofs.lemmas.Bool.Decides.{nat_tests}
use Rattle.hist_plain.specs.declared.event.Event.{Event}
use Rattle.hist_plain.specs.declared.event.Event.TheVariants as events
use Rattle.page_ground.specs.Seen.{Imaged}
use Rattle.page_ground.specs.Seen.{Are, KeptAt, Seen, Turns, faults_in, held_in, live_in, pages_in}
use Rattle.page_ground.specs.Seen.{kept_in as kept_on}
use Rattle.tower_core.specs.Trail.{State, start, state_after, state_of}
use Rattle.tower_core.specs.TreeShape.{TreeShape}
use Rattle.hist_plain.specs.Event.{caller_of}
use Rattle.page_messages.specs.declared.paged.PagedFile.{PagedFile}
use Rattle.page_exchange.specs.Ground.{IsCalmCall, IsOneCall}
use Rattle.tower_log.specs.declared.logged.Entry.{Entry}
use Rattle.tower_log.specs.declared.logged.Logged.{Logged}
use Rattle.tower_log.specs.declared.logged.Logged.TheVariants.{Entered, Noted}
use Rattle.tower_log.specs.Log.{trail_of}
use Rattle.tower_log.specs.Notes.{counts_of, last_count}
use Rattle.tower_log.proofs.LogLaws.{trail_of-append}
use Rattle.tower_shows.specs.Since.{AreSince, GroundIsSince}
use Rattle.tower_shows.proofs.Stays.{told_later, told_stays}
use Rattle.stack_engine.specs.declared.refusal.StepErr.{StepErr}
use Rattle.stack_engine.specs.declared.refusal.StepErr.TheVariants.{StoreFault, TrailFull, Memory}
use Rattle.stack_engine.specs.Engine.{EngineSeen, IsSound, events_in, file_in, log_in, sides_in, state_in, tree_in}
use Rattle.stack_engine.specs.Moves.{Enters, Goes, IsRefused}
use Rattle.stack_engine.specs.Opened.{IsOf, KeepsSince, from_after, last_from}
use Rattle.stack_engine.proofs.Entering.{at_same, if_some_on, some_image, such_pages}
use Rattle.stack_engine.proofs.Logs.{counts_of-append, last_from-entered}
use Rattle.spr_volume.specs.Needed.{AreNeeded}
use Rattle.spr_volume.proofs.Needing.{IsFor, needed_on}
use Rattle.spr_volume.specs.Later.{AreAnswered, AreLater, IsLater, IsNoteOf, IsOnDisk, IsTurned, KeepsFirst, TurnsFirst, answer_by, notes_in}

-- LISTS

pub all-append : {A : Type 0} (P : A → Type 0) (xs ys : List A) → AllByRecursion P xs → AllByRecursion P ys → AllByRecursion P (xs ++ ys)
all-append P [] ys all more = more
all-append P (x ∷ xs) ys all more = (all.0, all-append P xs ys all.1 more)

last_count-append : (first : ℕ) (xs ys : List ℕ) → last_count first (xs ++ ys) ≡ last_count (last_count first xs) ys
last_count-append first [] ys = refl
last_count-append first (x ∷ xs) ys = last_count-append x xs ys

some_of : (xs : List ℕ) → 0 < length xs → (x : ℕ) × Contains xs x
some_of [] some = absurd (omega arith)
some_of (x ∷ xs) some = (x, (0, some, refl))

some_in : (xs : List ℕ) (x : ℕ) → Contains xs x → 0 < length xs
some_in [] x (k, inside, is) = absurd (omega (arith, inside))
some_in (y ∷ xs) x found = omega arith

-- a note of one of some disks is of one of more
notes_of_more : (some all : List ℕ) (log : List Logged) → ((disk : ℕ) → Contains some disk → Contains all disk) → AllByRecursion (IsNoteOf some) log → AllByRecursion (IsNoteOf all) log
notes_of_more some all [] to h = tt
notes_of_more some all (Entered entry ∷ log) to h = (tt, notes_of_more some all log to h.1)
notes_of_more some all (Noted note ∷ log) to h = (to note.disk h.0, notes_of_more some all log to h.1)

notes_in-append : (xs ys : List Logged) → notes_in (xs ++ ys) ≡ notes_in xs + notes_in ys
notes_in-append [] ys = omega arith
notes_in-append (Entered entry ∷ xs) ys = notes_in-append xs ys
notes_in-append (Noted note ∷ xs) ys = let rest = notes_in-append xs ys in omega (arith, rest)

-- each disk that is live after these things of the log failed once at least for each note
abbrev IsPaid : List Logged → Seen → Seen → Type 0
IsPaid more before after = (disk : ℕ) → Contains (live_in after.disks) disk → faults_in before.disks disk + notes_in more ≤ faults_in after.disks disk

-- what is answered by the lives so far, and what then goes on to be
answered_on : (tree : TreeShape) (s : State) (xs ys : List Logged) → AreAnswered tree s xs → AreAnswered tree (fold (state_after tree) s (trail_of xs)) ys → AreAnswered tree s (xs ++ ys)
answered_on tree s [] ys h more = more
answered_on tree s (Entered entry ∷ xs) ys h more = (h.0, answered_on tree (state_after tree s entry.event) xs ys h.1 more)
answered_on tree s (Noted note ∷ xs) ys h more = answered_on tree s xs ys h more

-- an event of no caller has no answer
pub unanswered : (s : State) (event : Event) → caller_of event ≡ None → None ≡ answer_by s event
unanswered s (events.Access caller number node life op) e = absurd cc
unanswered s (events.DestroyCache caller number node) e = absurd cc
unanswered s (events.DonePager caller number node) e = absurd cc
unanswered s (events.Synced caller number node from keep) e = absurd cc
unanswered s (events.PageIn node page write) e = refl
unanswered s (events.ZeroFill node page write) e = refl
unanswered s (events.PageOut node page) e = refl
unanswered s (events.WriteOut node page) e = refl
unanswered s (events.SyncOut node page) e = refl
unanswered s (events.FlushBack node page) e = refl
unanswered s (events.DenyWrites node page) e = refl
unanswered s (events.WriteBack node page) e = refl
unanswered s (events.DeleteRange node page) e = refl

-- A GROUND after one call at most

-- no disk gets live, and no count falls
live_once : (before after : Seen) (disk : ℕ) → IsOneCall before after → Contains (live_in after.disks) disk → Contains (live_in before.disks) disk
live_once before after disk (inl same) live = subst (λ (s : Seen). Contains (live_in s.disks) disk) same live
live_once before after disk (inr keeps) live = keeps.live disk live

faults_once : (before after : Seen) (disk : ℕ) → IsOneCall before after → faults_in before.disks disk ≤ faults_in after.disks disk
faults_once before after disk (inl same) = let e = ap (λ (s : Seen). faults_in s.disks disk) same in omega (arith, e)
faults_once before after disk (inr keeps) = keeps.later disk

-- where nothing is noted nothing is to be paid
unnoted : (more : List Logged) (before after : Seen) → IsOneCall before after → notes_in more ≡ 0 → IsPaid more before after
unnoted more before after call none disk live = let later = faults_once before after disk call in omega (arith, later, none)

-- after it the disks are later on
later_once : (more : List Logged) (before after : Seen) → IsOneCall before after → AllByRecursion (IsNoteOf (live_in before.disks)) more → IsPaid more before after → AreLater more before after
later_once more before after (inl same) notes paid = subst (AreLater more before) (sym same) (record {
  disks = refl;
  up = λ disk. refl;
  told = λ disk. refl;
  live = λ disk live. live;
  some = λ some. some;
  lost = λ disk live. inl live;
  faults = λ disk. omega arith;
  opened = λ disk. refl;
  aside = λ disk down. refl;
  level = omega arith;
  due = omega arith;
  notes = notes;
  paid = subst (λ (s : Seen). IsPaid more before s) same paid;
})
later_once more before after (inr keeps) notes paid = record {
  disks = keeps.same_disks;
  up = keeps.same_up;
  told = keeps.same_told;
  live = keeps.live;
  some = λ _. keeps.some;
  lost = keeps.lost;
  faults = keeps.later;
  opened = keeps.same_opened;
  aside = keeps.aside;
  level = keeps.level;
  due = keeps.due;
  notes = notes;
  paid = paid;
}

-- THE ONE LIVE DISK later on
pub on_later : (disk : ℕ) (more : List Logged) (before after : Seen) → AreLater more before after → IsOnDisk disk before → IsOnDisk disk after
on_later disk more before after later on =
    let other = some_of (live_in after.disks) (later.some (some_in (live_in before.disks) disk on.live)) in
    record {
      live = subst (Contains (live_in after.disks)) (on.alone other.0 (later.live other.0 other.1)) other.1;
      alone = λ d live. on.alone d (later.live d live);
    }

on_disk_once : (before after : Seen) (disk : ℕ) → IsOneCall before after → IsOnDisk disk before → IsOnDisk disk after
on_disk_once before after disk call on = on_later disk [] before after (later_once [] before after call tt (unnoted [] before after call refl)) on

calm_on : (before after : Seen) (disk : ℕ) → IsOneCall before after → IsOnDisk disk before → IsCalmCall before after → faults_in after.disks disk ≡ faults_in before.disks disk
calm_on before after disk call on (inl same) = ap (λ (s : Seen). faults_in s.disks disk) same
calm_on before after disk call on (inr calm) =
    let is = (on_disk_once before after disk call on).alone calm.disk calm.live in
    subst (λ (d : ℕ). faults_in after.disks d ≡ faults_in before.disks d) is calm.same

-- what it keeps is as it was, or is the ground's pages
kept_once : (P : Option (Option (List (List ℕ))) → Type 0) (before after : Seen) (disk : ℕ) → IsOneCall before after → Contains (live_in after.disks) disk
    → P (pages_in (kept_on before.disks disk)) → (KeptAt (kept_on after.disks disk) before.pages → P (pages_in (kept_on after.disks disk))) → P (pages_in (kept_on after.disks disk))
kept_once P before after disk (inl same) live was is = subst (λ (s : Seen). P (pages_in (kept_on s.disks disk))) (sym same) was
kept_once P before after disk (inr keeps) live was is = elim (keeps.kept disk live) [
  | inl e ↦ subst P (sym e) was
  | inr at ↦ is at
]

-- THE LAST SYNC: if none was completed up to a place, none was up to an earlier one

after-none : (found : Option ℕ) (event : Event) → from_after found event ≡ None → found ≡ None
after-none found (events.Synced caller number node from keep) e = absurd cc
after-none found event e = e

none-before : (found : Option ℕ) (more : List Event) → fold from_after found more ≡ None → found ≡ None
none-before found [] e = e
none-before found (event ∷ more) e = after-none found event (none-before (from_after found event) more e)

last-none : (trail more : List Event) → last_from (trail ++ more) ≡ None → last_from trail ≡ None
last-none trail more e = none-before (last_from trail) more (sym (fold-append from_after None trail more) ∙ e)

-- THE FIRST SYNC that was completed since: what was due is paid
abbrev Lifts : EngineSeen → EngineSeen → Type 0
Lifts old new = (from : ℕ) → last_from (events_in old) ≡ None → last_from (events_in new) ≡ Some from → old.ground.due ≤ new.ground.generation

-- what was due is at most what is due after one call
due_once : (before after : Seen) → IsOneCall before after → before.due ≤ after.due
due_once before after (inl same) = let e = ap (λ (s : Seen). s.due) same in omega (arith, e)
due_once before after (inr keeps) = keeps.due

-- no event was entered
lifts_none : (more : List Logged) (old new : EngineSeen) → log_in new ≡ log_in old ++ more → trail_of more ≡ [] → Lifts old new
lifts_none more old new log quiet from none some =
    let events : events_in new ≡ events_in old = ap trail_of log ∙ (trail_of-append (log_in old) more ∙ (ap (λ (es : List Event). events_in old ++ es) quiet ∙ append-nil (events_in old))) in
    let both : None ≡ Some from = sym none ∙ (sym (ap last_from events) ∙ some) in
    cc

-- one event was entered, and if it completed a sync, what was due then is paid
lifts_entered : (entry : Entry) (old new : EngineSeen) → IsOneCall old.ground new.ground → log_in new ≡ log_in old ++ Entered entry ∷ []
    → ((from : ℕ) → from_after None entry.event ≡ Some from → new.ground.due ≤ new.ground.generation) → Lifts old new
lifts_entered entry old new call log paid from none some =
    let events : events_in new ≡ events_in old ++ entry.event ∷ [] = ap trail_of log ∙ trail_of-append (log_in old) (Entered entry ∷ []) in
    let last : last_from (events_in new) ≡ from_after None entry.event =
    ap last_from events ∙ (last_from-entered (events_in old) entry.event ∙ ap (λ (found : Option ℕ). from_after found entry.event) none) in
    omega (arith, due_once old.ground new.ground call, paid from (sym last ∙ some))

-- an event of no caller completes no sync
pub unsynced : (event : Event) (from : ℕ) → caller_of event ≡ None → from_after None event ≡ Some from → ⊥
unsynced (events.Access caller number node life op) from e is = cc
unsynced (events.DestroyCache caller number node) from e is = cc
unsynced (events.DonePager caller number node) from e is = cc
unsynced (events.Synced caller number node at keep) from e is = cc
unsynced (events.PageIn node page write) from e is = cc
unsynced (events.ZeroFill node page write) from e is = cc
unsynced (events.PageOut node page) from e is = cc
unsynced (events.WriteOut node page) from e is = cc
unsynced (events.SyncOut node page) from e is = cc
unsynced (events.FlushBack node page) from e is = cc
unsynced (events.DenyWrites node page) from e is = cc
unsynced (events.WriteBack node page) from e is = cc
unsynced (events.DeleteRange node page) from e is = cc

-- ONE TRY: it may call the ground once, and adds these things to the log
pub record IsTry (more : List Logged) (old new : EngineSeen) : Type 0 where
  pub goes : Goes old new
  pub log : log_in new ≡ log_in old ++ more
  pub notes : AllByRecursion (IsNoteOf (live_in old.ground.disks)) more
  pub paid : IsPaid more old.ground new.ground
  pub answered : AreAnswered (tree_in old) (state_in old) more
  pub needed : AreNeeded (tree_in old) (file_in old).pages (events_in old) more
  pub noted : (disk : ℕ) → IsOnDisk disk old.ground → faults_in new.ground.disks disk ≡ last_count (faults_in old.ground.disks disk) (counts_of disk more)
  pub lifts : Lifts old new

-- pages of a told ground are from the first place on
since_start : (shape : TreeShape) (size pages : ℕ) (opening : List ℕ) (trail : List Event) → GroundIsSince shape size pages opening trail 0
since_start shape size pages opening trail page place inside le upto = record { place = place; not_before = omega arith; not_after = upto; is = refl }

module _ (more : List Logged) (old new : EngineSeen) (sound : IsSound old) (sound_new : IsSound new) (move : IsTry more old new) where
  pub tried_events : events_in new ≡ events_in old ++ trail_of more
  tried_events = ap trail_of move.log ∙ trail_of-append (log_in old) more

  module _ (opening : List ℕ) (first : Option (Option Imaged)) (disk : ℕ) (of : IsOf opening old) (live : Contains (live_in new.ground.disks) disk) where
    -- pages as they were at some place of the longer trail
    abbrev Since : Option (Option (List (List ℕ))) → Type 0
    Since kept = IfSome kept (λ pages. (ps : List (List ℕ)) × (pages ≡ Some ps) × AreSince (tree_in old) (file_in old).page_size opening (events_in old ++ trail_of more) 0 ps)

    longer : (kept : Option (Option (List (List ℕ)))) → IfSome kept (λ pages. (ps : List (List ℕ)) × (pages ≡ Some ps) × AreSince (tree_in old) (file_in old).page_size opening (events_in old) 0 ps) → Since kept
    longer None h = tt
    longer (Some pages) h = (h.0, h.1, told_later (tree_in old) (file_in old).page_size opening (events_in old) (trail_of more) 0 h.0 h.2)

    was_kept : (kept : Option (Option Imaged)) → (pages_in kept ≡ pages_in first) ⊎ KeepsSince (tree_in old) (file_in old).page_size opening (events_in old) 0 kept → (pages_in kept ≡ pages_in first) ⊎ Since (pages_in kept)
    was_kept kept (inl e) = inl e
    was_kept kept (inr h) = inr (longer (pages_in kept) h)

    of_ground : (kept : Option (Option Imaged)) (pages : Option (List (List ℕ))) → KeptAt kept pages → IfSome pages (AreSince (tree_in old) (file_in old).page_size opening (events_in old) 0) → IsSome pages → Since (pages_in kept)
    of_ground None pages at since some = tt
    of_ground (Some image) None at since some = absurd (let both : false ≡ true = some in cc)
    of_ground (Some image) (Some ps) at since some = (ps, at, told_later (tree_in old) (file_in old).page_size opening (events_in old) (trail_of more) 0 ps since)

    kept_now : (pages_in (kept_on old.ground.disks disk) ≡ pages_in first) ⊎ KeepsSince (tree_in old) (file_in old).page_size opening (events_in old) 0 (kept_on old.ground.disks disk)
        → (pages_in (kept_on new.ground.disks disk) ≡ pages_in first) ⊎ Since (pages_in (kept_on new.ground.disks disk))
    kept_now was = kept_once (λ kept. (kept ≡ pages_in first) ⊎ Since kept) old.ground new.ground disk move.goes.call live
        (was_kept (kept_on old.ground.disks disk) was)
        (λ at. inr (of_ground (kept_on new.ground.disks disk) old.ground.pages at
        (told_stays (tree_in old) (file_in old).page_size (file_in old).pages opening (events_in old) (sides_in old) old.ground.pages 0 sound.true_to of.began
        (since_start (tree_in old) (file_in old).page_size (file_in old).pages opening (events_in old)))
        of.began.is_told))

    keeps_first : KeepsFirst opening first old disk → KeepsFirst opening first new disk
    keeps_first was none =
        at_same (λ (t : TreeShape) (f : PagedFile). (pages_in (kept_on new.ground.disks disk) ≡ pages_in first) ⊎ KeepsSince t f.page_size opening (events_in new) 0 (kept_on new.ground.disks disk)) old.tables new.tables move.goes.file
        (subst (λ (es : List Event). (pages_in (kept_on new.ground.disks disk) ≡ pages_in first) ⊎ KeepsSince (tree_in old) (file_in old).page_size opening es 0 (kept_on new.ground.disks disk)) (sym tried_events)
        (kept_now (was (last-none (events_in old) (trail_of more) (sym (ap last_from tried_events) ∙ none)))))

  -- the image of a disk
  module _ (opening : List ℕ) (first : Option Imaged) (disk : ℕ) (of : IsOf opening old) where
    abbrev Now : List (List ℕ) → Type 0
    Now ps = AreSince (tree_in new) (file_in new).page_size opening (events_in new) 0 ps

    now_since : (ps : List (List ℕ)) → AreSince (tree_in old) (file_in old).page_size opening (events_in old) 0 ps → Now ps
    now_since ps since = at_same (λ (t : TreeShape) (f : PagedFile). AreSince t f.page_size opening (events_in new) 0 ps) old.tables new.tables move.goes.file
        (subst (λ (es : List Event). AreSince (tree_in old) (file_in old).page_size opening es 0 ps) (sym tried_events)
        (told_later (tree_in old) (file_in old).page_size opening (events_in old) (trail_of more) 0 ps since))

    old_ground : IfSome old.ground.pages Now
    old_ground = if_some_on (AreSince (tree_in old) (file_in old).page_size opening (events_in old) 0) Now old.ground.pages now_since
        (told_stays (tree_in old) (file_in old).page_size (file_in old).pages opening (events_in old) (sides_in old) old.ground.pages 0 sound.true_to of.began
        (since_start (tree_in old) (file_in old).page_size (file_in old).pages opening (events_in old)))

    new_ground : IfSome new.ground.pages Now
    new_ground = told_stays (tree_in new) (file_in new).page_size (file_in new).pages opening (events_in new) (sides_in new) new.ground.pages 0 sound_new.true_to (move.goes.of opening of).began
        (since_start (tree_in new) (file_in new).page_size (file_in new).pages opening (events_in new))

    of_either : (ps : List (List ℕ)) → Are old.ground.pages ps ⊎ Are new.ground.pages ps → Now ps
    of_either ps (inl at) = such_pages Now old.ground.pages ps of.began.is_told old_ground at
    of_either ps (inr at) = such_pages Now new.ground.pages ps (move.goes.of opening of).began.is_told new_ground at

    step_of : IsOneCall old.ground new.ground → (held_in new.ground.disks disk ≡ held_in old.ground.disks disk) ⊎ Turns old.ground.pages new.ground.pages (held_in old.ground.disks disk) (held_in new.ground.disks disk)
    step_of (inl same) = inl (ap (λ (s : Seen). held_in s.disks disk) same)
    step_of (inr keeps) = keeps.turned disk

    turns_on : (then now : Option Imaged) → (now ≡ then) ⊎ Turns old.ground.pages new.ground.pages then now → (then ≡ first) ⊎ IsTurned opening first then old → (now ≡ first) ⊎ IsTurned opening first now new
    turns_on then now (inl same) (inl was) = inl (same ∙ was)
    turns_on then now (inl same) (inr t) = inr (record { old = t.old; new = t.new; was = t.was; is = same ∙ t.is; later = t.later; since = now_since t.new.pages t.since })
    turns_on then now (inr m) (inl was) = inr (record { old = m.old; new = m.new; was = sym was ∙ m.was; is = m.is; later = m.later; since = of_either m.new.pages m.pages })
    turns_on then now (inr m) (inr t) =
        let same : t.new ≡ m.old = some_image t.new m.old (sym t.is ∙ m.was) in
        let first_level : t.old.generation ≤ m.old.generation = subst (λ (v : Imaged). t.old.generation ≤ v.generation) same t.later in
        let next_level : m.old.generation ≤ m.new.generation = m.later in
        inr (record { old = t.old; new = m.new; was = t.was; is = m.is; later = omega (arith, first_level, next_level); since = of_either m.new.pages m.pages })

    turns_first : TurnsFirst opening first old disk → TurnsFirst opening first new disk
    turns_first was = turns_on (held_in old.ground.disks disk) (held_in new.ground.disks disk) (step_of move.goes.call) was

  pub later_try : IsLater old new
  later_try = record {
    file = move.goes.file;
    of = move.goes.of;
    more = more;
    log = move.log;
    disks = later_once more old.ground new.ground move.goes.call move.notes move.paid;
    answered = move.answered;
    needed = move.needed;
    noted = move.noted;
    kept = λ opening first disk of live. keeps_first opening first disk of live;
    turned = λ opening first disk of. turns_first opening first disk of;
    lifts = move.lifts;
  }

-- an event was entered without a fault
pub try_entered : (entry : Entry) (old new : EngineSeen) → Enters entry old new → entry.answer ≡ answer_by (state_in old) entry.event → IsFor old entry.event
    → ((from : ℕ) → from_after None entry.event ≡ Some from → new.ground.due ≤ new.ground.generation) → IsTry (Entered entry ∷ []) old new
try_entered entry old new enters is needed paid = record {
  goes = enters.goes;
  log = enters.log;
  notes = (tt, tt);
  paid = unnoted (Entered entry ∷ []) old.ground new.ground enters.goes.call refl;
  answered = (is, tt);
  needed = (needed, tt);
  noted = λ disk on. calm_on old.ground new.ground disk enters.goes.call on enters.calm;
  lifts = lifts_entered entry old new enters.goes.call enters.log paid;
}

-- what a refused call leaves in the log: a note of a store that failed
abbrev pub noted_by : ℕ → StepErr → List Logged
noted_by caller (StoreFault disk count) = Noted (record { caller = caller; disk = disk; count = count }) ∷ []
noted_by caller TrailFull = []
noted_by caller Memory = []

own_note : (a b : ℕ) → a ≡ b → (a == b) ≡ true
own_note a b e = grind (arith, nat_tests)

-- behind a note of the one live disk its count is the note's
one_note : (t : Bool) (before after count : ℕ) → t ≡ true → count ≡ after → after ≡ last_count before (cond t (count ∷ []) [])
one_note true before after count is exact = sym exact
one_note false before after count is exact = absurd cc

pub try_refused : (caller : ℕ) (old new : EngineSeen) (err : StepErr) → IsRefused caller old new err → IsTry (noted_by caller err) old new
try_refused caller old new (StoreFault disk count) refused = record {
  goes = refused.goes;
  log = refused.why.0;
  notes = (refused.why.1.named, tt);
  paid = λ d live. let rose = refused.why.1.all d (live_once old.ground new.ground d refused.goes.call live) in omega (arith, rose);
  answered = tt;
  needed = tt;
  noted = λ d on.
      let own = on.alone disk refused.why.1.named in
      one_note (disk == d) (faults_in old.ground.disks d) (faults_in new.ground.disks d) count (own_note disk d own) (subst (λ (x : ℕ). count ≡ faults_in new.ground.disks x) own refused.why.1.exact);
  lifts = lifts_none (noted_by caller (StoreFault disk count)) old new refused.why.0 refl;
}
try_refused caller old new TrailFull refused = record {
  goes = refused.goes;
  log = refused.why.0 ∙ sym (append-nil (log_in old));
  notes = tt;
  paid = unnoted [] old.ground new.ground refused.goes.call refl;
  answered = tt;
  needed = tt;
  noted = λ d on. ap (λ (s : Seen). faults_in s.disks d) refused.why.2;
  lifts = lifts_none [] old new (refused.why.0 ∙ sym (append-nil (log_in old))) refl;
}
try_refused caller old new Memory refused = record {
  goes = refused.goes;
  log = refused.why.0 ∙ sym (append-nil (log_in old));
  notes = tt;
  paid = unnoted [] old.ground new.ground refused.goes.call refl;
  answered = tt;
  needed = tt;
  noted = λ d on. calm_on old.ground new.ground d refused.goes.call on refused.why.2;
  lifts = lifts_none [] old new (refused.why.0 ∙ sym (append-nil (log_in old))) refl;
}

-- nothing was done
pub try_none : (old new : EngineSeen) → new ≡ old → IsTry [] old new
try_none old new same = subst (IsTry [] old) (sym same) (record {
  goes = record { file = record { tree = refl; file = refl; machines = refl; ops = refl }; call = inl refl; of = λ opening of. of };
  log = sym (append-nil (log_in old));
  notes = tt;
  paid = unnoted [] old.ground old.ground (inl refl) refl;
  answered = tt;
  needed = tt;
  noted = λ disk on. refl;
  lifts = lifts_none [] old old (sym (append-nil (log_in old))) refl;
})

-- AT THE START, AND ON AND ON

pub later_refl : (e : EngineSeen) → IsLater e e
later_refl e = record {
  file = record { tree = refl; file = refl; machines = refl; ops = refl };
  of = λ opening of. of;
  more = [];
  log = sym (append-nil (log_in e));
  disks = later_once [] e.ground e.ground (inl refl) tt (unnoted [] e.ground e.ground (inl refl) refl);
  answered = tt;
  needed = tt;
  noted = λ disk on. refl;
  kept = λ opening first disk of live was. was;
  turned = λ opening first disk of was. was;
  lifts = lifts_none [] e e (sym (append-nil (log_in e))) refl;
}

disks_on : (xs ys : List Logged) (a b c : Seen) → AreLater xs a b → AreLater ys b c → AreLater (xs ++ ys) a c
disks_on xs ys a b c p q = record {
  disks = q.disks ∙ p.disks;
  up = λ disk. q.up disk ∙ p.up disk;
  told = λ disk. q.told disk ∙ p.told disk;
  live = λ disk live. p.live disk (q.live disk live);
  some = λ some. q.some (p.some some);
  lost = λ disk live. elim (p.lost disk live) [
    | inl stays ↦ elim (q.lost disk stays) [
      | inl still ↦ inl still
      | inr rose ↦ inr (omega (arith, p.faults disk, rose))
    ]
    | inr rose ↦ inr (omega (arith, q.faults disk, rose))
  ];
  faults = λ disk. omega (arith, p.faults disk, q.faults disk);
  opened = λ disk. q.opened disk ∙ p.opened disk;
  aside = λ disk down. q.aside disk (p.up disk ∙ down) ∙ p.aside disk down;
  level = omega (arith, p.level, q.level);
  due = omega (arith, p.due, q.due);
  notes = all-append (IsNoteOf (live_in a.disks)) xs ys p.notes (notes_of_more (live_in b.disks) (live_in a.disks) ys p.live q.notes);
  paid = λ disk live. let first = p.paid disk (q.live disk live) in let next = q.paid disk live in let all = notes_in-append xs ys in omega (arith, first, next, all);
}

pub later_trans : (a b c : EngineSeen) → IsLater a b → IsLater b c → IsLater a c
later_trans a b c p q = record {
  file = record { tree = q.file.tree ∙ p.file.tree; file = q.file.file ∙ p.file.file; machines = q.file.machines ∙ p.file.machines; ops = q.file.ops ∙ p.file.ops };
  of = λ opening of. q.of opening (p.of opening of);
  more = p.more ++ q.more;
  log = q.log ∙ ap (λ (l : List Logged). l ++ q.more) p.log ∙ append_assoc (log_in a) p.more q.more;
  disks = disks_on p.more q.more a.ground b.ground c.ground p.disks q.disks;
  answered = answered_on (tree_in a) (state_in a) p.more q.more p.answered (subst (λ (s : State). AreAnswered (tree_in a) s q.more) state_is (subst (λ (t : TreeShape). AreAnswered t (state_of t (events_in b)) q.more) p.file.tree q.answered));
  needed = needed_on (tree_in a) (file_in a).pages (events_in a) p.more q.more p.needed
      (at_same (λ (t : TreeShape) (f : PagedFile). AreNeeded t f.pages (events_in a ++ trail_of p.more) q.more) b.tables a.tables (record { ops = sym p.file.ops; tree = sym p.file.tree; file = sym p.file.file; machines = sym p.file.machines })
      (subst (λ (es : List Event). AreNeeded (tree_in b) (file_in b).pages es q.more) events_are q.needed));
  noted = λ disk on.
      q.noted disk (on_later disk p.more a.ground b.ground p.disks on)
      ∙ (ap (λ (n : ℕ). last_count n (counts_of disk q.more)) (p.noted disk on)
      ∙ (sym (last_count-append (faults_in a.ground.disks disk) (counts_of disk p.more) (counts_of disk q.more)) ∙ ap (last_count (faults_in a.ground.disks disk)) (sym (counts_of-append disk p.more q.more))));
  kept = λ opening first disk of live was. q.kept opening first disk (p.of opening of) live (p.kept opening first disk of (q.disks.live disk live) was);
  turned = λ opening first disk of was. q.turned opening first disk (p.of opening of) (p.turned opening first disk of was);
  lifts = λ from none some. lifted (last_from (events_in b)) refl from none some;
}
  where
    -- a sync was completed up to the middle, or the first is in the second stretch
    lifted : (found : Option ℕ) → last_from (events_in b) ≡ found → Lifts a c
    lifted None at from none some = omega (arith, p.disks.due, q.lifts from at some)
    lifted (Some middle) at from none some = omega (arith, p.lifts middle none at, q.disks.level)

    events_are : events_in b ≡ events_in a ++ trail_of p.more
    events_are = ap trail_of p.log ∙ trail_of-append (log_in a) p.more

    state_is : state_of (tree_in a) (events_in b) ≡ fold (state_after (tree_in a)) (state_in a) (trail_of p.more)
    state_is = ap (state_of (tree_in a)) events_are ∙ fold-append (state_after (tree_in a)) start (events_in a) (trail_of p.more)
