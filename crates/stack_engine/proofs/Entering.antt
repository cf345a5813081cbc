-- An engine with one thing more in its log: what holds of it still.
use Rattle.std.proofs.Common.{◌≡◌, ◌≢◌, ◌⊎◌, inl, inr, ℕ, ◌+◌, ◌<◌, ◌≤◌, ◌==◌, Bool, true, false, cond, nat_lt, List, [], ◌∷◌, ◌++◌, length, take, Option, Some, None, IfSome, IsSome, refl, sym, ap, subst, ◌∙◌, arith, length-append}
use Rattle.std.specs.Prelude.{slice_get, Contains}
use Rattle.std.proofs.lemmas.List.{append-nil, take-append-le, take_all}
use Rattle.std.proofs.lemmas.Bool.Decides.{nat_tests, eqb_tells}
use Rattle.std.proofs.lemmas.Option.{slice_get_within}
use Rattle.hist_plain.specs.declared.TheConstants.{MAX_EVENTS}
use Rattle.hist_plain.specs.declared.event.Event.{Event}
use Rattle.hist_plain.specs.Event.{caller_of, number_of}
use Rattle.hist_plain.specs.Plain.{Told, reply}
use Rattle.hist_plain.specs.History.{IsNumbered, mine, page_in}
use Rattle.page_ground.specs.Seen.{Imaged}
use Rattle.page_ground.specs.Seen.{AllKept, Are, AreBehind, IsFault, KeptAt, Seen, Turns, faults_in, held_in, live_in, opened_in, pages_in}
use Rattle.page_ground.specs.Seen.{kept_in as kept_on}
use Rattle.tower_core.specs.declared.sheet.Sheet.{Sheet}
use Rattle.tower_core.specs.Legal.{file_after, plain_shape}
use Rattle.tower_core.specs.Sheet.{nodes_of, pages_of, seen}
use Rattle.tower_core.specs.TreeShape.{TreeShape, frames_of, nodes}
use Rattle.tower_core.specs.Trail.{State, state_after, state_of}
use Rattle.tower_core.proofs.Legals.{state_of-snoc}
use Rattle.layer_laws.specs.Granted.{is_grant_of, is_granted_in}
use Rattle.layer_laws.specs.Side.{Side}
use Rattle.page_messages.specs.declared.paged.PagedFile.{PagedFile}
use Rattle.page_exchange.specs.Ground.{IsOneCall}
use Rattle.page_exchange.specs.declared.tables.Tables.{Tables}
use Rattle.page_exchange.specs.Tables.{AreLeft, IsSameFile, IsUnderFile, paged_of, tree_of}
use Rattle.tower_log.specs.declared.logged.Entry.{Entry}
use Rattle.tower_log.specs.declared.logged.Logged.{Logged}
use Rattle.tower_log.specs.declared.logged.Logged.TheVariants.{Entered, Noted}
use Rattle.tower_log.specs.declared.logged.Note.{Note}
use Rattle.tower_log.specs.Log.{entries_of, kept_in, place_of, told_by, trail_of}
use Rattle.tower_log.specs.Notes.{Rises, counts_of}
use Rattle.tower_shows.specs.Began.{AreSame, BeganWith, IsTrueTo, ground_shown}
use Rattle.tower_shows.specs.Reads.{IsRead, Shows}
use Rattle.tower_shows.specs.Since.{AreSince, GroundIsSince}
use Rattle.tower_shows.proofs.Rights.{rights_same}
use Rattle.tower_shows.proofs.Bytes.{bytes_same}
use Rattle.tower_shows.proofs.Telling.{began_shown, shown_began, told_shown}
use Rattle.tower_shows.proofs.Stays.{ground_stays, told_later, told_stays}
use Rattle.vmm_cache.specs.Used.{AreUses}
use Rattle.stack_engine.specs.Answers.{AreAnswers, FindsPagesOf, KeepsPagesOf, KeepsWholePages, ShowsWhatItRead}
use Rattle.stack_engine.specs.Engine.{EngineSeen, IsNext, IsSheetOf, IsSound, NotesRise, events_in, file_in, log_in, sides_in, state_in, tree_in, uses_in}
use Rattle.stack_engine.specs.Opened.{IsOf, IsSynced, KeepsSince, from_after, last_from}
use Rattle.stack_engine.proofs.Logs.{at-end, at-last, before-end, counts_of-append, counts_of-entered, entries_of-entered, kept-entered, last-there, last_from-entered, length-entries_of, not-kept, numbered-entered, rises-later, rises-more, trail_of-entered}

-- a fact of the tree and the file of tables that stayed of one file
pub at_same : (P : TreeShape → PagedFile → Type 0) (old new : Tables) → IsSameFile old new → P (tree_of old) (paged_of old) → P (tree_of new) (paged_of new)
at_same P old new same h = subst (P (tree_of new)) (sym same.file) (subst (λ (t : TreeShape). P t (paged_of old)) (sym same.tree) h)

-- THE GROUND after one call at most

pub once_under : (before after : Seen) (file : PagedFile) → IsOneCall before after → IsUnderFile before file → IsUnderFile after file
once_under before after file (inl same) under = subst (λ (s : Seen). IsUnderFile s file) (sym same) under
once_under before after file (inr keeps) under = record { size = keeps.same_size ∙ under.size; number = keeps.same_number ∙ under.number }

once_opened : (before after : Seen) (disk : ℕ) → IsOneCall before after → opened_in after.disks disk ≡ opened_in before.disks disk
once_opened before after disk (inl same) = ap (λ (s : Seen). opened_in s.disks disk) same
once_opened before after disk (inr keeps) = keeps.same_opened disk

once_faults : (before after : Seen) (disk : ℕ) → IsOneCall before after → faults_in before.disks disk ≤ faults_in after.disks disk
once_faults before after disk (inl same) = subst (λ (s : Seen). faults_in before.disks disk ≤ faults_in s.disks disk) (sym same) (omega arith)
once_faults before after disk (inr keeps) = keeps.later disk

-- what each live disk keeps is as it was, or is the ground's pages
kept_once : (P : Option (Option (List (List ℕ))) → Type 0) (before after : Seen) (disk : ℕ) → IsOneCall before after → Contains (live_in after.disks) disk
    → (Contains (live_in before.disks) disk → P (pages_in (kept_on before.disks disk))) → (KeptAt (kept_on after.disks disk) before.pages → P (pages_in (kept_on after.disks disk))) → P (pages_in (kept_on after.disks disk))
kept_once P before after disk (inl same) live was is =
    subst (λ (s : Seen). P (pages_in (kept_on s.disks disk))) (sym same) (was (subst (λ (s : Seen). Contains (live_in s.disks) disk) same live))
kept_once P before after disk (inr keeps) live was is = elim (keeps.kept disk live) [
  | inl e ↦ subst P (sym e) (was (keeps.live disk live))
  | inr at ↦ is at
]

-- what is behind stays so
pub some_image : (x y : Imaged) → ◌≡◌ {A = Option Imaged} (Some x) (Some y) → x ≡ y
some_image x y e = cc

held_before : (before after : Option (List (List ℕ))) (x y : Option Imaged) (i : Imaged) → (y ≡ x) ⊎ Turns before after x y → y ≡ Some i → (k : Imaged) × (x ≡ Some k) × (k.generation ≤ i.generation)
held_before before after x y i (inl same) is = (i, sym same ∙ is, omega arith)
held_before before after x y i (inr t) is = (t.old, t.was, subst (λ (v : Imaged). t.old.generation ≤ v.generation) (some_image t.new i (sym t.is ∙ is)) t.later)

same_or_turned : (before after : Option (List (List ℕ))) (x y : Option Imaged) (j : Imaged) → (y ≡ x) ⊎ Turns before after x y → y ≡ Some j → (x ≡ Some j) ⊎ (Are before j.pages ⊎ Are after j.pages)
same_or_turned before after x y j (inl same) is = inl (sym same ∙ is)
same_or_turned before after x y j (inr t) is = inr (subst (λ (v : Imaged). Are before v.pages ⊎ Are after v.pages) (some_image t.new j (sym t.is ∙ is)) t.pages)

pub such_pages : (Q : List (List ℕ) → Type 0) (pages : Option (List (List ℕ))) (ps : List (List ℕ)) → IsSome pages → IfSome pages Q → Are pages ps → Q ps
such_pages Q None ps told q at = absurd (let both : false ≡ true = told in cc)
such_pages Q (Some told_pages) ps told q at = subst Q (sym at) q

pub if_some_on : (P Q : List (List ℕ) → Type 0) (pages : Option (List (List ℕ))) → ((ps : List (List ℕ)) → P ps → Q ps) → IfSome pages P → IfSome pages Q
if_some_on P Q None on h = tt
if_some_on P Q (Some ps) on h = on ps h

behind_once : (P Q : List (List ℕ) → Type 0) (before after : Seen) → IsOneCall before after → ((ps : List (List ℕ)) → P ps → Q ps)
    → IsSome before.pages → IfSome before.pages Q → IsSome after.pages → IfSome after.pages Q → AreBehind P before → AreBehind Q after
behind_once P Q before after (inl same) on told q told' q' was = λ disk other i j live up is holds.
    elim (subst (AreBehind P) (sym same) was disk other i j live up is holds) [ inl p ↦ inl (on j.pages p) | inr r ↦ inr r ]
behind_once P Q before after (inr keeps) on told q told' q' was = λ disk other i j live up is holds.
    let k = held_before before.pages after.pages (held_in before.disks disk) (held_in after.disks disk) i (keeps.turned disk) is in
    elim (same_or_turned before.pages after.pages (held_in before.disks other) (held_in after.disks other) j (keeps.turned other) holds) [
      | inl still ↦ elim (was disk other k.0 j (keeps.live disk live) (sym (keeps.same_up other) ∙ up) k.1 still) [
        | inl p ↦ inl (on j.pages p)
        | inr r ↦ inr (elim r [ inl low ↦ inl (omega (arith, low, k.2)) | inr last ↦ inr (omega (arith, last, k.2)) ])
      ]
      | inr at ↦ inl (elim at [ inl a ↦ such_pages Q before.pages j.pages told q a | inr a ↦ such_pages Q after.pages j.pages told' q' a ])
    ]

-- THE NOTES

pub notes_entered : (before after : Seen) (log : List Logged) (entry : Entry) → IsOneCall before after → NotesRise before.disks log → NotesRise after.disks (log ++ Entered entry ∷ [])
notes_entered before after log entry call rise = λ disk.
    subst (λ (o : ℕ). Rises o (faults_in after.disks disk) (counts_of disk (log ++ Entered entry ∷ []))) (sym (once_opened before after disk call))
    (subst (λ (cs : List ℕ). Rises (opened_in before.disks disk) (faults_in after.disks disk) cs) (sym (counts_of-entered disk log entry))
    (rises-later (opened_in before.disks disk) (faults_in before.disks disk) (faults_in after.disks disk) (counts_of disk log) (once_faults before after disk call) (rise disk)))

pub notes_same : (before after : Seen) (log : List Logged) → IsOneCall before after → NotesRise before.disks log → NotesRise after.disks log
notes_same before after log call rise = λ disk.
    subst (λ (o : ℕ). Rises o (faults_in after.disks disk) (counts_of disk log)) (sym (once_opened before after disk call))
    (rises-later (opened_in before.disks disk) (faults_in before.disks disk) (faults_in after.disks disk) (counts_of disk log) (once_faults before after disk call) (rise disk))

noted_counts : (disk : ℕ) (log : List Logged) (note : Note) → counts_of disk (log ++ Noted note ∷ []) ≡ counts_of disk log ++ cond (note.disk == disk) (note.count ∷ []) []
noted_counts disk log note = counts_of-append disk log (Noted note ∷ [])

notes_one : (b : Bool) (opened before after count : ℕ) (counts : List ℕ) → Rises opened before counts → before ≤ after → (b ≡ true → (before < count) × (count ≤ after)) → Rises opened after (counts ++ cond b (count ∷ []) [])
notes_one true opened before after count counts rise le h = rises-more opened before count after counts rise (h refl).0 (h refl).1
notes_one false opened before after count counts rise le h = subst (Rises opened after) (sym (append-nil counts)) (rises-later opened before after counts le rise)

pub notes_noted : (before after : Seen) (log : List Logged) (caller disk count : ℕ) → IsOneCall before after → IsFault before after (record { disk = disk; count = count }) → NotesRise before.disks log
    → NotesRise after.disks (log ++ Noted (record { caller = caller; disk = disk; count = count }) ∷ [])
notes_noted before after log caller disk count call fault rise = λ d.
    subst (λ (o : ℕ). Rises o (faults_in after.disks d) (counts_of d (log ++ Noted (record { caller = caller; disk = disk; count = count }) ∷ []))) (sym (once_opened before after d call))
    (subst (λ (cs : List ℕ). Rises (opened_in before.disks d) (faults_in after.disks d) cs) (sym (noted_counts d log (record { caller = caller; disk = disk; count = count })))
    (notes_one (disk == d) (opened_in before.disks d) (faults_in before.disks d) (faults_in after.disks d) count (counts_of d log) (rise d) (once_faults before after d call)
    (λ e. elim (eqb_tells disk d) [
      | inl is ↦ subst (λ (x : ℕ). (faults_in before.disks x < count) × (count ≤ faults_in after.disks x)) is.1 (fault.above, omega (arith, fault.exact))
      | inr d' ↦ absurd (let both : true ≡ false = sym e ∙ d'.0 in cc)
    ])))

-- ONE EVENT MORE

below_or_not : (a b : ℕ) → (a < b) ⊎ (a < b → ⊥)
below_or_not a b = by (nat_lt a b) refl
  where
    by : (t : Bool) → nat_lt a b ≡ t → (a < b) ⊎ (a < b → ⊥)
    by true e = inl (grind (arith, nat_tests))
    by false e = inr (λ lt. grind (arith, nat_tests))

-- what a log with one entry more has, its beginning had
before_is : (log : List Logged) (entry : Entry) (place : ℕ) → place ≤ length (trail_of log) → take place (trail_of (log ++ Entered entry ∷ [])) ≡ take place (trail_of log)
before_is log entry place le = ap (take place) (trail_of-entered log entry) ∙ take-append-le place (trail_of log) (entry.event ∷ []) le

all_before : (log : List Logged) (entry : Entry) → take (length (trail_of log)) (trail_of (log ++ Entered entry ∷ [])) ≡ trail_of log
all_before log entry = before_is log entry (length (trail_of log)) (omega arith) ∙ take_all (length (trail_of log)) (trail_of log) (omega arith)

entry_there : (log : List Logged) (entry other : Entry) (place : ℕ) → slice_get (entries_of (log ++ Entered entry ∷ [])) place ≡ Some other → slice_get (entries_of log ++ entry ∷ []) place ≡ Some other
entry_there log entry other place is = sym (ap (λ (es : List Entry). slice_get es place) (entries_of-entered log entry)) ∙ is

answers_entered : (shape : TreeShape) (size : ℕ) (opening : List ℕ) (log : List Logged) (entry : Entry) → AreAnswers shape size opening log
    → reply (plain_shape shape size) (file_after shape size opening (trail_of log)) entry.event ≡ told_by entry → AreAnswers shape size opening (log ++ Entered entry ∷ [])
answers_entered shape size opening log entry answers told place other is = by (below_or_not place (length (entries_of log)))
  where
    replied : List Event → Event → Option Told
    replied es event = reply (plain_shape shape size) (file_after shape size opening es) event

    there : slice_get (entries_of log ++ entry ∷ []) place ≡ Some other
    there = entry_there log entry other place is

    many : length (entries_of log) ≡ length (trail_of log)
    many = length-entries_of log

    by : (place < length (entries_of log)) ⊎ (place < length (entries_of log) → ⊥) → replied (take place (trail_of (log ++ Entered entry ∷ []))) other.event ≡ told_by other
    by (inl lt) = ap (λ (es : List Event). replied es other.event) (before_is log entry place (omega (arith, lt, many)))
        ∙ answers place other (at-end (entries_of log) entry other place lt there)
    by (inr beyond) = let last = at-last (entries_of log) entry other place beyond there in
        let at : place ≡ length (trail_of log) = last.0 ∙ many in
        ap (λ (es : List Event). replied es other.event) (ap (λ (k : ℕ). take k (trail_of (log ++ Entered entry ∷ []))) at ∙ all_before log entry)
        ∙ ap (λ (e : Entry). replied (trail_of log) e.event) (sym last.1)
        ∙ told
        ∙ ap told_by last.1

finds_before : (shape : TreeShape) (size : ℕ) (opening : List ℕ) (log : List Logged) (entry : Entry) → FindsPagesOf shape size opening (log ++ Entered entry ∷ []) → FindsPagesOf shape size opening log
finds_before shape size opening log entry finds place page other is read =
    let inside : place < length (entries_of log) = slice_get_within (entries_of log) place other is in
    let many : length (entries_of log) ≡ length (trail_of log) = length-entries_of log in
    let same : take place (trail_of (log ++ Entered entry ∷ [])) ≡ take place (trail_of log) = before_is log entry place (omega (arith, inside, many)) in
    finds place page other (ap (λ (es : List Entry). slice_get es place) (entries_of-entered log entry) ∙ before-end (entries_of log) entry other place is) (subst (λ (es : List Event). IsRead shape es page other.event) (sym same) read)
    ∙ ap (λ (es : List Event). ground_shown shape size opening es page) same

-- the last one found its page, if it was read
pub finds_last : (shape : TreeShape) (size : ℕ) (opening : List ℕ) (log : List Logged) (entry : Entry) (page : ℕ) → FindsPagesOf shape size opening (log ++ Entered entry ∷ []) → IsRead shape (trail_of log) page entry.event
    → entry.bytes ≡ ground_shown shape size opening (trail_of log) page
finds_last shape size opening log entry page finds read =
    let many : length (entries_of log) ≡ length (trail_of log) = length-entries_of log in
    finds (length (trail_of log)) page entry
    (ap (λ (es : List Entry). slice_get es (length (trail_of log))) (entries_of-entered log entry) ∙ ap (λ (k : ℕ). slice_get (entries_of log ++ entry ∷ []) k) (sym many) ∙ last-there (entries_of log) entry)
    (subst (λ (es : List Event). IsRead shape es page entry.event) (sym (all_before log entry)) read)
    ∙ ap (λ (es : List Event). ground_shown shape size opening es page) (all_before log entry)

-- a log that shows what it read, with one entry more: as of a ground that told the pages
pub shows_entered : (shape : TreeShape) (size pages : ℕ) (log : List Logged) (entry : Entry) (old new : ℕ → ℕ → Side) → ShowsWhatItRead shape size pages log old
    → ((opening : List ℕ) → FindsPagesOf shape size opening (log ++ Entered entry ∷ []) → BeganWith shape size pages opening (trail_of log) old (told_shown shape size pages opening (trail_of log))
    → Shows shape size pages opening (trail_of log ++ entry.event ∷ []) new × (reply (plain_shape shape size) (file_after shape size opening (trail_of log)) entry.event ≡ told_by entry))
    → ShowsWhatItRead shape size pages (log ++ Entered entry ∷ []) new
shows_entered shape size pages log entry old new shows next opening sized finds =
    let before = shows opening sized (finds_before shape size opening log entry finds) in
    let after = next opening finds (shown_began shape size pages opening (trail_of log) old before.0) in
    (subst (λ (es : List Event). Shows shape size pages opening es new) (sym (trail_of-entered log entry)) after.0, answers_entered shape size opening log entry before.1 after.1)

-- a log whose entries are the same, and tables that differ nowhere
shows_left : (shape : TreeShape) (size pages : ℕ) (log log' : List Logged) (old new : ℕ → ℕ → Side) → trail_of log' ≡ trail_of log → entries_of log' ≡ entries_of log → AreSame old new
    → ShowsWhatItRead shape size pages log old → ShowsWhatItRead shape size pages log' new
shows_left shape size pages log log' old new trail entries same shows opening sized finds =
    let was = shows opening sized (λ place page entry is read.
    finds place page entry (ap (λ (es : List Entry). slice_get es place) entries ∙ is) (subst (λ (es : List Event). IsRead shape (take place es) page entry.event) (sym trail) read)
    ∙ ap (λ (es : List Event). ground_shown shape size opening (take place es) page) trail) in (
      subst (λ (es : List Event). Shows shape size pages opening es new) (sym trail)
          (began_shown shape size pages opening (trail_of log) new (told_shown shape size pages opening (trail_of log))
          (bytes_same shape size pages opening (trail_of log) old new (told_shown shape size pages opening (trail_of log)) (shown_began shape size pages opening (trail_of log) old was.0) same)),
      λ place other is. ap (λ (es : List Event). reply (plain_shape shape size) (file_after shape size opening (take place es)) other.event) trail
          ∙ was.1 place other (sym (ap (λ (es : List Entry). slice_get es place) entries) ∙ is),
    )

module _ (old new : EngineSeen) (entry : Entry) (sound : IsSound old) (file : IsSameFile old.tables new.tables) (log : log_in new ≡ log_in old ++ Entered entry ∷ [])
    (next : IsNext old entry.event) (few : place_of (log_in old) < MAX_EVENTS) (call : IsOneCall old.ground new.ground)
    (true_to : IsTrueTo (tree_in old) (file_in old).page_size (file_in old).pages (events_in old ++ entry.event ∷ []) (sides_in new)) where
  pub events_are : events_in new ≡ events_in old ++ entry.event ∷ []
  events_are = ap trail_of log ∙ trail_of-entered (log_in old) entry

  place_is : place_of (log_in new) ≡ place_of (log_in old) + 1
  place_is = ap (λ (es : List Event). length es) events_are ∙ length-append (events_in old) (entry.event ∷ [])

  pub sound_entered : new.trail.page_size ≡ old.trail.page_size → ((c : ℕ) → caller_of entry.event ≡ Some c → number_of entry.event ≡ length (mine (events_in old) c))
      → ((leaf : ℕ) → 0 < leaf → frames_of (tree_in old) leaf ≢ 0 → AreUses (state_of (tree_in old) (events_in old ++ entry.event ∷ [])) leaf (uses_in new leaf))
      → ShowsWhatItRead (tree_in old) (file_in old).page_size (file_in old).pages (log_in old ++ Entered entry ∷ []) (sides_in new)
      → ((page : ℕ) → is_granted_in page (events_in old) ≡ false → is_grant_of page entry.event ≡ true → (page < (file_in old).pages) × (length entry.bytes ≡ (file_in old).page_size)) → IsSound new
  sound_entered size number listed shows whole = record {
    true_to = at_same (λ (t : TreeShape) (f : PagedFile). IsTrueTo t f.page_size f.pages (events_in new) (sides_in new)) old.tables new.tables file
        (subst (λ (es : List Event). IsTrueTo (tree_in old) (file_in old).page_size (file_in old).pages es (sides_in new)) (sym events_are) true_to);
    under = at_same (λ (t : TreeShape) (f : PagedFile). IsUnderFile new.ground f) old.tables new.tables file (once_under old.ground new.ground (file_in old) call sound.under);
    listed = at_same (λ (t : TreeShape) (f : PagedFile). (leaf : ℕ) → 0 < leaf → frames_of t leaf ≢ 0 → AreUses (state_of t (events_in new)) leaf (uses_in new leaf)) old.tables new.tables file
        (subst (λ (es : List Event). (leaf : ℕ) → 0 < leaf → frames_of (tree_in old) leaf ≢ 0 → AreUses (state_of (tree_in old) es) leaf (uses_in new leaf)) (sym events_are) listed);
    few = omega (arith, place_is, few);
    numbered = subst IsNumbered (sym events_are) (numbered-entered (events_in old) entry.event sound.numbered number);
    notes = subst (NotesRise new.ground.disks) (sym log) (notes_entered old.ground new.ground (log_in old) entry call sound.notes);
    page_size = size ∙ sound.page_size ∙ ap (λ (f : PagedFile). f.page_size) (sym file.file);
    shows = at_same (λ (t : TreeShape) (f : PagedFile). ShowsWhatItRead t f.page_size f.pages (log_in new) (sides_in new)) old.tables new.tables file
        (subst (λ (l : List Logged). ShowsWhatItRead (tree_in old) (file_in old).page_size (file_in old).pages l (sides_in new)) (sym log) shows);
    keeps = at_same (λ (t : TreeShape) (f : PagedFile). KeepsWholePages f.page_size f.pages (log_in new)) old.tables new.tables file
        (subst (KeepsWholePages (file_in old).page_size (file_in old).pages) (sym log)
        (λ page bytes is. kept-entered page (log_in old) entry bytes ((page < (file_in old).pages) × (length bytes ≡ (file_in old).page_size)) is
        (λ before. sound.keeps page bytes before)
        (λ none grant are. subst (λ (b : List ℕ). (page < (file_in old).pages) × (length b ≡ (file_in old).page_size)) are (whole page (not-kept page (log_in old) none) grant))));
  }

  pub sheet_entered : (sheet sheet' : Sheet) → IsSheetOf old sheet → nodes_of sheet' ≡ nodes_of sheet → pages_of sheet' ≡ pages_of sheet → seen sheet' ≡ state_after (tree_in new) (seen sheet) entry.event → IsSheetOf new sheet'
  sheet_entered sheet sheet' is same_nodes same_pages state = record {
    nodes_are = same_nodes ∙ is.nodes_are ∙ ap nodes (sym file.tree);
    pages_are = same_pages ∙ is.pages_are ∙ ap (λ (f : PagedFile). f.pages) (sym file.file);
    state_is = state
        ∙ ap (λ (s : State). state_after (tree_in new) s entry.event) is.state_is
        ∙ ap (λ (t : TreeShape). state_after t (state_in old) entry.event) file.tree
        ∙ sym (state_of-snoc (tree_in old) (events_in old) entry.event)
        ∙ ap (λ (t : TreeShape). state_of t (events_in old ++ entry.event ∷ [])) (sym file.tree)
        ∙ ap (λ (es : List Event). state_of (tree_in new) es) (sym events_are);
  }

  -- the file that the trail began with
  module _ (opening : List ℕ) (of : IsOf opening old) (began : BeganWith (tree_in old) (file_in old).page_size (file_in old).pages opening (events_in old ++ entry.event ∷ []) (sides_in new) new.ground.pages)
      (kept : (page : ℕ) → is_granted_in page (events_in old) ≡ false → is_grant_of page entry.event ≡ true → entry.bytes ≡ page_in (file_in old).page_size opening page)
      (told : reply (plain_shape (tree_in old) (file_in old).page_size) (file_after (tree_in old) (file_in old).page_size opening (events_in old)) entry.event ≡ told_by entry) where
    keeps_all : KeepsPagesOf (file_in old).page_size opening (log_in old ++ Entered entry ∷ [])
    keeps_all page bytes is = kept-entered page (log_in old) entry bytes (bytes ≡ page_in (file_in old).page_size opening page) is
        (λ before. of.keeps page bytes before)
        (λ none grant are. sym are ∙ kept page (not-kept page (log_in old) none) grant)

    answers_all : AreAnswers (tree_in old) (file_in old).page_size opening (log_in old ++ Entered entry ∷ [])
    answers_all = answers_entered (tree_in old) (file_in old).page_size opening (log_in old) entry of.answers told

    -- a disk that kept pages from a place on, or now keeps the ground's
    disk_since : (from disk : ℕ) → GroundIsSince (tree_in old) (file_in old).page_size (file_in old).pages opening (events_in old) from → Contains (live_in new.ground.disks) disk
        → (Contains (live_in old.ground.disks) disk → KeepsSince (tree_in old) (file_in old).page_size opening (events_in old) from (kept_on old.ground.disks disk))
        → KeepsSince (tree_in old) (file_in old).page_size opening (events_in old ++ entry.event ∷ []) from (kept_on new.ground.disks disk)
    disk_since from disk ground live was = kept_once Since old.ground new.ground disk call live
        (λ lived. longer (pages_in (kept_on old.ground.disks disk)) (was lived))
        (λ at. of_ground (kept_on new.ground.disks disk) old.ground.pages at (told_stays (tree_in old) (file_in old).page_size (file_in old).pages opening (events_in old) (sides_in old) old.ground.pages from sound.true_to of.began ground) of.began.is_told)
      where
        Since : Option (Option (List (List ℕ))) → Type 0
        Since kept = IfSome kept (λ pages. (ps : List (List ℕ)) × (pages ≡ Some ps) × AreSince (tree_in old) (file_in old).page_size opening (events_in old ++ entry.event ∷ []) from ps)

        longer : (kept : Option (Option (List (List ℕ)))) → IfSome kept (λ pages. (ps : List (List ℕ)) × (pages ≡ Some ps) × AreSince (tree_in old) (file_in old).page_size opening (events_in old) from ps) → Since kept
        longer None h = tt
        longer (Some pages) h = (h.0, h.1, told_later (tree_in old) (file_in old).page_size opening (events_in old) (entry.event ∷ []) from h.0 h.2)

        of_ground : (kept : Option (Option Imaged)) (pages : Option (List (List ℕ))) → KeptAt kept pages → IfSome pages (AreSince (tree_in old) (file_in old).page_size opening (events_in old) from) → IsSome pages → Since (pages_in kept)
        of_ground None pages at since some = tt
        of_ground (Some image) None at since some = absurd (let both : false ≡ true = some in cc)
        of_ground (Some image) (Some ps) at since some = (ps, at, told_later (tree_in old) (file_in old).page_size opening (events_in old) (entry.event ∷ []) from ps since)

    -- what the last sync left, as it is told of the longer trail
    pub record SyncedLater (from : ℕ) : Type 0 where
      pub reached : from ≤ length (events_in old) + 1
      pub ground : GroundIsSince (tree_in old) (file_in old).page_size (file_in old).pages opening (events_in old ++ entry.event ∷ []) from
      pub disks : (disk : ℕ) → Contains (live_in new.ground.disks) disk → KeepsSince (tree_in old) (file_in old).page_size opening (events_in old ++ entry.event ∷ []) from (kept_on new.ground.disks disk)
      pub behind : AreBehind (AreSince (tree_in old) (file_in old).page_size opening (events_in old ++ entry.event ∷ []) from) new.ground

    pub of_with : ((from : ℕ) → last_from (events_in old ++ entry.event ∷ []) ≡ Some from → SyncedLater from) → IsOf opening new
    of_with synced = record {
      began = at_same (λ (t : TreeShape) (f : PagedFile). BeganWith t f.page_size f.pages opening (events_in new) (sides_in new) new.ground.pages) old.tables new.tables file
          (subst (λ (es : List Event). BeganWith (tree_in old) (file_in old).page_size (file_in old).pages opening es (sides_in new) new.ground.pages) (sym events_are) began);
      keeps = at_same (λ (t : TreeShape) (f : PagedFile). KeepsPagesOf f.page_size opening (log_in new)) old.tables new.tables file
          (subst (KeepsPagesOf (file_in old).page_size opening) (sym log) keeps_all);
      answers = at_same (λ (t : TreeShape) (f : PagedFile). AreAnswers t f.page_size opening (log_in new)) old.tables new.tables file
          (subst (AreAnswers (tree_in old) (file_in old).page_size opening) (sym log) answers_all);
      synced = λ from last.
          let s : SyncedLater from = synced from (sym (ap last_from events_are) ∙ last) in
          record {
            reached = let r = s.reached in omega (arith, place_is, r);
            ground = at_same (λ (t : TreeShape) (f : PagedFile). GroundIsSince t f.page_size f.pages opening (events_in new) from) old.tables new.tables file
                (subst (λ (es : List Event). GroundIsSince (tree_in old) (file_in old).page_size (file_in old).pages opening es from) (sym events_are) s.ground);
            disks = λ disk live. at_same (λ (t : TreeShape) (f : PagedFile). KeepsSince t f.page_size opening (events_in new) from (kept_on new.ground.disks disk)) old.tables new.tables file
                (subst (λ (es : List Event). KeepsSince (tree_in old) (file_in old).page_size opening es from (kept_on new.ground.disks disk)) (sym events_are) (s.disks disk live));
            behind = at_same (λ (t : TreeShape) (f : PagedFile). AreBehind (AreSince t f.page_size opening (events_in new) from) new.ground) old.tables new.tables file
                (subst (λ (es : List Event). AreBehind (AreSince (tree_in old) (file_in old).page_size opening es from) new.ground) (sym events_are) s.behind);
          };
    }

    -- an event that completes no sync
    pub of_entered : from_after (last_from (events_in old)) entry.event ≡ last_from (events_in old) → IsOf opening new
    of_entered quiet = of_with (λ from last.
        let s : IsSynced opening old from = of.synced from (sym quiet ∙ sym (last_from-entered (events_in old) entry.event) ∙ last) in
        let ground : GroundIsSince (tree_in old) (file_in old).page_size (file_in old).pages opening (events_in old ++ entry.event ∷ []) from =
        ground_stays (tree_in old) (file_in old).page_size (file_in old).pages opening (events_in old) (sides_in old) entry.event from sound.true_to next s.reached s.ground in
        record {
          reached = let r = s.reached in omega (arith, r);
          ground = ground;
          disks = λ disk live. disk_since from disk s.ground live (s.disks disk);
          behind = behind_once (AreSince (tree_in old) (file_in old).page_size opening (events_in old) from) (AreSince (tree_in old) (file_in old).page_size opening (events_in old ++ entry.event ∷ []) from) old.ground new.ground call
              (λ ps was. told_later (tree_in old) (file_in old).page_size opening (events_in old) (entry.event ∷ []) from ps was)
              of.began.is_told
              (if_some_on (AreSince (tree_in old) (file_in old).page_size opening (events_in old) from) (AreSince (tree_in old) (file_in old).page_size opening (events_in old ++ entry.event ∷ []) from) old.ground.pages
              (λ ps was. told_later (tree_in old) (file_in old).page_size opening (events_in old) (entry.event ∷ []) from ps was)
              (told_stays (tree_in old) (file_in old).page_size (file_in old).pages opening (events_in old) (sides_in old) old.ground.pages from sound.true_to of.began s.ground))
              began.is_told (told_stays (tree_in old) (file_in old).page_size (file_in old).pages opening (events_in old ++ entry.event ∷ []) (sides_in new) new.ground.pages from true_to began ground)
              s.behind;
        })

    -- a sync that was completed, where each live disk then kept the ground's pages
    pub of_synced : (from : ℕ) → from_after (last_from (events_in old)) entry.event ≡ Some from → from ≤ length (events_in old)
        → GroundIsSince (tree_in old) (file_in old).page_size (file_in old).pages opening (events_in old ++ entry.event ∷ []) from
        → AllKept new.ground new.ground.pages → IsOf opening new
    of_synced from is reached ground kept_now = of_with (λ from' last.
        let same : from ≡ from' = some_is from from' (sym is ∙ sym (last_from-entered (events_in old) entry.event) ∙ last) in
        subst SyncedLater same (record {
          reached = omega (arith, reached);
          ground = ground;
          disks = λ disk live. kept_pages (kept_on new.ground.disks disk) new.ground.pages (kept_now.kept disk live) since began.is_told;
          behind = λ disk other i j live up is holds. elim (kept_now.behind disk other i j live up is holds) [
            | inl a ↦ inl (such_pages (AreSince (tree_in old) (file_in old).page_size opening (events_in old ++ entry.event ∷ []) from) new.ground.pages j.pages began.is_told since a)
            | inr r ↦ inr r
          ];
        }))
      where
        since : IfSome new.ground.pages (AreSince (tree_in old) (file_in old).page_size opening (events_in old ++ entry.event ∷ []) from)
        since = told_stays (tree_in old) (file_in old).page_size (file_in old).pages opening (events_in old ++ entry.event ∷ []) (sides_in new) new.ground.pages from true_to began ground

        some_is : (a b : ℕ) → Some a ≡ Some b → a ≡ b
        some_is a b e = cc

        kept_pages : (kept : Option (Option Imaged)) (pages : Option (List (List ℕ))) → KeptAt kept pages → IfSome pages (AreSince (tree_in old) (file_in old).page_size opening (events_in old ++ entry.event ∷ []) from) → IsSome pages
            → KeepsSince (tree_in old) (file_in old).page_size opening (events_in old ++ entry.event ∷ []) from kept
        kept_pages None pages at since some = tt
        kept_pages (Some image) None at since some = absurd (let both : false ≡ true = some in cc)
        kept_pages (Some image) (Some ps) at since some = (ps, at, since)

-- NO EVENT, after a call of the ground at most, or a note

module _ (old new : EngineSeen) (sound : IsSound old) (file : IsSameFile old.tables new.tables) (left : AreLeft old.tables new.tables) (call : IsOneCall old.ground new.ground) (pages : new.ground.pages ≡ old.ground.pages)
    (size : new.trail.page_size ≡ old.trail.page_size) (events_are : events_in new ≡ events_in old) where
  left_true : IsTrueTo (tree_in old) (file_in old).page_size (file_in old).pages (events_in old) (sides_in new)
  left_true = rights_same (tree_in old) (file_in old).page_size (file_in old).pages (events_in old) (sides_in old) (sides_in new) sound.true_to left.sides

  pub sound_left : NotesRise new.ground.disks (log_in new) → entries_of (log_in new) ≡ entries_of (log_in old) → ((page : ℕ) → kept_in page (log_in new) ≡ kept_in page (log_in old)) → IsSound new
  sound_left notes entries_same kept_same = record {
    true_to = at_same (λ (t : TreeShape) (f : PagedFile). IsTrueTo t f.page_size f.pages (events_in new) (sides_in new)) old.tables new.tables file
        (subst (λ (es : List Event). IsTrueTo (tree_in old) (file_in old).page_size (file_in old).pages es (sides_in new)) (sym events_are) left_true);
    under = at_same (λ (t : TreeShape) (f : PagedFile). IsUnderFile new.ground f) old.tables new.tables file (once_under old.ground new.ground (file_in old) call sound.under);
    listed = at_same (λ (t : TreeShape) (f : PagedFile). (leaf : ℕ) → 0 < leaf → frames_of t leaf ≢ 0 → AreUses (state_of t (events_in new)) leaf (uses_in new leaf)) old.tables new.tables file
        (subst (λ (es : List Event). (leaf : ℕ) → 0 < leaf → frames_of (tree_in old) leaf ≢ 0 → AreUses (state_of (tree_in old) es) leaf (uses_in new leaf)) (sym events_are)
        (λ leaf above some. subst (AreUses (state_in old) leaf) (sym (left.uses leaf)) (sound.listed leaf above some)));
    few = subst (λ (es : List Event). length es ≤ MAX_EVENTS) (sym events_are) sound.few;
    numbered = subst IsNumbered (sym events_are) sound.numbered;
    notes = notes;
    page_size = size ∙ sound.page_size ∙ ap (λ (f : PagedFile). f.page_size) (sym file.file);
    shows = at_same (λ (t : TreeShape) (f : PagedFile). ShowsWhatItRead t f.page_size f.pages (log_in new) (sides_in new)) old.tables new.tables file
        (shows_left (tree_in old) (file_in old).page_size (file_in old).pages (log_in old) (log_in new) (sides_in old) (sides_in new) events_are entries_same left.sides sound.shows);
    keeps = at_same (λ (t : TreeShape) (f : PagedFile). KeepsWholePages f.page_size f.pages (log_in new)) old.tables new.tables file
        (λ page bytes is. sound.keeps page bytes (sym (kept_same page) ∙ is));
  }

  pub sheet_left : (sheet : Sheet) → IsSheetOf old sheet → IsSheetOf new sheet
  sheet_left sheet is = record {
    nodes_are = is.nodes_are ∙ ap nodes (sym file.tree);
    pages_are = is.pages_are ∙ ap (λ (f : PagedFile). f.pages) (sym file.file);
    state_is = is.state_is ∙ ap (λ (t : TreeShape). state_of t (events_in old)) (sym file.tree) ∙ ap (λ (es : List Event). state_of (tree_in new) es) (sym events_are);
  }

  module _ (opening : List ℕ) (of : IsOf opening old) (kept_same : (page : ℕ) → kept_in page (log_in new) ≡ kept_in page (log_in old)) (entries_same : entries_of (log_in new) ≡ entries_of (log_in old)) where
    left_disks : (from disk : ℕ) → GroundIsSince (tree_in old) (file_in old).page_size (file_in old).pages opening (events_in old) from → Contains (live_in new.ground.disks) disk
        → (Contains (live_in old.ground.disks) disk → KeepsSince (tree_in old) (file_in old).page_size opening (events_in old) from (kept_on old.ground.disks disk))
        → KeepsSince (tree_in old) (file_in old).page_size opening (events_in old) from (kept_on new.ground.disks disk)
    left_disks from disk ground live was = kept_once Since old.ground new.ground disk call live was
        (λ at. of_ground (kept_on new.ground.disks disk) old.ground.pages at (told_stays (tree_in old) (file_in old).page_size (file_in old).pages opening (events_in old) (sides_in old) old.ground.pages from sound.true_to of.began ground) of.began.is_told)
      where
        Since : Option (Option (List (List ℕ))) → Type 0
        Since kept = IfSome kept (λ pages. (ps : List (List ℕ)) × (pages ≡ Some ps) × AreSince (tree_in old) (file_in old).page_size opening (events_in old) from ps)

        of_ground : (kept : Option (Option Imaged)) (pages : Option (List (List ℕ))) → KeptAt kept pages → IfSome pages (AreSince (tree_in old) (file_in old).page_size opening (events_in old) from) → IsSome pages → Since (pages_in kept)
        of_ground None pages at since some = tt
        of_ground (Some image) None at since some = absurd (let both : false ≡ true = some in cc)
        of_ground (Some image) (Some ps) at since some = (ps, at, since)

    left_behind : (from : ℕ) → GroundIsSince (tree_in old) (file_in old).page_size (file_in old).pages opening (events_in old) from
        → AreBehind (AreSince (tree_in old) (file_in old).page_size opening (events_in old) from) old.ground → AreBehind (AreSince (tree_in old) (file_in old).page_size opening (events_in old) from) new.ground
    left_behind from ground was =
        behind_once Since Since old.ground new.ground call (λ ps same. same) of.began.is_told since (subst (λ (ps : Option (List (List ℕ))). IsSome ps) (sym pages) of.began.is_told) (subst (λ (ps : Option (List (List ℕ))). IfSome ps Since) (sym pages) since) was
      where
        Since : List (List ℕ) → Type 0
        Since ps = AreSince (tree_in old) (file_in old).page_size opening (events_in old) from ps

        since : IfSome old.ground.pages Since
        since = told_stays (tree_in old) (file_in old).page_size (file_in old).pages opening (events_in old) (sides_in old) old.ground.pages from sound.true_to of.began ground

    pub of_left : IsOf opening new
    of_left = record {
      began = at_same (λ (t : TreeShape) (f : PagedFile). BeganWith t f.page_size f.pages opening (events_in new) (sides_in new) new.ground.pages) old.tables new.tables file
          (subst (λ (es : List Event). BeganWith (tree_in old) (file_in old).page_size (file_in old).pages opening es (sides_in new) new.ground.pages) (sym events_are)
          (subst (BeganWith (tree_in old) (file_in old).page_size (file_in old).pages opening (events_in old) (sides_in new)) (sym pages)
          (bytes_same (tree_in old) (file_in old).page_size (file_in old).pages opening (events_in old) (sides_in old) (sides_in new) old.ground.pages of.began left.sides)));
      keeps = at_same (λ (t : TreeShape) (f : PagedFile). KeepsPagesOf f.page_size opening (log_in new)) old.tables new.tables file
          (λ page bytes is. of.keeps page bytes (sym (kept_same page) ∙ is));
      answers = at_same (λ (t : TreeShape) (f : PagedFile). AreAnswers t f.page_size opening (log_in new)) old.tables new.tables file
          (λ place other is. ap (λ (es : List Event). reply (plain_shape (tree_in old) (file_in old).page_size) (file_after (tree_in old) (file_in old).page_size opening (take place es)) other.event) events_are
          ∙ of.answers place other (sym (ap (λ (es : List Entry). slice_get es place) entries_same) ∙ is));
      synced = λ from last.
          let s : IsSynced opening old from = of.synced from (sym (ap last_from events_are) ∙ last) in
          record {
            reached = subst (λ (es : List Event). from ≤ length es) (sym events_are) s.reached;
            ground = at_same (λ (t : TreeShape) (f : PagedFile). GroundIsSince t f.page_size f.pages opening (events_in new) from) old.tables new.tables file
                (subst (λ (es : List Event). GroundIsSince (tree_in old) (file_in old).page_size (file_in old).pages opening es from) (sym events_are) s.ground);
            disks = λ disk live. at_same (λ (t : TreeShape) (f : PagedFile). KeepsSince t f.page_size opening (events_in new) from (kept_on new.ground.disks disk)) old.tables new.tables file
                (subst (λ (es : List Event). KeepsSince (tree_in old) (file_in old).page_size opening es from (kept_on new.ground.disks disk)) (sym events_are) (left_disks from disk s.ground live (s.disks disk)));
            behind = at_same (λ (t : TreeShape) (f : PagedFile). AreBehind (AreSince t f.page_size opening (events_in new) from) new.ground) old.tables new.tables file
                (subst (λ (es : List Event). AreBehind (AreSince (tree_in old) (file_in old).page_size opening es from) new.ground) (sym events_are) (left_behind from s.ground s.behind));
          };
    }
