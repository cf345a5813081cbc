-- What one more thing makes of a log: its entries, its trail, the pages that it keeps and the counts of its notes.
use Rattle.std.proofs.Common.{◌≡◌, ℕ, suc, ◌+◌, ◌<◌, ◌≤◌, Bool, true, false, cond, eqb, List, [], ◌∷◌, ◌++◌, length, map, Option, Some, None, refl, ap, ◌∙◌, arith, append-nil, length-append}
use Rattle.std.specs.List.{slice_get}
use Rattle.std.specs.Option.{option_map, option_and_then}
use Rattle.std.proofs.lemmas.Option.{slice_get-map}
use Rattle.hist_plain.specs.declared.event.Event.{Event}
use Rattle.tower_log.specs.declared.logged.Entry.{Entry}
use Rattle.tower_log.specs.declared.logged.Note.{Note}
use Rattle.tower_log.specs.declared.logged.Logged.{Logged}
use Rattle.tower_log.specs.declared.logged.Logged.TheVariants.{Entered, Noted}
use Rattle.tower_log.specs.Log.{entries_of, trail_of, place_of, told_by, bytes_told, read_at, kept_by, first_of, kept_in}
use Rattle.tower_log.specs.Notes.{counts_of, Rises}
use Rattle.tower_log.proofs.BlockLaws.{slice_get-append_left, slice_get-append_right}

pub entries_of-append : (log more : List Logged) → entries_of (log ++ more) ≡ entries_of log ++ entries_of more
entries_of-append [] more = refl
entries_of-append (Entered entry ∷ log) more = ap (λ (es : List Entry). entry ∷ es) (entries_of-append log more)
entries_of-append (Noted note ∷ log) more = entries_of-append log more

pub trail_of-append : (log more : List Logged) → trail_of (log ++ more) ≡ trail_of log ++ trail_of more
trail_of-append [] more = refl
trail_of-append (Entered entry ∷ log) more = ap (λ (es : List Event). entry.event ∷ es) (trail_of-append log more)
trail_of-append (Noted note ∷ log) more = trail_of-append log more

-- one more event
pub trail_of-entered : (log : List Logged) (entry : Entry) → trail_of (log ++ Entered entry ∷ []) ≡ trail_of log ++ entry.event ∷ []
trail_of-entered log entry = trail_of-append log (Entered entry ∷ [])

-- a note is no event
pub trail_of-noted : (log : List Logged) (note : Note) → trail_of (log ++ Noted note ∷ []) ≡ trail_of log
trail_of-noted log note = trail_of-append log (Noted note ∷ []) ∙ append-nil (trail_of log)

pub place_of-entered : (log : List Logged) (entry : Entry) → place_of (log ++ Entered entry ∷ []) ≡ place_of log + 1
place_of-entered log entry = ap length (trail_of-entered log entry) ∙ length-append (trail_of log) (entry.event ∷ [])

pub place_of-noted : (log : List Logged) (note : Note) → place_of (log ++ Noted note ∷ []) ≡ place_of log
place_of-noted log note = ap length (trail_of-noted log note)

-- the trail is the events of the entries
pub trail_of-entries : (log : List Logged) → trail_of log ≡ map (λ (e : Entry). e.event) (entries_of log)
trail_of-entries [] = refl
trail_of-entries (Entered entry ∷ log) = ap (λ (es : List Event). entry.event ∷ es) (trail_of-entries log)
trail_of-entries (Noted note ∷ log) = trail_of-entries log

-- there are as many events as entries
pub place_of-entries : (log : List Logged) → place_of log ≡ length (entries_of log)
place_of-entries [] = refl
place_of-entries (Entered entry ∷ log) = ap suc (place_of-entries log)
place_of-entries (Noted note ∷ log) = place_of-entries log

-- the event of an entry stands at its place in the trail
pub event-at : (log : List Logged) (place : ℕ) → slice_get (trail_of log) place ≡ option_map (λ (e : Entry). e.event) (slice_get (entries_of log) place)
event-at log place = ap (λ (es : List Event). slice_get es place) (trail_of-entries log) ∙ slice_get-map (λ (e : Entry). e.event) (entries_of log) place

-- an older entry stays at its place
pub entry-older : (log more : List Logged) (place : ℕ) → place < place_of log → slice_get (entries_of (log ++ more)) place ≡ slice_get (entries_of log) place
entry-older log more place lt =
    let len = place_of-entries log in
    ap (λ (es : List Entry). slice_get es place) (entries_of-append log more) ∙ slice_get-append_left (entries_of log) (entries_of more) place (omega arith)

-- and what it read
pub read_at-older : (log more : List Logged) (place : ℕ) → place < place_of log → read_at (log ++ more) place ≡ read_at log place
read_at-older log more place lt = ap (λ (e : Option Entry). bytes_told (option_and_then told_by e)) (entry-older log more place lt)

-- the new entry stands at the end
pub entry-newest : (log : List Logged) (entry : Entry) → slice_get (entries_of (log ++ Entered entry ∷ [])) (place_of log) ≡ Some entry
entry-newest log entry =
    let len = place_of-entries log in
    ap (λ (es : List Entry). slice_get es (place_of log)) (entries_of-append log (Entered entry ∷ []))
    ∙ slice_get-append_right (entries_of log) (entry ∷ []) 0 (place_of log) (omega arith)

first_of-assoc : (a b c : Option (List ℕ)) → first_of a (first_of b c) ≡ first_of (first_of a b) c
first_of-assoc (Some bytes) b c = refl
first_of-assoc None b c = refl

first_of-none : (a : Option (List ℕ)) → first_of a None ≡ a
first_of-none (Some bytes) = refl
first_of-none None = refl

-- a page is kept as its first grant found it
pub kept_in-append : (page : ℕ) (log more : List Logged) → kept_in page (log ++ more) ≡ first_of (kept_in page log) (kept_in page more)
kept_in-append page [] more = refl
kept_in-append page (Entered entry ∷ log) more =
    ap (λ (rest : Option (List ℕ)). first_of (kept_by page entry) rest) (kept_in-append page log more) ∙ first_of-assoc (kept_by page entry) (kept_in page log) (kept_in page more)
kept_in-append page (Noted note ∷ log) more = kept_in-append page log more

pub kept_in-entered : (page : ℕ) (log : List Logged) (entry : Entry) → kept_in page (log ++ Entered entry ∷ []) ≡ first_of (kept_in page log) (kept_by page entry)
kept_in-entered page log entry = kept_in-append page log (Entered entry ∷ []) ∙ ap (first_of (kept_in page log)) (first_of-none (kept_by page entry))

pub kept_in-noted : (page : ℕ) (log : List Logged) (note : Note) → kept_in page (log ++ Noted note ∷ []) ≡ kept_in page log
kept_in-noted page log note = kept_in-append page log (Noted note ∷ []) ∙ first_of-none (kept_in page log)

count-first : (b : Bool) (count : ℕ) (xs ys zs : List ℕ) → xs ≡ ys ++ zs → cond b (count ∷ xs) xs ≡ cond b (count ∷ ys) ys ++ zs
count-first true count xs ys zs e = ap (λ (counts : List ℕ). count ∷ counts) e
count-first false count xs ys zs e = e

-- an entry is no note
pub counts_of-entered : (disk : ℕ) (log : List Logged) (entry : Entry) → counts_of disk (log ++ Entered entry ∷ []) ≡ counts_of disk log
counts_of-entered disk [] entry = refl
counts_of-entered disk (Entered first ∷ log) entry = counts_of-entered disk log entry
counts_of-entered disk (Noted first ∷ log) entry = ap (λ (counts : List ℕ). cond (eqb first.disk disk) (first.count ∷ counts) counts) (counts_of-entered disk log entry)

-- one more count, if the note is of the disk
pub counts_of-noted : (disk : ℕ) (log : List Logged) (note : Note) → counts_of disk (log ++ Noted note ∷ []) ≡ counts_of disk log ++ cond (eqb note.disk disk) (note.count ∷ []) []
counts_of-noted disk [] note = refl
counts_of-noted disk (Entered first ∷ log) note = counts_of-noted disk log note
counts_of-noted disk (Noted first ∷ log) note =
    count-first (eqb first.disk disk) first.count (counts_of disk (log ++ Noted note ∷ [])) (counts_of disk log) (cond (eqb note.disk disk) (note.count ∷ []) []) (counts_of-noted disk log note)

-- counts that rise stay below a later count
pub Rises-later : (before now later : ℕ) (counts : List ℕ) → now ≤ later → Rises before now counts → Rises before later counts
Rises-later before now later [] le r = omega (arith, r)
Rises-later before now later (count ∷ counts) le r = (r.0, Rises-later count now later counts le r.1)

-- a count above all
pub Rises-push : (before now count : ℕ) (counts : List ℕ) → now < count → Rises before now counts → Rises before count (counts ++ count ∷ [])
Rises-push before now count [] lt r = (omega (arith, r), omega arith)
Rises-push before now count (first ∷ counts) lt r = (r.0, Rises-push first now count counts lt r.1)
