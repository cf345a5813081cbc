-- The events of a log, each after those before it.
use Rattle.std.proofs.Common.{Bool, true, false, slice_get, get_or, inl, inr, append_assoc, ◌≡◌, ℕ, suc, ◌+◌, ◌<◌, ◌≤◌, IsTrue, IfSome, List, [], ◌∷◌, ◌++◌, length, map, drop, Option, Some, None, ◌&&◌, nat_lt, nat_le, subst, refl, sym, ap, ◌∙◌, arith}
use Rattle.std.specs.Option.{ForSome}
use Rattle.std.proofs.lemmas.Bool.{ltb-true}
use Rattle.std.proofs.lemmas.List.{drop_more, drop_all, append-nil, length-map, length-drop}
use Rattle.std.proofs.lemmas.Option.{slice_get_within, slice_get_cases, get_or_from_slice_get}
use Rattle.hist_plain.specs.declared.event.Event.{Event}
use Rattle.hist_plain.specs.declared.event.Event.TheVariants as events
use Rattle.hist_plain.specs.declared.event.Op.{Op}
use Rattle.hist_plain.specs.declared.event.Op.TheVariants as ops
use Rattle.hist_plain.specs.Event.{Fits, is_in_page, page_of, page_of_op}
use Rattle.tower_core.specs.Legal.{FitsFile}
use Rattle.pager_channel.specs.declared.numbers.Ops.{Ops}
use Rattle.stack_accept.specs.declared.entries.FileEntry.{FileEntry}
use Rattle.stack_accept.specs.Mount.{Mount}
use Rattle.tower_log.specs.declared.logged.Entry.{Entry}
use Rattle.tower_log.specs.declared.logged.Logged.{Logged}
use Rattle.tower_log.specs.Trail.{TrailSeen}
use Rattle.tower_log.specs.Log.{entries_of, place_of, trail_of}
use Rattle.tower_log.proofs.LogLaws.{trail_of-entries}
use Rattle.spr_report.specs.Tracing.{Tracing, IsNextOf, AreNextOf, IsReported, AreReported, traced_after, with_event, tracing_from}
use Rattle.spr_report.specs.Report.{entry_line, entry_lines}

-- the first event, and those behind it
pub first_next : (t : Tracing) (event : Event) (events : List Event) → AreNextOf t (event ∷ events) → IsNextOf t event
first_next t event events are = record { fits = are.fits.0; allowed = are.run.0; few = omega (arith, are.few) }

pub rest_next : (t : Tracing) (event : Event) (events : List Event) → AreNextOf t (event ∷ events) → AreNextOf (with_event t event) events
rest_next t event events are = record { fits = are.fits.1; run = are.run.1; few = omega (arith, are.few) }

-- the same where messages may be traced
pub first_traced : (t : Option Tracing) (event : Event) (events : List Event) → IfSome t (λ t. AreNextOf t (event ∷ events)) → IfSome t (λ t. IsNextOf t event)
first_traced None event events are = tt
first_traced (Some t) event events are = first_next t event events are

pub rest_traced : (t : Option Tracing) (event : Event) (events : List Event) → IfSome t (λ t. AreNextOf t (event ∷ events)) → IfSome (traced_after t event) (λ t. AreNextOf t events)
rest_traced None event events are = tt
rest_traced (Some t) event events are = rest_next t event events are

-- a log that can be reported can be traced from its start on
pub start_traced : (mount : Mount) (traced : Option Ops) (number : ℕ) (file : FileEntry) (log : List Logged) → IsReported mount file log → IfSome (tracing_from mount traced number file) (λ t. AreNextOf t (trail_of log))
start_traced mount None number file log is = tt
start_traced mount (Some numbers) number file log is = record { fits = is.fits; run = is.run; few = omega (arith, is.few) }

-- the page of an event that stays in the file is one of the file's
at-page : (pages page : ℕ) → page < pages → ForSome (Some page) (λ p. p < pages)
at-page pages page inside p some = subst (λ q. q < pages) (is page p some) inside
  where
    is : (a b : ℕ) → Some a ≡ Some b → a ≡ b
    is a b e = cc

both : (a b : Bool) → IsTrue (a && b) → IsTrue a × IsTrue b
both true b h = (refl, h)
both false b h = absurd cc

range_in : (size pages page off len : ℕ) → IsTrue (is_in_page size pages page off len) → page < pages
range_in size pages page off len h =
    ltb-true page pages (both (nat_lt page pages) (nat_le 1 len) (both (nat_lt page pages && nat_le 1 len) (nat_le (off + len) size) h).0).0

op_in : (size pages : ℕ) (op : Op) → Fits size pages op → ForSome (page_of_op op) (λ page. page < pages)
op_in size pages (ops.Read p off n) fits = at-page pages p (range_in size pages p off n fits)
op_in size pages (ops.Write p off bytes) fits = at-page pages p (range_in size pages p off (length bytes) fits)
op_in size pages (ops.Clear p) fits = at-page pages p (ltb-true p pages fits)
op_in size pages ops.Open fits = λ page some. absurd cc

pub page_fits : (size pages : ℕ) (event : Event) → FitsFile size pages event → ForSome (page_of event) (λ page. page < pages)
page_fits size pages (events.Access caller number node life op) fits = op_in size pages op fits
page_fits size pages _ fits = fits

-- what is left from a place on begins with the entry there
drop_next : (entries : List Entry) (place : ℕ) (entry : Entry) → slice_get entries place ≡ Some entry → drop place entries ≡ entry ∷ drop (place + 1) entries
drop_next entries place entry at =
    drop_more entries place entry (slice_get_within entries place entry at)
    ∙ ap (λ (e : Entry). e ∷ drop (place + 1) entries) (get_or_from_slice_get entries place entry entry at)

-- the lines from a place on: the first of them, and those behind it
pub lines_next : (callers nodes : List (List ℕ)) (place : ℕ) (t : Option Tracing) (entries : List Entry) (entry : Entry) → slice_get entries place ≡ Some entry
    → entry_lines callers nodes place t (drop place entries) ≡ entry_line callers nodes place t entry ++ entry_lines callers nodes (place + 1) (traced_after t entry.event) (drop (place + 1) entries)
lines_next callers nodes place t entries entry at =
    ap (λ (es : List Entry). entry_lines callers nodes place t es) (drop_next entries place entry at)
    ∙ ap (λ n. entry_line callers nodes place t entry ++ entry_lines callers nodes n (traced_after t entry.event) (drop (place + 1) entries)) (omega arith)

pub events_next : (place : ℕ) (t : Option Tracing) (entries : List Entry) (entry : Entry) → slice_get entries place ≡ Some entry
    → IfSome t (λ t. AreNextOf t (map (λ e. e.event) (drop place entries)))
    → IfSome t (λ t. IsNextOf t entry.event) × IfSome (traced_after t entry.event) (λ t. AreNextOf t (map (λ e. e.event) (drop (place + 1) entries)))
events_next place t entries entry at are =
    let next = subst (λ (es : List Entry). IfSome t (λ t. AreNextOf t (map (λ e. e.event) es))) (drop_next entries place entry at) are in
    (first_traced t entry.event (map (λ e. e.event) (drop (place + 1) entries)) next, rest_traced t entry.event (map (λ e. e.event) (drop (place + 1) entries)) next)

-- one more entry is written, and what is left is shorter by it
pub lines_step : (callers nodes : List (List ℕ)) (place : ℕ) (t t' : Option Tracing) (entries : List Entry) (entry : Entry) (old new whole : List ℕ) → slice_get entries place ≡ Some entry
    → old ++ entry_lines callers nodes place t (drop place entries) ≡ whole → new ≡ old ++ entry_line callers nodes place t entry → t' ≡ traced_after t entry.event
    → new ++ entry_lines callers nodes (place + 1) t' (drop (place + 1) entries) ≡ whole
lines_step callers nodes place t t' entries entry old new whole at before put after =
    let left = drop (place + 1) entries in
    let line = entry_line callers nodes place t entry in
    ap (λ (bs : List ℕ). bs ++ entry_lines callers nodes (place + 1) t' left) put
    ∙ (ap (λ (u : Option Tracing). (old ++ line) ++ entry_lines callers nodes (place + 1) u left) after
    ∙ (append_assoc old line (entry_lines callers nodes (place + 1) (traced_after t entry.event) left)
    ∙ (ap (λ (bs : List ℕ). old ++ bs) (sym (lines_next callers nodes place t entries entry at)) ∙ before)))

pub events_step : (place : ℕ) (t t' : Option Tracing) (entries : List Entry) (entry : Entry) → slice_get entries place ≡ Some entry → t' ≡ traced_after t entry.event
    → IfSome t (λ t. AreNextOf t (map (λ e. e.event) (drop place entries)))
    → IfSome t' (λ t. AreNextOf t (map (λ e. e.event) (drop (place + 1) entries)))
events_step place t t' entries entry at after are =
    subst (λ (u : Option Tracing). IfSome u (λ t. AreNextOf t (map (λ e. e.event) (drop (place + 1) entries)))) (sym after) (events_next place t entries entry at are).1

-- at the end nothing is left
pub lines_end : (callers nodes : List (List ℕ)) (place : ℕ) (t : Option Tracing) (entries : List Entry) (old whole : List ℕ) → length entries ≤ place
    → old ++ entry_lines callers nodes place t (drop place entries) ≡ whole → old ≡ whole
lines_end callers nodes place t entries old whole past all =
    sym (append-nil old) ∙ (ap (λ (es : List Entry). old ++ entry_lines callers nodes place t es) (sym (drop_all place entries past)) ∙ all)

-- there are as many entries as events
pub entries_long : (log : List Logged) → place_of log ≡ length (entries_of log)
entries_long log = ap length (trail_of-entries log) ∙ length-map (entries_of log) (λ (e : Entry). e.event)

-- a place in the log has an entry
pub has_entry : (log : List Logged) (place : ℕ) → place < place_of log → slice_get (entries_of log) place ≡ None → ⊥
has_entry log place inside none = elim (slice_get_cases (entries_of log) place).1 [
  | inl h ↦ let some = h.2 in let bad : None ≡ Some h.0 = sym none ∙ some in absurd cc
  | inr h ↦ let past = h.0 in absurd (omega (arith, past, inside, entries_long log))
]

-- the log of a file in its place can be reported
pub reported_at : (mount : Mount) (files : List FileEntry) (logs : List TrailSeen) (i : ℕ) (file : FileEntry) (log : TrailSeen) → i < length files → i < length logs
    → file ≡ get_or files i file → AreReported mount (drop i files) (map (λ t. t.log) (drop i logs)) → IsReported mount file (get_or logs i log).log
reported_at mount files logs i file log in_files in_logs is are =
    let of_file = subst (λ (fs : List FileEntry). AreReported mount fs (map (λ t. t.log) (drop i logs))) (drop_more files i file in_files) are in
    let of_log = subst (λ (ls : List TrailSeen). AreReported mount (get_or files i file ∷ drop (i + 1) files) (map (λ t. t.log) ls)) (drop_more logs i log in_logs) of_file in
    subst (λ (f : FileEntry). IsReported mount f (get_or logs i log).log) (sym is) of_log.0

-- there is a log for each file
reported_long : (mount : Mount) (files : List FileEntry) (logs : List (List Logged)) → AreReported mount files logs → length files ≡ length logs
reported_long mount [] [] are = refl
reported_long mount [] (log ∷ logs) are = absurd are
reported_long mount (file ∷ files) [] are = absurd are
reported_long mount (file ∷ files) (log ∷ logs) are = ap (λ n. suc n) (reported_long mount files logs are.1)

pub reported_inside : (mount : Mount) (files : List FileEntry) (logs : List TrailSeen) (i : ℕ) → i < length files → AreReported mount (drop i files) (map (λ t. t.log) (drop i logs)) → i < length logs
reported_inside mount files logs i inside are =
    let long = reported_long mount (drop i files) (map (λ t. t.log) (drop i logs)) are in
    omega (arith, inside, long, length-map (drop i logs) (λ (t : TrailSeen). t.log), length-drop i files, length-drop i logs)
