-- The log of a file: its events, each with its answer and the bytes that go with it, and the notes of failed calls.
use Rattle.std.specs.Prelude.{ℕ, List, [], ◌∷◌, length, slice_get, Option, Some, None, option_and_then, if◌then◌else◌}
use Rattle.std.specs.Option.{option_map}
use Rattle.hist_plain.specs.declared.event.Event.{Event}
use Rattle.hist_plain.specs.declared.event.Answer.{Answer}
use Rattle.hist_plain.specs.declared.event.Answer.TheVariants as answers
use Rattle.hist_plain.specs.Plain.{Told}
use Rattle.layer_laws.specs.Granted.{is_grant_of}
use Rattle.tower_log.specs.declared.logged.Entry.{Entry}
use Rattle.tower_log.specs.declared.logged.Logged.{Logged}
use Rattle.tower_log.specs.declared.logged.Logged.TheVariants.{Entered, Noted}

-- the entries of the events, in order
abbrev pub entries_of : List Logged → List Entry
entries_of [] = []
entries_of (Entered entry ∷ log) = entry ∷ entries_of log
entries_of (Noted note ∷ log) = entries_of log

-- the events alone: the file's trail
abbrev pub trail_of : List Logged → List Event
trail_of [] = []
trail_of (Entered entry ∷ log) = entry.event ∷ trail_of log
trail_of (Noted note ∷ log) = trail_of log

-- how many events there are: the place of the next one
abbrev pub place_of : List Logged → ℕ
place_of log = length (trail_of log)

-- only the answer to a read has bytes
abbrev pub bytes_with : Answer → List ℕ → List ℕ
bytes_with answers.Bytes bytes = bytes
bytes_with answer bytes = []

-- what an event was answered; a page message has no answer
abbrev pub told_by : Entry → Option Told
told_by entry = option_map {T = Answer} (λ answer. record { answer = answer; bytes = bytes_with answer entry.bytes }) entry.answer

-- the bytes that go with an answer; none, if there is no answer
abbrev pub bytes_told : Option Told → List ℕ
bytes_told None = []
bytes_told (Some told) = told.bytes

-- the bytes that the read at a place was answered; none, if no read stands there
abbrev pub read_at : List Logged → ℕ → List ℕ
read_at log place = bytes_told (option_and_then told_by (slice_get (entries_of log) place))

-- what an entry keeps of a page: a grant of it
abbrev pub kept_by : ℕ → Entry → Option (List ℕ)
kept_by page entry = if is_grant_of page entry.event then Some entry.bytes else None

abbrev pub first_of : Option (List ℕ) → Option (List ℕ) → Option (List ℕ)
first_of (Some bytes) rest = Some bytes
first_of None rest = rest

-- the page as its first grant found it: so the file was when the trail began
abbrev pub kept_in : ℕ → List Logged → Option (List ℕ)
kept_in page [] = None
kept_in page (Entered entry ∷ log) = first_of (kept_by page entry) (kept_in page log)
kept_in page (Noted note ∷ log) = kept_in page log
