-- What a log has to do with a file that it may have begun with: the pages that it keeps, its answers, and the pages that were read from
-- the ground.
use Rattle.std.specs.Prelude.{◌≡◌, ℕ, ◌*◌, ◌<◌, List, length, take, slice_get, Some}
use Rattle.hist_plain.specs.History.{page_in}
use Rattle.hist_plain.specs.Plain.{reply}
use Rattle.tower_core.specs.Legal.{file_after, plain_shape}
use Rattle.tower_core.specs.TreeShape.{TreeShape}
use Rattle.layer_laws.specs.Side.{Side}
use Rattle.tower_log.specs.declared.logged.Entry.{Entry}
use Rattle.tower_log.specs.declared.logged.Logged.{Logged}
use Rattle.tower_log.specs.Log.{entries_of, kept_in, told_by, trail_of}
use Rattle.tower_shows.specs.Began.{ground_shown}
use Rattle.tower_shows.specs.Reads.{IsRead, Shows}

-- each page that the log keeps is the file's, as the trail began
abbrev pub KeepsPagesOf : ℕ → List ℕ → List Logged → Type 0
KeepsPagesOf size opening log = (page : ℕ) (bytes : List ℕ) → kept_in page log ≡ Some bytes → bytes ≡ page_in size opening page

-- each page that the log keeps is one of the file's, and whole
abbrev pub KeepsWholePages : ℕ → ℕ → List Logged → Type 0
KeepsWholePages size pages log = (page : ℕ) (bytes : List ℕ) → kept_in page log ≡ Some bytes → (page < pages) × (length bytes ≡ size)

-- EACH ANSWER of the log is the plain file's at its place
abbrev pub AreAnswers : TreeShape → ℕ → List ℕ → List Logged → Type 0
AreAnswers shape size opening log = (place : ℕ) (entry : Entry) → slice_get (entries_of log) place ≡ Some entry
    → reply (plain_shape shape size) (file_after shape size opening (take place (trail_of log))) entry.event ≡ told_by entry

-- EACH PAGE THAT WAS READ from the ground is the one that the file has there, at the ground's place then
abbrev pub FindsPagesOf : TreeShape → ℕ → List ℕ → List Logged → Type 0
FindsPagesOf shape size opening log = (place page : ℕ) (entry : Entry) → slice_get (entries_of log) place ≡ Some entry
    → IsRead shape (take place (trail_of log)) page entry.event → entry.bytes ≡ ground_shown shape size opening (take place (trail_of log)) page

-- WHATEVER LIES UNDER THE FILE: each file of which the reads found the pages is shown, and each answer is its own
abbrev pub ShowsWhatItRead : TreeShape → ℕ → ℕ → List Logged → (ℕ → ℕ → Side) → Type 0
ShowsWhatItRead shape size pages log sides = (opening : List ℕ) → length opening ≡ pages * size → FindsPagesOf shape size opening log
    → Shows shape size pages opening (trail_of log) sides × AreAnswers shape size opening log
