-- A file and its beginning: what it was at each place of its log, and which pages and images are the file as it was.
use Rattle.std.specs.Prelude.{◌≡◌, ℕ, min, ◌+◌, ◌*◌, List, length, take, slice_get, unwrap_or, Option, Some}
use Rattle.std.specs.Option.{option_map}
use Rattle.hist_plain.specs.declared.event.Event.{Event}
use Rattle.hist_plain.specs.File.{File}
use Rattle.hist_plain.specs.Plain.{Told, reply}
use Rattle.stack_accept.specs.Mount.{Mount}
use Rattle.script_meaning.specs.Stack.{pages_of}
use Rattle.disk_format.specs.declared.shape.ImageShape.{ImageShape}
use Rattle.disk_format.specs.Image.{image}
use Rattle.page_ground.specs.Seen.{Imaged}
use Rattle.tower_core.specs.Legal.{IsLegal, file_after, plain_shape}
use Rattle.tower_core.specs.TreeShape.{TreeShape}
use Rattle.tower_log.specs.declared.logged.Logged.{Logged}
use Rattle.tower_log.specs.declared.logged.Entry.{Entry}
use Rattle.tower_log.specs.Log.{entries_of, trail_of}
use Rattle.layer_laws.specs.PlacesShown.{page_shown}
use Rattle.tower_shows.specs.Began.{ArePagesOf}
use Rattle.tower_shows.specs.Since.{AreSince}
use Rattle.stack_engine.specs.Opened.{AreAnswers, KeepsPagesOf, last_from}
use Rattle.spr_volume.specs.Reads.{FindsAgain}

-- what a file began with: its bytes
pub record Opening : Type 0 where
  pub bytes : List ℕ

-- A FILE AND ITS BEGINNING: the tree of its layers, the bytes of a page, how many pages it has, and what it began with
pub record Begun : Type 0 where
  pub tree : TreeShape
  pub page_size : ℕ
  pub pages : ℕ
  pub opening : Opening

-- a file of a stack that began so
abbrev pub begun_as : Mount → ℕ → Opening → Begun
begun_as mount file opening = record { tree = mount.tree; page_size = mount.page_size; pages = pages_of mount file; opening = opening }

-- the shape of its image
abbrev pub shape_in : Begun → ImageShape
shape_in b = record { page_size = b.page_size; pages = b.pages }

-- it began with as many bytes as its pages have
abbrev pub IsSized : Begun → Type 0
IsSized b = length b.opening.bytes ≡ b.pages * b.page_size

-- the plain file after these events
abbrev pub file_then : Begun → List Event → File
file_then b trail = file_after b.tree b.page_size b.opening.bytes trail

-- these pages began it
abbrev pub BeganAs : Begun → List (List ℕ) → Type 0
BeganAs b pages = ArePagesOf b.page_size b.pages b.opening.bytes pages

-- each event of the log was allowed where it stands
abbrev pub IsLegalOver : Begun → List Logged → Type 0
IsLegalOver b log = IsLegal b.tree b.page_size b.pages b.opening.bytes (trail_of log)

-- each answer of the log is the plain file's at its place
abbrev pub AnswersAs : Begun → List Logged → Type 0
AnswersAs b log = AreAnswers b.tree b.page_size b.opening.bytes log

-- the same but for the bytes of a read: a read is answered by bytes, an open by the life of its node, a call of an earlier life by the life now,
-- and a write, a clear and a sync by `done`; a page message has no answer
abbrev pub AnswersButBytes : Begun → List Logged → Type 0
AnswersButBytes b log = (place : ℕ) (entry : Entry) → slice_get (entries_of log) place ≡ Some entry
    → entry.answer ≡ option_map {T = Told} (λ told. told.answer) (reply (plain_shape b.tree b.page_size) (file_then b (take place (trail_of log))) entry.event)

-- each page that the log kept, as its first grant found it, is the file's
abbrev pub HasPagesOf : Begun → List Logged → Type 0
HasPagesOf b log = KeepsPagesOf b.page_size b.opening.bytes log

-- each page that was read again, having been granted before, is the file's there
abbrev pub HasAgain : Begun → List Logged → Type 0
HasAgain b log = FindsAgain b.tree b.page_size b.opening.bytes log

-- THE FILE OF A LOG: it has its length, the log is legal over it, and each answer is the plain file's at its place
pub record IsAlong (b : Begun) (log : List Logged) : Type 0 where
  pub size : IsSized b
  pub legal : IsLegalOver b log
  pub answers : AnswersAs b log

-- THE HISTORY OF A FILE from a place of its log on: version k of a page is the page k places later, or at the end
abbrev pub versions : Begun → List Logged → ℕ → ℕ → ℕ → List ℕ
versions b log from k page = page_shown b.tree b.page_size b.opening.bytes (trail_of log) page (min (from + k) (length (trail_of log)))

-- the pages are those of the file as it was, each at a place from this one on
abbrev pub Holds : Begun → List Logged → ℕ → List (List ℕ) → Type 0
Holds b log from pages = AreSince b.tree b.page_size b.opening.bytes (trail_of log) from pages

-- the pages are those of the file at the end
abbrev pub HoldsAll : Begun → List Logged → List (List ℕ) → Type 0
HoldsAll b log pages = ArePagesOf b.page_size b.pages (file_then b (trail_of log)).bytes pages

-- the place of a log from which on the last completed sync has written the file: its beginning, where none was completed
abbrev pub synced_from : List Logged → ℕ
synced_from log = unwrap_or (last_from (trail_of log)) 0

-- blocks are an image of this shape, of whose pages this holds
abbrev pub StandFor : ImageShape → (List (List ℕ) → Type 0) → List (List ℕ) → Type 0
StandFor shape P blocks = (imaged : Imaged) × (image shape blocks ≡ Some imaged) × P imaged.pages

-- the pages of the image that blocks stand for
abbrev pub pages_in : ImageShape → List (List ℕ) → Option (List (List ℕ))
pages_in shape blocks = option_map {T = Imaged} (λ imaged. imaged.pages) (image shape blocks)

-- an image that has, page by page, the file as it was at some place from this one on
abbrev pub IsFrom : Begun → List Logged → ℕ → List (List ℕ) → Type 0
IsFrom b log from = StandFor (shape_in b) (Holds b log from)

-- an image of the whole file, as it was at the end
abbrev pub IsAll : Begun → List Logged → List (List ℕ) → Type 0
IsAll b log = StandFor (shape_in b) (HoldsAll b log)
