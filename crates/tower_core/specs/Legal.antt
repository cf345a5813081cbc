-- Legal trails over a file: each event stays in the file, is allowed after those before it, and says rightly whether it moves zeros.
use Rattle.std.specs.Prelude.{◌≡◌, ℕ, ◌<◌, List, [], ◌∷◌, ◌++◌}
use Rattle.std.specs.Option.{ForSome}
use Rattle.hist_plain.specs.declared.event.Event.{Event}
use Rattle.hist_plain.specs.Event.{page_of, Fits}
use Rattle.hist_plain.specs.File.{Shape, File}
use Rattle.hist_plain.specs.History.{replay, page_at, IsZeroPage}
use Rattle.hist_plain.specs.Plain.{fresh}
use Rattle.tower_core.specs.declared.right.Right.{Right}
use Rattle.tower_core.specs.TreeShape.{TreeShape, parent}
use Rattle.tower_core.specs.Trail.{state_of, right_of, at_of, IsAllowed}

-- what the plain file under a tree knows of it, with the size of a page
abbrev pub plain_shape : TreeShape → ℕ → Shape
plain_shape shape size = record { page_size = size; parents = shape.parents }

-- the plain file that starts with these bytes, after the trail
abbrev pub file_after : TreeShape → ℕ → List ℕ → List Event → File
file_after shape size bytes trail = replay (plain_shape shape size) (fresh shape.parents bytes) trail

-- what a node's copy of a page shows: the page at the node's place
abbrev pub shown : TreeShape → ℕ → List ℕ → List Event → ℕ → ℕ → List ℕ
shown shape size bytes trail node page =
    page_at (plain_shape shape size) (fresh shape.parents bytes) trail page (at_of shape trail node page)

-- the event is within one page of the file
abbrev pub FitsFile : ℕ → ℕ → Event → Type 0
FitsFile size pages (Event.Access caller number node life op) = Fits size pages op
FitsFile size pages event = ForSome (page_of event) (λ page. page < pages)

-- a grant to a node that has Nothing is ZeroFill if the parent shows zeros, and else PageIn
abbrev pub IsFilled : TreeShape → ℕ → List ℕ → List Event → Event → Type 0
IsFilled shape size bytes before (Event.ZeroFill node page write) =
    IsZeroPage size (shown shape size bytes before (parent shape node) page)
IsFilled shape size bytes before (Event.PageIn node page write) =
    right_of shape before node page ≡ Right.Nothing → IsZeroPage size (shown shape size bytes before (parent shape node) page) → ⊥
IsFilled shape size bytes before event = Unit {0}

-- the event is legal after these
pub record IsLegalNext (shape : TreeShape) (size pages : ℕ) (bytes : List ℕ) (before : List Event) (event : Event) : Type 0 where
  pub fits : FitsFile size pages event
  pub allowed : IsAllowed shape pages (state_of shape before) event
  pub filled : IsFilled shape size bytes before event

-- each of the events is legal after those before it
abbrev pub IsLegalAfter : TreeShape → ℕ → ℕ → List ℕ → List Event → List Event → Type 0
IsLegalAfter shape size pages bytes before [] = Unit {0}
IsLegalAfter shape size pages bytes before (event ∷ events) =
    IsLegalNext shape size pages bytes before event × IsLegalAfter shape size pages bytes (before ++ event ∷ []) events

-- the trail is legal over a file of these pages, each of this size, that starts with these bytes
abbrev pub IsLegal : TreeShape → ℕ → ℕ → List ℕ → List Event → Type 0
IsLegal shape size pages bytes trail = IsLegalAfter shape size pages bytes [] trail
