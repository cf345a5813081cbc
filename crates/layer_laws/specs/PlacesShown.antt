-- What the pages of a file show at the places of a trail.
use Rattle.std.specs.Prelude.{ℕ, ◌+◌, List, [], ◌∷◌, ◌++◌, length, Option}
use Rattle.hist_plain.specs.declared.event.Event.{Event}
use Rattle.hist_plain.specs.declared.event.Event.TheVariants.{Access}
use Rattle.hist_plain.specs.declared.event.Op.{Op}
use Rattle.hist_plain.specs.declared.event.Answer.TheVariants as answers
use Rattle.hist_plain.specs.History.{page_at}
use Rattle.hist_plain.specs.Plain.{Told, fresh, reply}
use Rattle.tower_core.specs.TreeShape.{TreeShape}
use Rattle.tower_core.specs.Trail.{state_of}
use Rattle.tower_core.specs.Legal.{plain_shape, file_after}

-- the page at a place of the trail, over the file that starts with these bytes
abbrev pub page_shown : TreeShape → ℕ → List ℕ → List Event → ℕ → ℕ → List ℕ
page_shown shape size bytes trail page place = page_at (plain_shape shape size) (fresh shape.parents bytes) trail page place

-- an access that comes next, of the life that its node has then
abbrev pub access_next : TreeShape → List Event → ℕ → ℕ → ℕ → Op → Event
access_next shape trail caller number node op = Access caller number node ((state_of shape trail).life node) op

-- the answer to an event that comes next
abbrev pub answer_next : TreeShape → ℕ → List ℕ → List Event → Event → Option Told
answer_next shape size bytes trail event = reply (plain_shape shape size) (file_after shape size bytes trail) event

-- the page right after an event that comes next
abbrev pub page_next : TreeShape → ℕ → List ℕ → List Event → Event → ℕ → List ℕ
page_next shape size bytes trail event page = page_shown shape size bytes (trail ++ event ∷ []) page (length trail + 1)

-- a read is answered with these bytes
abbrev pub told_bytes : List ℕ → Told
told_bytes bytes = record { answer = answers.Bytes; bytes = bytes }
