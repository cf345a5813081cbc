-- Pages that are read from the ground, and files that a trail shows, whatever the ground tells.
use Rattle.std.specs.Prelude.{◌≡◌, ℕ, ◌*◌, List, length}
use Rattle.hist_plain.specs.declared.event.Event.{Event}
use Rattle.tower_core.specs.TreeShape.{TreeShape}
use Rattle.tower_core.specs.Trail.{right_of, state_of, step_of}
use Rattle.tower_core.specs.Legal.{IsLegal}
use Rattle.layer_laws.specs.Side.{Side}
use Rattle.layer_laws.specs.Tables.{AreAllCopies}
use Rattle.layer_laws.specs.PlacesShown.{page_shown}
use Rattle.page_exchange.specs.Steps.{ReadsGround}
use Rattle.tower_shows.specs.Began.{ground_shown}

-- after this trail the event reads the page from the ground: it grants it to a node that stands on the ground and has nothing of it
abbrev pub IsRead : TreeShape → List Event → ℕ → Event → Type 0
IsRead shape trail page event = ReadsGround shape (λ node. right_of shape trail node page) (step_of (state_of shape trail).life page event)

-- THE FILE IS SHOWN that began with these bytes: the trail is legal over it, and each copy is the page at its node's place
pub record Shows (shape : TreeShape) (size pages : ℕ) (opening : List ℕ) (trail : List Event) (sides : ℕ → ℕ → Side) : Type 0 where
  pub sized : length opening ≡ pages * size
  pub legal : IsLegal shape size pages opening trail
  pub copies : AreAllCopies shape trail (page_shown shape size opening trail) sides (ground_shown shape size opening trail)
