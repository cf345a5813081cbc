-- A step on one page of a file: which message makes it, and what it makes of all nodes' tables and of the ground's pages.
use Rattle.std.specs.Prelude.{◌≡◌, ◌≢◌, ℕ, ◌==◌, if◌then◌else◌, true, false, List, Option, None, IsSome}
use Rattle.tower_core.specs.TreeShape.{TreeShape, parent}
use Rattle.tower_core.specs.declared.right.Right.{Right}
use Rattle.tower_core.specs.declared.step.Step.{Step}
use Rattle.tower_core.specs.declared.step.Step.TheVariants.{Untouched, Grants, PagesOut, Denies, Pushes, Flushes, Deletes}
use Rattle.layer_laws.specs.Side.{Side}
use Rattle.layer_laws.specs.Sent.{AreSent, AreBrought, pushed_by}
use Rattle.page_messages.specs.declared.kinds.Asked.{Asked}
use Rattle.page_messages.specs.declared.kinds.Called.{Called}
use Rattle.page_exchange.specs.Ground.{Tells}
use Rattle.page_exchange.specs.Table.{IsLike}

-- the step that a question of a node makes, once it is answered
abbrev pub step_asked : Asked → ℕ → Step
step_asked Asked.PageInRead node = Grants node false
step_asked Asked.PageInWrite node = Grants node true
step_asked Asked.PageOut node = PagesOut node
step_asked Asked.WriteOut node = Denies node
step_asked Asked.Sync node = Pushes node
step_asked Asked.Done node = Untouched

-- the step that an order to a node makes, once it is obeyed
abbrev pub step_called : Called → ℕ → Step
step_called Called.FlushBack node = Flushes node
step_called Called.DenyWrites node = Denies node
step_called Called.WriteBack node = Pushes node
step_called Called.DeleteRange node = Deletes node
step_called Called.Destroy node = Untouched

-- what a node whose parent is the ground gives to it
abbrev pub up_from : TreeShape → ℕ → (ℕ → Side) → Option (List ℕ)
up_from shape node sides = if parent shape node == 0 then pushed_by (sides node) else None

-- the bytes that a step brings up to the ground
abbrev pub given_up : TreeShape → Step → (ℕ → Side) → Option (List ℕ)
given_up shape (PagesOut node) sides = up_from shape node sides
given_up shape (Denies node) sides = up_from shape node sides
given_up shape (Pushes node) sides = up_from shape node sides
given_up shape (Flushes node) sides = up_from shape node sides
given_up shape step sides = None

-- THE MESSAGE NEEDS THE GROUND: a node that stands on it asks for a page of which it has nothing, or bytes come up to it
abbrev pub NeedsGround : TreeShape → Step → (ℕ → Side) → Type 0
NeedsGround shape (Grants node write) sides = (parent shape node ≡ 0) × ((sides node).right ≡ Right.Nothing)
NeedsGround shape step sides = IsSome (given_up shape step sides)

-- each node keeps what its table of the page became
abbrev pub AreLike : (ℕ → Side) → (ℕ → Side) → Type 0
AreLike to sides = (node : ℕ) → IsLike (to node) (sides node)

-- a step moves the tables of its page, as far as they are kept, and no other page's
pub record AreSentAt (shape : TreeShape) (page : ℕ) (brings : Option (List ℕ)) (step : Step) (old new : ℕ → ℕ → Side) : Type 0 where
  pub to : ℕ → Side
  pub here : AreSent shape brings step (old page) to
  pub kept : AreLike to (new page)
  pub others : (p node : ℕ) → p ≢ page → new p node ≡ old p node

-- a grant reads the page from the ground: its node stands on the ground, and has nothing of the page
abbrev pub ReadsGround : TreeShape → (ℕ → Right) → Step → Type 0
ReadsGround shape right (Grants node write) = (parent shape node ≡ 0) × (right node ≡ Right.Nothing)
ReadsGround shape right step = ⊥

-- A message was sent and answered: it moved the tables by this step, and a grant brought what the parent has; if it was read
-- from the ground, so where the ground tells its pages.
pub record IsSent (shape : TreeShape) (told : Option (List (List ℕ))) (page : ℕ) (step : Step) (old new : ℕ → ℕ → Side) : Type 0 where
  pub brings : Option (List ℕ)
  pub sent : AreSentAt shape page brings step old new
  pub brought : (base : ℕ → List ℕ) (next : List ℕ) → (ReadsGround shape (λ node. (old page node).right) step → IsSome told × Tells told base) → AreBrought shape brings step (old page) (base page) next
