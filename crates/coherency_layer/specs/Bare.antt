-- A page of which nobody has anything.
use Rattle.std.specs.Prelude.{◌≡◌, ℕ}
use Rattle.tower_core.specs.declared.right.Right.{Right}
use Rattle.page_messages.specs.declared.slot.Slot.{Slot}
use Rattle.page_messages.specs.Rules.{NoKidHolds}
use Rattle.page_messages.specs.Slot.{side_of, IsSlot}

pub record IsBare (slot : Slot) : Type 0 where
  pub right : (side_of slot).right ≡ Right.Nothing
  pub kids : NoKidHolds (side_of slot)
  -- whatever the size of a page and the children are
  pub kept : (page_size children : ℕ) → IsSlot page_size children slot
