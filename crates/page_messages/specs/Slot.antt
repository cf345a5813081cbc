-- One page of a node's table, as the code has it.
use Rattle.page_messages.specs.declared.slot.Slot.{Slot}
use Rattle.layer_laws.specs.Side.{Side}
use Rattle.page_messages.specs.Kids.{right_in}
use Rattle.page_messages.specs.Kept.{IsKept}
use Rattle.std.specs.Prelude.{ℕ}

-- what contracts see of it
abbrev pub side_of : Slot → Side
side_of slot = record { right = slot.right; copy = slot.copy.items; changed = slot.changed; kids = right_in slot.kids }

-- what holds of each page of a table, where a page has so many bytes and these are the children
abbrev pub IsSlot : ℕ → ℕ → Slot → Type 0
IsSlot page_size children slot = IsKept page_size children (side_of slot)
