-- A page of a node's table, by its number.
use Rattle.std.specs.Prelude.{ℕ, List, [], false, Option, Some, None, slice_get}
use Rattle.tower_core.specs.declared.right.Right.{Right}
use Rattle.layer_laws.specs.Side.{Side}
use Rattle.page_messages.specs.declared.slot.Slot.{Slot}
use Rattle.page_messages.specs.Slot.{side_of}

-- of a page that the file does not have nobody has anything
abbrev pub no_side : Side
no_side = record { right = Right.Nothing; copy = []; changed = false; kids = λ child. Right.Nothing }

abbrev pub side_seen : Option Slot → Side
side_seen None = no_side
side_seen (Some slot) = side_of slot

abbrev pub side_in : List Slot → ℕ → Side
side_in slots page = side_seen (slice_get slots page)
