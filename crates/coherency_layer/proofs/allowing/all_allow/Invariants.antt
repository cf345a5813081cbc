use Rattle.std.proofs.Common.{ℕ, ◌<◌, get_or}
use Rattle.page_messages.specs.declared.slot.Slot.{Slot}
use Rattle.page_messages.specs.Message.{Allows}
use Rattle.page_messages.specs.Slot.{side_of}
use Rattle.coherency_layer.proofs.allowing.all_allow.Given as goal

abbrev pub invariant-loop-slot : goal.invariant-loop-slot
invariant-loop-slot l = (k : ℕ) (d : Slot) → k < l.slot-index → Allows (side_of (get_or l.slots k d)) l.message
