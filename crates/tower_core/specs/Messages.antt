-- One node's own messages on one page, and what they alone make of its right.
use Rattle.std.specs.Prelude.{ℕ, Bool, true, false, ◌&&◌, ◌==◌}
use Rattle.hist_plain.specs.declared.event.Event.{Event}
use Rattle.tower_core.specs.declared.right.Right.{Right}

-- the message goes over this node's channel and is of this page
abbrev pub is_message_of : ℕ → ℕ → Event → Bool
is_message_of node page (Event.PageIn n p write) = p == page && node == n
is_message_of node page (Event.ZeroFill n p write) = p == page && node == n
is_message_of node page (Event.PageOut n p) = p == page && node == n
is_message_of node page (Event.WriteOut n p) = p == page && node == n
is_message_of node page (Event.SyncOut n p) = p == page && node == n
is_message_of node page (Event.FlushBack n p) = p == page && node == n
is_message_of node page (Event.DenyWrites n p) = p == page && node == n
is_message_of node page (Event.WriteBack n p) = p == page && node == n
is_message_of node page (Event.DeleteRange n p) = p == page && node == n
is_message_of node page _ = false

abbrev pub right_granted : Bool → Right
right_granted true = Right.Write
right_granted false = Right.Read

-- the column "Right after" of the table of events, by itself
abbrev pub right_after_message : Right → Event → Right
right_after_message had (Event.PageIn n p write) = right_granted write
right_after_message had (Event.ZeroFill n p write) = right_granted write
right_after_message had (Event.PageOut n p) = Right.Nothing
right_after_message had (Event.WriteOut n p) = Right.Read
right_after_message had (Event.SyncOut n p) = had
right_after_message had (Event.FlushBack n p) = Right.Nothing
right_after_message had (Event.DenyWrites n p) = Right.Read
right_after_message had (Event.WriteBack n p) = had
right_after_message had (Event.DeleteRange n p) = Right.Nothing
right_after_message had _ = had
