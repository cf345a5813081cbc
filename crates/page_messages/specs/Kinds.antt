-- What kind of message a frame is: the table of frames, by operation, flags and right.
use Rattle.std.specs.Prelude.{ℕ, ◌+◌, ◌==◌, ◌&&◌, ◌||◌, Bool, List, Option, Some, None, if◌then◌else◌, replicate}
use Rattle.std.specs.Bool.{then_some}
use Rattle.pager_channel.specs.declared.operation.Operation.{Operation}
use Rattle.pager_channel.specs.declared.flags.TheConstants.{DATA, REPLY, TO_CACHE}
use Rattle.pager_channel.specs.Flags.{has_data}
use Rattle.pager_channel.specs.Seen.{FrameSeen}
use Rattle.tower_core.specs.declared.right.Right.{Right}
use Rattle.page_messages.specs.declared.kinds.Asked.{Asked}
use Rattle.page_messages.specs.declared.kinds.Called.{Called}
use Rattle.page_messages.specs.declared.kinds.Answer.{Answer}

-- a right as a head has it
abbrev pub access_of : Right → ℕ
access_of Right.Nothing = 0
access_of Right.Read = 1
access_of Right.Write = 2

abbrev pub right_of : ℕ → Right
right_of access = if access == 0 then Right.Nothing else (if access == 1 then Right.Read else Right.Write)

-- a page for reading or for writing is asked for
abbrev pub page_asked : ℕ → Option Asked
page_asked access = if access == 1 then Some Asked.PageInRead else then_some (access == 2) Asked.PageInWrite

-- the flags are these, with data or without
abbrev pub is_with_or_without : ℕ → ℕ → Bool
is_with_or_without base flags = flags == base || flags == base + DATA

-- A QUESTION, if the frame is one
abbrev pub question_of : Operation → ℕ → ℕ → Option Asked
question_of Operation.PageIn flags access = if flags == 0 then page_asked access else None
question_of Operation.PageOut flags access = then_some (is_with_or_without 0 flags && access == 0) Asked.PageOut
question_of Operation.WriteOut flags access = then_some (is_with_or_without 0 flags && access == 1) Asked.WriteOut
question_of Operation.Sync flags access = then_some (is_with_or_without 0 flags && access == 2) Asked.Sync
question_of Operation.Done flags access = then_some (flags == 0 && access == 0) Asked.Done
question_of which flags access = None

-- AN ORDER, if the frame is one
abbrev pub order_of : Operation → ℕ → ℕ → Option Called
order_of Operation.FlushBack flags access = then_some (flags == TO_CACHE && access == 0) Called.FlushBack
order_of Operation.DenyWrites flags access = then_some (flags == TO_CACHE && access == 1) Called.DenyWrites
order_of Operation.WriteBack flags access = then_some (flags == TO_CACHE && access == 2) Called.WriteBack
order_of Operation.DeleteRange flags access = then_some (flags == TO_CACHE && access == 0) Called.DeleteRange
order_of Operation.Destroy flags access = then_some (flags == TO_CACHE && access == 0) Called.Destroy
order_of which flags access = None

-- a page is granted for reading or for writing
abbrev pub is_granted : ℕ → Bool
is_granted access = access == 1 || access == 2

-- AN ANSWER to a question, if the frame is one. Who reads a page gets Write without data
abbrev pub answer_of : Operation → ℕ → ℕ → Option Answer
answer_of Operation.PageIn flags access =
    if flags == REPLY + DATA then then_some (is_granted access) Answer.Grant
    else then_some (flags == REPLY && access == 2) Answer.Upgrade
answer_of Operation.ZeroFill flags access = then_some (flags == TO_CACHE && is_granted access) Answer.Grant
answer_of Operation.PageOut flags access = then_some (flags == REPLY && access == 0) Answer.PageOut
answer_of Operation.WriteOut flags access = then_some (flags == REPLY && access == 1) Answer.WriteOut
answer_of Operation.Sync flags access = then_some (flags == REPLY && access == 2) Answer.Sync
answer_of Operation.Done flags access = then_some (flags == REPLY && access == 0) Answer.Done
answer_of which flags access = None

-- AN ANSWER to an order, if the frame is one
abbrev pub reply_of : Operation → ℕ → ℕ → Option Called
reply_of Operation.FlushBack flags access = then_some (is_with_or_without (TO_CACHE + REPLY) flags && access == 0) Called.FlushBack
reply_of Operation.DenyWrites flags access = then_some (is_with_or_without (TO_CACHE + REPLY) flags && access == 1) Called.DenyWrites
reply_of Operation.WriteBack flags access = then_some (is_with_or_without (TO_CACHE + REPLY) flags && access == 2) Called.WriteBack
reply_of Operation.DeleteRange flags access = then_some (flags == TO_CACHE + REPLY && access == 0) Called.DeleteRange
reply_of Operation.Destroy flags access = then_some (flags == TO_CACHE + REPLY && access == 0) Called.Destroy
reply_of which flags access = None

-- the bytes that a frame brings to a parent: its data, if it has any
abbrev pub bytes_up : FrameSeen → Option (List ℕ)
bytes_up f = if has_data f.head.flags then Some f.body else None

-- the bytes that a frame brings to a child: a page of zeros, its data, or none
abbrev pub bytes_by : ℕ → Operation → Option (List ℕ) → Option (List ℕ)
bytes_by page_size Operation.ZeroFill sent = Some (replicate page_size 0)
bytes_by page_size which sent = sent

abbrev pub bytes_down : ℕ → FrameSeen → Option (List ℕ)
bytes_down page_size f = bytes_by page_size f.which (bytes_up f)

-- the kind of message that a whole frame is
abbrev pub asked_in : FrameSeen → Option Asked
asked_in f = question_of f.which f.head.flags f.head.access

abbrev pub called_in : FrameSeen → Option Called
called_in f = order_of f.which f.head.flags f.head.access

abbrev pub answer_in : FrameSeen → Option Answer
answer_in f = answer_of f.which f.head.flags f.head.access

abbrev pub reply_in : FrameSeen → Option Called
reply_in f = reply_of f.which f.head.flags f.head.access
