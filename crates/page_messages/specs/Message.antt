-- The message that a frame is at a node, and what one page of the node's table decides of it.
use Rattle.std.specs.Prelude.{◌<◌, ℕ, Option, Some, None}
use Rattle.std.specs.Option.{option_map}
use Rattle.pager_channel.specs.Flags.{has_data}
use Rattle.pager_channel.specs.Seen.{FrameSeen}
use Rattle.layer_laws.specs.Side.{Side}
use Rattle.page_messages.specs.declared.kinds.Asked.{Asked}
use Rattle.page_messages.specs.declared.kinds.Called.{Called}
use Rattle.page_messages.specs.declared.kinds.Answer.{Answer}
use Rattle.page_messages.specs.declared.message.Message.{Message}
use Rattle.page_messages.specs.Kinds.{asked_in, called_in, answer_in, reply_in}
use Rattle.page_messages.specs.Rules.{MayServe, MayCall, MayObey, MayTake}

-- a first frame, of a child or else of the pager
abbrev pub first_in : Option ℕ → FrameSeen → Option Message
first_in (Some child) f = option_map {T = Asked} (Message.Asks child (has_data f.head.flags)) (asked_in f)
first_in None f = option_map {T = Called} Message.Orders (called_in f)

-- a second frame, likewise
abbrev pub second_in : Option ℕ → FrameSeen → Option Message
second_in (Some child) f = option_map {T = Called} (Message.Replies child) (reply_in f)
second_in None f = option_map {T = Answer} Message.Answers (answer_in f)

-- WHAT ONE PAGE ALLOWS
abbrev pub Allows : Side → Message → Type 0
Allows s (Message.Asks child full what) = MayServe s child full what
Allows s (Message.Orders what) = MayObey s what
Allows s (Message.Answers what) = MayTake s what
Allows s (Message.Replies child what) = MayCall s child what

-- a message of a child that a table can have
abbrev pub IsKnown : Message → Type 0
IsKnown (Message.Asks child full what) = child < 32
IsKnown (Message.Orders what) = Unit {0}
IsKnown (Message.Answers what) = Unit {0}
IsKnown (Message.Replies child what) = child < 32
