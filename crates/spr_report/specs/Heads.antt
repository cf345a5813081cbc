-- The heads of the two frames of an event.
use Rattle.std.specs.Prelude.{ℕ, ◌*◌, List, ◌++◌, Option}
use Rattle.std.specs.Option.{option_map}
use Rattle.hist_plain.specs.declared.event.Event.{Event}
use Rattle.tower_core.specs.TreeShape.{TreeShape}
use Rattle.tower_core.specs.Trail.{State}
use Rattle.pager_channel.specs.declared.front.Head.{Head}
use Rattle.pager_channel.specs.declared.numbers.Ops.{Ops}
use Rattle.pager_channel.specs.Numbers.{number_of}
use Rattle.pager_channel.specs.Frame.{first_part, second_part}
use Rattle.page_messages.specs.declared.paged.PagedFile.{PagedFile}
use Rattle.page_messages.specs.Kinds.{access_of}
use Rattle.spr_report.specs.declared.exchange.Exchange.{Exchange}
use Rattle.spr_report.specs.declared.exchange.Sent.{Sent}
use Rattle.spr_report.specs.declared.heads.Heads.{Heads}
use Rattle.spr_report.specs.Exchange.{exchange_of}

-- the head of a message about a page of a file, on a channel
abbrev pub head_in : PagedFile → Ops → ℕ → Sent → Head
head_in file ops page sent = record {
  subcontract = 2;
  operation = number_of ops sent.which;
  tag = file.number;
  offset = page * file.page_size;
  size = file.page_size;
  access = access_of sent.right;
  flags = sent.flags;
}

-- the heads of two messages. The answer names the operation
abbrev pub heads_in : PagedFile → Ops → Exchange → Heads
heads_in file ops e = record {
  which = e.second.which;
  page = e.page;
  first = head_in file ops e.page e.first;
  second = head_in file ops e.page e.second;
}

-- THE HEADS of an event's two frames, after this state. An event that is no page message has none
abbrev pub heads_of : TreeShape → PagedFile → Ops → State → Event → Option Heads
heads_of shape file ops s event = option_map {T = Exchange} (heads_in file ops) (exchange_of shape s event)

-- the bytes of a head
abbrev pub head_bytes : Head → List ℕ
head_bytes h = first_part h ++ second_part h
