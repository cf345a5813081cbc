-- The two messages of an event, a question or an order and its answer: what their heads say beside the page.
use Rattle.std.specs.Prelude.{ℕ, ◌+◌, Bool, true, false, not, Option, Some, None}
use Rattle.hist_plain.specs.declared.event.Event.{Event}
use Rattle.tower_core.specs.declared.right.Right.{Right}
use Rattle.tower_core.specs.TreeShape.{TreeShape}
use Rattle.tower_core.specs.Trail.{State, holds}
use Rattle.layer_laws.specs.Sent.{granted}
use Rattle.pager_channel.specs.declared.operation.Operation.{Operation}
use Rattle.pager_channel.specs.declared.flags.TheConstants.{DATA, REPLY, TO_CACHE}
pub use Rattle.page_messages.specs.Written.{is_changed}
use Rattle.spr_report.specs.declared.exchange.Exchange.{Exchange}

-- the flags of a message with data, or of one without
abbrev pub with_data : Bool → ℕ → ℕ
with_data true flags = flags + DATA
with_data false flags = flags

-- a question or an order, and an answer of the same operation and right
abbrev pub both : ℕ → Operation → Right → ℕ → ℕ → Exchange
both page which right first second = record {
  page = page;
  first = record { which = which; right = right; flags = first };
  second = record { which = which; right = right; flags = second };
}

-- a question that gives a copy back: a changed copy goes with it
abbrev pub pushed : Bool → ℕ → Operation → Right → Exchange
pushed changed page which right = both page which right (with_data changed 0) REPLY

-- an order to give a copy back: a changed copy goes with the answer
abbrev pub called_back : Bool → ℕ → Operation → Right → Exchange
called_back changed page which right = both page which right TO_CACHE (with_data changed (TO_CACHE + REPLY))

-- a question for a page: its bytes go with the answer to a node that has none
abbrev pub paged_in : Bool → ℕ → Right → Exchange
paged_in holds_it page right = both page Operation.PageIn right 0 (with_data (not holds_it) REPLY)

-- a question for a page, and a page of zeros
abbrev pub zero_filled : ℕ → Right → Exchange
zero_filled page right = record {
  page = page;
  first = record { which = Operation.PageIn; right = right; flags = 0 };
  second = record { which = Operation.ZeroFill; right = right; flags = TO_CACHE };
}

-- an order to give a page up that is not changed, and its answer
abbrev pub deleted : ℕ → Exchange
deleted page = both page Operation.DeleteRange Right.Nothing TO_CACHE (TO_CACHE + REPLY)

-- whether the node has a right on the page
abbrev pub has_page : State → ℕ → ℕ → Bool
has_page s node page = holds ((s.column page).right node)

-- THE TABLE OF MESSAGES: the two of an event after this state. A caller's event has none
abbrev pub exchange_of : TreeShape → State → Event → Option Exchange
exchange_of shape s (Event.PageIn node page write) = Some (paged_in (has_page s node page) page (granted write))
exchange_of shape s (Event.ZeroFill node page write) = Some (zero_filled page (granted write))
exchange_of shape s (Event.PageOut node page) = Some (pushed (is_changed shape s node page) page Operation.PageOut Right.Nothing)
exchange_of shape s (Event.WriteOut node page) = Some (pushed (is_changed shape s node page) page Operation.WriteOut Right.Read)
exchange_of shape s (Event.SyncOut node page) = Some (pushed (is_changed shape s node page) page Operation.Sync Right.Write)
exchange_of shape s (Event.FlushBack node page) = Some (called_back (is_changed shape s node page) page Operation.FlushBack Right.Nothing)
exchange_of shape s (Event.DenyWrites node page) = Some (called_back (is_changed shape s node page) page Operation.DenyWrites Right.Read)
exchange_of shape s (Event.WriteBack node page) = Some (called_back (is_changed shape s node page) page Operation.WriteBack Right.Write)
exchange_of shape s (Event.DeleteRange node page) = Some (deleted page)
exchange_of shape s event = None
