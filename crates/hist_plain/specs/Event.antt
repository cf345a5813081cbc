-- What an event says: who made it, where, and whether its range is within one page.
use Rattle.std.specs.Prelude.{ℕ, ◌+◌, length, Bool, true, ◌&&◌, nat_lt, nat_le, IsTrue, Option, Some, None}
use Rattle.hist_plain.specs.declared.event.Op.{Op}
use Rattle.hist_plain.specs.declared.event.Op.TheVariants as ops
use Rattle.hist_plain.specs.declared.event.Event.{Event}
use Rattle.hist_plain.specs.declared.event.Event.TheVariants.{Access, PageIn, ZeroFill, PageOut, WriteOut, SyncOut, FlushBack, DenyWrites, WriteBack, DeleteRange, DestroyCache, DonePager, Synced}

-- whether a range has at least one byte and is within one of so many pages
abbrev pub is_in_page : ℕ → ℕ → ℕ → ℕ → ℕ → Bool
is_in_page page_size pages page off len = nat_lt page pages && nat_le 1 len && nat_le (off + len) page_size

-- whether an access stays within one page of a file of so many pages
abbrev pub fits_page : ℕ → ℕ → Op → Bool
fits_page page_size pages (ops.Read page off len) = is_in_page page_size pages page off len
fits_page page_size pages (ops.Write page off bytes) = is_in_page page_size pages page off (length bytes)
fits_page page_size pages (ops.Clear page) = nat_lt page pages
fits_page page_size pages ops.Open = true

abbrev pub Fits : ℕ → ℕ → Op → Type 0
Fits page_size pages op = IsTrue (fits_page page_size pages op)

-- who made the event; a page message has no caller
abbrev pub caller_of : Event → Option ℕ
caller_of (Access caller number node life op) = Some caller
caller_of (DestroyCache caller number node) = Some caller
caller_of (DonePager caller number node) = Some caller
caller_of (Synced caller number node from keep) = Some caller
caller_of _ = None

-- its number among the caller's events
abbrev pub number_of : Event → ℕ
number_of (Access caller number node life op) = number
number_of (DestroyCache caller number node) = number
number_of (DonePager caller number node) = number
number_of (Synced caller number node from keep) = number
number_of _ = 0

-- the node that it is about
abbrev pub node_of : Event → ℕ
node_of (Access caller number node life op) = node
node_of (PageIn node page write) = node
node_of (ZeroFill node page write) = node
node_of (PageOut node page) = node
node_of (WriteOut node page) = node
node_of (SyncOut node page) = node
node_of (FlushBack node page) = node
node_of (DenyWrites node page) = node
node_of (WriteBack node page) = node
node_of (DeleteRange node page) = node
node_of (DestroyCache caller number node) = node
node_of (DonePager caller number node) = node
node_of (Synced caller number node from keep) = node

-- the page of an access
abbrev pub page_of_op : Op → Option ℕ
page_of_op (ops.Read page off len) = Some page
page_of_op (ops.Write page off bytes) = Some page
page_of_op (ops.Clear page) = Some page
page_of_op ops.Open = None

-- the page that it is about, if it is about one
abbrev pub page_of : Event → Option ℕ
page_of (Access caller number node life op) = page_of_op op
page_of (PageIn node page write) = Some page
page_of (ZeroFill node page write) = Some page
page_of (PageOut node page) = Some page
page_of (WriteOut node page) = Some page
page_of (SyncOut node page) = Some page
page_of (FlushBack node page) = Some page
page_of (DenyWrites node page) = Some page
page_of (WriteBack node page) = Some page
page_of (DeleteRange node page) = Some page
page_of (DestroyCache caller number node) = None
page_of (DonePager caller number node) = None
page_of (Synced caller number node from keep) = None
