-- A letter about a page as a frame.
use Rattle.std.specs.Prelude.{ℕ, ◌*◌, if◌then◌else◌, []}
use Rattle.marshal_buf.specs.Held.{Held, Puts}
use Rattle.pager_channel.specs.declared.front.Head.{Head}
use Rattle.pager_channel.specs.declared.numbers.Ops.{Ops}
use Rattle.pager_channel.specs.Seen.{FrameSeen}
use Rattle.pager_channel.specs.Numbers.{number_of}
use Rattle.pager_channel.specs.Frame.{frame_bytes}
use Rattle.page_messages.specs.declared.paged.PagedFile.{PagedFile}
use Rattle.page_messages.specs.Kinds.{access_of}
use Rattle.page_messages.specs.Letters.{LetterSeen, is_paged}

-- a message about a page stands at the page's start and is of its size; one about no page has offset and size 0
abbrev pub head_of : Ops → PagedFile → ℕ → LetterSeen → Head
head_of ops file page l = record {
  subcontract = 2;
  operation = number_of ops l.which;
  tag = file.number;
  offset = if is_paged l.which then page * file.page_size else 0;
  size = if is_paged l.which then file.page_size else 0;
  access = access_of l.right;
  flags = l.flags;
}

-- THE FRAME of a letter about a page of a file
abbrev pub sealed : Ops → PagedFile → ℕ → LetterSeen → FrameSeen
sealed ops file page l = record { head = head_of ops file page l; which = l.which; body = l.body }

-- the frame was put behind what the buffer had
abbrev pub PutsFrame : FrameSeen → Held → Held → Type 0
PutsFrame f old new = Puts (frame_bytes f.head f.body) [] old new
