-- The heads of the letters that nodes write for an event, by their own tables.
use Rattle.std.specs.Prelude.{ℕ, List, ◌≡◌, ◌++◌}
use Rattle.pager_channel.specs.declared.front.Head.{Head}
use Rattle.pager_channel.specs.declared.numbers.Ops.{Ops}
use Rattle.page_messages.specs.declared.paged.PagedFile.{PagedFile}
use Rattle.page_messages.specs.Sealed.{head_of}
pub use Rattle.page_messages.specs.Written.{Letters, IsWritten, letters_of}
use Rattle.spr_report.specs.declared.heads.Heads.{Heads}
use Rattle.spr_report.specs.Heads.{head_bytes}

-- the heads of two letters
abbrev pub written_heads : PagedFile → Ops → Letters → Heads
written_heads file ops l = record {
  which = l.second.which;
  page = l.page;
  first = head_of ops file l.page l.first;
  second = head_of ops file l.page l.second;
}

-- the bytes of a frame begin with this head
abbrev pub BeginsWith : List ℕ → Head → Type 0
BeginsWith bytes head = (rest : List ℕ) × (bytes ≡ head_bytes head ++ rest)

-- two frames begin with these heads
pub record BeginBoth (first second : List ℕ) (heads : Heads) : Type 0 where
  pub first_is : BeginsWith first heads.first
  pub second_is : BeginsWith second heads.second
