-- The file that the messages of a channel are about, and what a frame of it is about.
use Rattle.std.specs.Prelude.{◌<◌, ◌≤◌, ℕ, ◌^◌, ◌/◌, ◌%◌, ◌-◌, ◌==◌, ◌&&◌, nat_lt, min, if◌then◌else◌, Option, Some, None}
use Rattle.std.specs.Bool.{then_some}
use Rattle.pager_channel.specs.declared.operation.Operation.{Operation}
use Rattle.pager_channel.specs.Seen.{FrameSeen}
use Rattle.page_messages.specs.declared.paged.PagedFile.{PagedFile}
use Rattle.page_messages.specs.declared.paged.About.{About}

-- a file whose messages have room in a head
pub record IsPagedFile (file : PagedFile) : Type 0 where
  pub number : file.number < 2 ^ 32
  pub some : 0 < file.page_size
  pub small : file.page_size ≤ 4096
  pub pages : 0 < file.pages
  pub few : file.pages ≤ 1024

-- the page is one of the file's
abbrev pub IsInside : PagedFile → About → Type 0
IsInside file (About.Page page) = page < file.pages
IsInside file About.Channel = Unit {0}

-- it is about a page
abbrev pub IsOfPage : Option About → Type 0
IsOfPage (Some (About.Page page)) = Unit {0}
IsOfPage about = ⊥

-- the page in which an offset stands
abbrev pub page_at : PagedFile → ℕ → ℕ
page_at file offset = offset / file.page_size

-- what a message is about, by its offset and size: the end of a channel is about no page
abbrev pub placed : PagedFile → Operation → ℕ → ℕ → Option About
placed file Operation.Done offset size = then_some (offset == 0 && size == 0) About.Channel
placed file Operation.Destroy offset size = then_some (offset == 0 && size == 0) About.Channel
placed file which offset size =
    then_some (size == file.page_size && offset % file.page_size == 0 && nat_lt (page_at file offset) file.pages) (About.Page (page_at file offset))

-- WHAT A FRAME IS ABOUT, if it is a channel's frame of this file
abbrev pub about_of : PagedFile → FrameSeen → Option About
about_of file f =
    if f.head.subcontract == 2 && f.head.tag == file.number then placed file f.which f.head.offset f.head.size else None

-- the page that a refusal names, a number of 32 bits
abbrev pub page_named : PagedFile → FrameSeen → ℕ
page_named file f = min (page_at file f.head.offset) (2 ^ 32 - 1)

-- one of the pages that decide a message
abbrev pub page_about : About → ℕ
page_about (About.Page page) = page
page_about About.Channel = 0
