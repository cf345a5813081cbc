-- A page that a leaf does not hold.
use Rattle.std.specs.Prelude.{◌≡◌, ◌≢◌, ℕ}
use Rattle.tower_core.specs.declared.right.Right.{Right}
use Rattle.layer_laws.specs.Side.{Side}
use Rattle.page_messages.specs.declared.slot.Slot.{Slot}
use Rattle.page_messages.specs.declared.paged.PagedFile.{PagedFile}
use Rattle.page_messages.specs.Kept.{IsKept}
use Rattle.page_messages.specs.Slot.{side_of}

-- nobody has anything of it, whatever the size of a page
pub record IsBare (slot : Slot) : Type 0 where
  pub right : (side_of slot).right ≡ Right.Nothing
  pub kept : (page_size : ℕ) → IsKept page_size 0 (side_of slot)

-- what the code reads of a page: what the leaf has of it, but that of a page on which it has no right the copy is anything
pub record IsSeenAs (file : PagedFile) (s found : Side) : Type 0 where
  pub right : found.right ≡ s.right
  pub kids : (child : ℕ) → found.kids child ≡ s.kids child
  pub same : s.right ≢ Right.Nothing → found ≡ s
  pub kept : IsKept file.page_size 0 found
