-- The frames of a leaf: the pages that it holds with what it has of them, as the code keeps them, the one that was used last first.
use Rattle.std.specs.Prelude.{◌≡◌, ◌≢◌, ℕ, ◌<◌, List, reverse, nat_eq, Option, None, IsSome, IsSomeAnd}
use Rattle.std.specs.Map.{keys_of, lookup}
use Rattle.lru.specs.LruCache.{LruCache}
use Rattle.tower_core.specs.declared.right.Right.{Right}
use Rattle.layer_laws.specs.Side.{Side}
use Rattle.page_messages.specs.declared.slot.Slot.{Slot}
use Rattle.page_messages.specs.declared.paged.PagedFile.{PagedFile}
use Rattle.page_messages.specs.Kept.{IsKept}
use Rattle.page_messages.specs.Slot.{side_of}
use Rattle.page_messages.specs.Seen.{side_seen}
use Rattle.vmm_cache.specs.Uses.{without}

-- the frame of a page, if it has one
abbrev pub slot_in : LruCache ℕ Slot → ℕ → Option Slot
slot_in held page = lookup (nat_eq page) held.entries

-- of a page without a frame the leaf has nothing
abbrev pub side_in : LruCache ℕ Slot → ℕ → Side
side_in held page = side_seen (slot_in held page)

-- the pages with a frame, by their last uses
abbrev pub uses_in : LruCache ℕ Slot → List ℕ
uses_in held = reverse (keys_of held.entries)

-- what holds of a page with a frame: it is one of the file's, the leaf has a right on it, and no child has one
pub record IsFramed (file : PagedFile) (page : ℕ) (s : Side) : Type 0 where
  pub inside : page < file.pages
  pub right : s.right ≢ Right.Nothing
  pub kept : IsKept file.page_size 0 s

abbrev pub AreFramed : PagedFile → LruCache ℕ Slot → Type 0
AreFramed file held = (page : ℕ) → IsSome (slot_in held page) → IsFramed file page (side_in held page)

-- all frames are as they were, but of this page
pub record IsElsewhere (old new : LruCache ℕ Slot) (page : ℕ) : Type 0 where
  pub others : (other : ℕ) → other ≢ page → slot_in new other ≡ slot_in old other
  pub cap : new.cap ≡ old.cap

-- the page has a frame, and is so now
pub record FramesPage (old new : LruCache ℕ Slot) (page : ℕ) (to : Side) (listed : List ℕ) : Type 0 where
  pub elsewhere : IsElsewhere old new page
  pub here : IsSomeAnd (slot_in new page) (λ slot. side_of slot ≡ to)
  pub uses : uses_in new ≡ listed

-- the page has no frame now
pub record FreesPage (old new : LruCache ℕ Slot) (page : ℕ) : Type 0 where
  pub elsewhere : IsElsewhere old new page
  pub here : slot_in new page ≡ None
  pub gone : uses_in new ≡ without page (uses_in old)
