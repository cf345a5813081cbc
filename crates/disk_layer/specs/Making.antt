-- A disk in the making: a map and pages on a store, and no header yet.
use Rattle.std.specs.Prelude.{◌≡◌, ◌⊎◌, ℕ, ◌<◌, List, replicate, is_some, Option, Some, IfSome}
use Rattle.std.specs.Option.{option_map}
use Rattle.spr_io.specs.Content.{Content, written, flushed}
use Rattle.disk_format.specs.declared.shape.ImageShape.{ImageShape}
use Rattle.disk_format.specs.Shape.{map_blocks}
use Rattle.disk_format.specs.VersionOne.{header}
use Rattle.disk_format.specs.Image.{image, pages_of}
use Rattle.disk_layer.specs.Disk.{Disk, IsBlank, formatted, first_in, kept_in}
use Rattle.disk_layer.specs.Calls.{Stored, IsNone}

-- its number and shape, the entries that it keeps in memory, what its store holds where that is told, and the store's count
-- of faults
pub record Making : Type 0 where
  pub disk : ℕ
  pub shape : ImageShape
  pub entries : List ℕ
  pub content : Option Content
  pub faults : ℕ

-- the pages that the entries name
abbrev pub pages_made : Making → Option (List (List ℕ))
pages_made m = option_map {T = Content} (λ c. pages_of m.shape.page_size c.blocks m.entries) m.content

-- a disk in the making was begun on a store: the blocks of the map have holes, and no other block is changed
pub record Began (before : Stored) (m : Making) : Type 0 where
  pub disk : m.disk ≡ before.disk
  pub shape : m.shape ≡ before.shape
  pub holes : m.entries ≡ replicate before.shape.pages 0
  pub content : m.content ≡ formatted before.shape (map_blocks before.shape) before.content
  pub pages : IfSome (pages_made m) (λ ps. ps ≡ replicate before.shape.pages (replicate before.shape.page_size 0))
  pub calm : m.faults ≡ before.faults

-- a disk in the making was not begun: some blocks of the map were written, from the lowest, and not all
pub record Unbegun (before : Stored) (left : Option Content) : Type 0 where
  pub many : ℕ
  pub within : many < map_blocks before.shape
  pub content : left ≡ formatted before.shape many before.content

-- if block 0 was zeros it is so still, and the blocks are no image
pub record StaysBlank (shape : ImageShape) (before after : Option Content) : Type 0 where
  pub blank : IsBlank before → IsBlank after
  pub none : IsBlank before → IsNone shape after

-- what stays in a write of a page: all but the entries, the blocks as read, and the count; and block 0
pub record SameMaking (before after : Making) : Type 0 where
  pub disk : after.disk ≡ before.disk
  pub shape : after.shape ≡ before.shape
  pub told : is_some after.content ≡ is_some before.content
  pub first : first_in after.content ≡ first_in before.content
  pub kept : kept_in after.content ≡ kept_in before.content

-- the disk that was made: its header was written over block 0, and every block is kept
abbrev pub made_disk : ℕ → Making → Disk
made_disk generation m = record {
  disk = m.disk;
  shape = m.shape;
  generation = generation;
  entries = m.entries;
  content = flushed (written 0 (header m.shape generation) m.content);
  faults = m.faults;
  opened = m.faults;
}

-- what is left of a disk in the making that was not ended: its blocks, or its blocks flushed, or its blocks flushed and then
-- the header, which is not kept
abbrev pub IsUnended : ℕ → Making → Option Content → Type 0
IsUnended generation m left =
    (left ≡ m.content) ⊎ ((left ≡ flushed m.content) ⊎ (left ≡ written 0 (header m.shape generation) (flushed m.content)))

-- the blocks, if they are told, are an image of this generation and these pages
abbrev pub IsImageOf : ImageShape → ℕ → Option (List (List ℕ)) → Option Content → Type 0
IsImageOf shape generation pages content =
    IfSome content (λ c. IfSome pages (λ ps. image shape c.blocks ≡ Some (record { generation = generation; pages = ps })))

-- block 0 is zeros, and the blocks are no image; or they are the whole image of the disk in the making
abbrev pub IsBlankOrMade : ℕ → Making → Option Content → Type 0
IsBlankOrMade generation m left = (IsBlank left × IsNone m.shape left) ⊎ IsImageOf m.shape generation (pages_made m) left
