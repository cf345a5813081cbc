-- A disk: an image on a store.
use Rattle.std.specs.Prelude.{◌≡◌, ◌≢◌, ℕ, zero, suc, Bool, List, [], ◌∷◌, drop, take, get_or, replicate, slice_index, slice_set, true, Option, Some, IfSome, Ok, if◌then◌else◌, ◌==◌}
use Rattle.std.specs.Option.{option_map}
use Rattle.std.specs.List.{concat}
use Rattle.spr_io.specs.Content.{Content, HasShape, written, flushed}
use Rattle.disk_format.specs.declared.shape.ImageShape.{ImageShape}
use Rattle.disk_format.specs.Shape.{map_blocks, blocks_of}
use Rattle.disk_format.specs.VersionOne.{header, header_in, is_generation}
use Rattle.page_ground.specs.Seen.{Imaged}
use Rattle.disk_format.specs.Image.{image, pages_of}
use Rattle.page_ground.specs.Pages.{are_zeros}
use Rattle.disk_layer.specs.Front.{FrontSeen, IsMap, IsLowestFree, entries_on}
use Rattle.page_ground.specs.Seen.{Seen}

-- the disk's number and shape, the generation and the entries that it keeps in memory, what its store holds where
-- that is told, and the store's count of faults, now and when the disk was opened
pub record Disk : Type 0 where
  pub disk : ℕ
  pub shape : ImageShape
  pub generation : ℕ
  pub entries : List ℕ
  pub content : Option Content
  pub faults : ℕ
  pub opened : ℕ

-- the store has a shape's block size and number of blocks
pub record Suits (shape : ImageShape) (block_size blocks : ℕ) : Type 0 where
  pub size : block_size ≡ shape.page_size
  pub number : blocks ≡ blocks_of shape

-- the pages that the entries name
abbrev pub pages_on : Disk → Option (List (List ℕ))
pages_on d = option_map {T = Content} (λ c. pages_of d.shape.page_size c.blocks d.entries) d.content

-- the blocks are an image, of the disk's generation and pages
abbrev pub HasImage : Disk → Type 0
HasImage d =
    IfSome d.content (λ c. image d.shape c.blocks ≡ Some (record { generation = d.generation; pages = pages_of d.shape.page_size c.blocks d.entries }))

-- the image that it has
abbrev pub held_on : Disk → Option Imaged
held_on d = option_map {T = List (List ℕ)} (λ ps. let image : Imaged = record { generation = d.generation; pages = ps } in image) (pages_on d)

-- what the kept blocks stand for
abbrev pub kept_on : Disk → Option (Option Imaged)
kept_on d = option_map {T = Content} (λ c. image d.shape c.kept) d.content

-- the disk as the one under a file: it owes nothing, so what is due is its generation
abbrev pub seen_of : Disk → Seen
seen_of d = record {
  page_size = d.shape.page_size;
  number = d.shape.pages;
  pages = pages_on d;
  generation = d.generation;
  due = d.generation;
  disks = record { disk = d.disk; live = true; up = true; holds = held_on d; kept = kept_on d; faults = d.faults; opened = d.opened } ∷ [];
}

-- another count of faults, and nothing else
abbrev pub counting : ℕ → Disk → Disk
counting faults d = record d { faults = faults }

-- the disk once its header has another generation
abbrev pub headed : ℕ → Disk → Disk
headed generation d = record d { generation = generation; content = written 0 (header d.shape generation) d.content }

-- the disk once its store was flushed
abbrev pub settled : Disk → Disk
settled d = record d { content = flushed d.content }

-- a page has the block that it had, or the lowest free one if it was a hole
pub record Placed (shape : ImageShape) (before : List ℕ) (page : ℕ) (after : List ℕ) : Type 0 where
  pub block : ℕ
  pub entries : after ≡ slice_set before page block
  pub named : slice_index before page ≢ 0 → block ≡ slice_index before page
  pub hole : slice_index before page ≡ 0 → IsLowestFree shape before block

-- what stays in a write of a page: all but the entries, the blocks as read, and the count
pub record SameBut (before after : Disk) : Type 0 where
  pub disk : after.disk ≡ before.disk
  pub shape : after.shape ≡ before.shape
  pub generation : after.generation ≡ before.generation
  pub kept : kept_on after ≡ kept_on before
  pub opened : after.opened ≡ before.opened

-- the blocks of a store after the first `n` of a fresh image were written: those of the map from the lowest, and
-- then the header
abbrev pub laid : ImageShape → ℕ → List (List ℕ) → List (List ℕ)
laid shape zero blocks = blocks
laid shape (suc n) blocks =
    if n == map_blocks shape then slice_set (laid shape n blocks) 0 (header shape 1) else slice_set (laid shape n blocks) (suc n) (replicate shape.page_size 0)

abbrev pub formatted : ImageShape → ℕ → Option Content → Option Content
formatted shape n content = option_map {T = Content} (λ c. record c { blocks = laid shape n c.blocks }) content

-- whether block 0 is zeros
abbrev pub is_blank : List (List ℕ) → Bool
is_blank blocks = are_zeros (get_or blocks 0 [])

-- block 0 is zeros, if the blocks are told
abbrev pub IsBlank : Option Content → Type 0
IsBlank content = IfSome content (λ c. is_blank c.blocks ≡ true)

-- what is told of a store's content has these bytes of the map
pub record HasMap (shape : ImageShape) (bytes : List ℕ) (c : Content) : Type 0 where
  pub shaped : HasShape shape.page_size (blocks_of shape) c
  pub map : concat (take (map_blocks shape) (drop 1 c.blocks)) ≡ bytes

-- the map that is kept in memory is what a store of its shape holds
pub record IsMapped (front : FrontSeen) (block_size blocks : ℕ) (content : Option Content) : Type 0 where
  pub map : IsMap front
  pub suits : Suits front.shape block_size blocks
  pub told : IfSome content (HasMap front.shape front.map)

-- the pages that a map in memory names
abbrev pub pages_named : FrontSeen → Option Content → Option (List (List ℕ))
pages_named f content = option_map {T = Content} (λ c. pages_of f.shape.page_size c.blocks (entries_on f)) content

-- block 0, if the blocks are told
abbrev pub first_in : Option Content → Option (List ℕ)
first_in content = option_map {T = Content} (λ c. get_or c.blocks 0 []) content

-- the blocks that were kept, if they are told
abbrev pub kept_in : Option Content → Option (List (List ℕ))
kept_in content = option_map {T = Content} (λ c. c.kept) content

-- what is told of a store's content is the image of this generation and these bytes of the map
pub record Tied (shape : ImageShape) (generation : ℕ) (bytes : List ℕ) (c : Content) : Type 0 where
  pub shaped : HasShape shape.page_size (blocks_of shape) c
  pub header : header_in shape (get_or c.blocks 0 []) ≡ Ok (record { generation = generation })
  pub map : concat (take (map_blocks shape) (drop 1 c.blocks)) ≡ bytes

-- what a disk keeps in memory is what its store holds
pub record IsSound (front : FrontSeen) (generation block_size blocks : ℕ) (content : Option Content) : Type 0 where
  pub map : IsMap front
  pub suits : Suits front.shape block_size blocks
  pub numbered : is_generation generation ≡ true
  pub told : IfSome content (Tied front.shape generation front.map)
