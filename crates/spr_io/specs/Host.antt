-- What the host's stores and bay tell.
use Rattle.std.specs.Prelude.{◌≡◌, ℕ, zero, suc, List, [], ◌∷◌, length, take, drop, Option, Some, None, IfSome, Bool, true, false, find, ◌&&◌, if◌then◌else◌}
use Rattle.std.specs.Option.{option_map}
use Rattle.std.specs.Str.{bytes_eq}
use Rattle.spr_io.specs.Content.{Content}
use Rattle.spr_io.specs.Raw.{FileSeen, is_sure}
use Rattle.spr_io.specs.Berth.{Berth}

-- a store in a file: its block size, its number of blocks, its count of faults, whether a sync was refused, and what its
-- file tells
pub record Image : Type 0 where
  pub size : ℕ
  pub blocks : ℕ
  pub count : ℕ
  pub spoiled : Bool
  pub file : Option FileSeen

-- bytes cut into so many blocks of a size
abbrev pub cut : ℕ → ℕ → List ℕ → List (List ℕ)
cut size zero bytes = []
cut size (suc number) bytes = take size bytes ∷ cut size number (drop size bytes)

-- the blocks in a file, if it is told: as they are read, and as of the last sync that was done
abbrev pub held_in : ℕ → ℕ → Option FileSeen → Option Content
held_in size number seen = option_map {T = FileSeen} (λ f. record { blocks = cut size number f.bytes; kept = cut size number f.synced }) seen

-- the blocks that a store's file has, if it is told
abbrev pub held : Image → Option Content
held image = held_in image.size image.blocks image.file

-- what a store tells of its blocks: those of a file that is known to refuse nothing. (A store whose count of faults
-- stands at its end answers Ok; over a file that refuses a call there, that would not be true of what it tells.)
abbrev pub content_in : ℕ → ℕ → Option FileSeen → Option Content
content_in size number seen = if is_sure seen then held_in size number seen else None

abbrev pub image_content : Image → Option Content
image_content image = content_in image.size image.blocks image.file

-- a file of so many bytes, and as many synced; a sync of it was refused if its store is spoiled, and only then
pub record Fits (len : ℕ) (spoiled : Bool) (f : FileSeen) : Type 0 where
  pub bytes : length f.bytes ≡ len
  pub synced : length f.synced ≡ len
  pub failed : f.failed ≡ spoiled
  pub unsure : spoiled ≡ true → f.sure ≡ false

-- the file fits, if it is told
abbrev pub FileFits : ℕ → Bool → Option FileSeen → Type 0
FileFits len spoiled seen = IfSome seen (Fits len spoiled)

-- a store that was taken before, or is out: and its count of faults when it was taken or given back last
pub record Entry : Type 0 where
  pub disk : List ℕ
  pub file : List ℕ
  pub out : Bool
  pub count : ℕ

-- whether an entry is that of a disk and a file
abbrev pub is_entry : List ℕ → List ℕ → Entry → Bool
is_entry disk file entry = bytes_eq entry.disk disk && bytes_eq entry.file file

-- what an entry tells; nothing is told of what the store holds
abbrev pub entry_berth : Option Entry → Berth
entry_berth None = record { holds = None; out = false; faults = 0 }
entry_berth (Some entry) = record { holds = None; out = entry.out; faults = entry.count }

-- what entries tell of a disk and a file
abbrev pub berth_in : List Entry → List ℕ → List ℕ → Berth
berth_in entries disk file = entry_berth (find (is_entry disk file) entries)

-- the host's bay: its entries and its count of faults
pub record HostEntries : Type 0 where
  pub entries : List Entry
  pub faults : ℕ
