-- The blocks of a store in memory, as it keeps them.
use Rattle.std.specs.Prelude.{◌≡◌, ◌<◌, ◌^◌, ◌==◌, ◌&&◌, ◌++◌, ◌∷◌, [], ℕ, List, Bool, true, false, not, length, map, replicate, slice_index_or, All, nat_lt, if◌then◌else◌}
use Rattle.std.specs.List.{list_any}
use Rattle.spr_io.specs.Content.{Content}

-- a block as read and as kept, and whether it was written since it was kept
pub record StoredBlock : Type 0 where
  pub bytes : List ℕ
  pub kept : List ℕ
  pub dirty : Bool

-- the block once it is kept
abbrev pub kept_block : StoredBlock → StoredBlock
kept_block b = record { bytes = b.bytes; kept = b.bytes; dirty = false }

-- the block once it is written
abbrev pub written_block : List ℕ → StoredBlock → StoredBlock
written_block bytes b = record { bytes = bytes; kept = b.kept; dirty = true }

-- a block of zeros
abbrev pub zero_block : ℕ → StoredBlock
zero_block size = record { bytes = replicate size 0; kept = replicate size 0; dirty = false }

-- what blocks hold
abbrev pub content_of : List StoredBlock → Content
content_of blocks = record { blocks = map (λ b. b.bytes) blocks; kept = map (λ b. b.kept) blocks }

-- whether a block is in a list of blocks
abbrev pub is_listed : List ℕ → ℕ → Bool
is_listed listed block = list_any (λ n. n == block) listed

-- the list of the dirty blocks of so many after a block was written that was dirty or not
abbrev pub listed_after : ℕ → Bool → ℕ → List ℕ → List ℕ
listed_after number dirty block listed = if not dirty && nat_lt (length listed) number then listed ++ block ∷ [] else listed

-- each dirty block is listed
abbrev pub ListsDirty : List StoredBlock → List ℕ → Type 0
ListsDirty blocks listed = (k : ℕ) (d : StoredBlock) → k < length blocks → (slice_index_or blocks k d).dirty ≡ true → is_listed listed k ≡ true

-- the blocks have one size; a block that is not dirty is kept as it reads; the dirty blocks are listed, unless the
-- list is as long as the store
pub record IsSound (size : ℕ) (blocks : List StoredBlock) (listed : List ℕ) : Type 0 where
  pub few : length blocks < 2 ^ 32
  pub sizes : All (λ b. length b.bytes ≡ size) blocks
  pub kept_sizes : All (λ b. length b.kept ≡ size) blocks
  pub clean : All (λ b. b.dirty ≡ false → b.kept ≡ b.bytes) blocks
  pub inside : All (λ n. n < length blocks) listed
  pub lists : length listed < length blocks → ListsDirty blocks listed

-- the block size, and the blocks as read and as kept
pub record Held : Type 0 where
  pub size : ℕ
  pub content : Content
