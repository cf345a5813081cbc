-- The entries of a log in their blocks.
use Rattle.std.specs.Prelude.{◌≡◌, ℕ, ◌<◌, ◌≤◌, List, [], ◌∷◌, ◌++◌, length}
use Rattle.tower_log.specs.declared.logged.Entry.{Entry}
use Rattle.tower_log.specs.declared.blocks.TheConstants.{BLOCK_LEN}

-- what contracts see of them
pub record BlocksSeen : Type 0 where
  -- the entries, in order
  pub entries : List Entry
  -- for how many more entries there is room
  pub room : ℕ

-- the entries of these blocks, one block after another
abbrev pub entries_in : List (List Entry) → List Entry
entries_in [] = []
entries_in (block ∷ blocks) = block ++ entries_in blocks

-- each block has an entry, and at most BLOCK_LEN of them; exactly so many if another block follows
abbrev pub AreFilled : List (List Entry) → Type 0
AreFilled [] = Unit {0}
AreFilled (block ∷ blocks) = (0 < length block) × (length block ≤ BLOCK_LEN) × (0 < length blocks → length block ≡ BLOCK_LEN) × AreFilled blocks

-- a block without entries
abbrev pub IsFresh : List Entry → Type 0
IsFresh block = block ≡ []
