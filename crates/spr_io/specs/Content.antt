-- What a store holds, if it is told.
use Rattle.std.specs.Prelude.{◌≡◌, ℕ, List, length, replicate, slice_get, slice_set, Option, Some, IfSome, All}
use Rattle.std.specs.Option.{option_map}

-- the blocks as a read gives them, and as they were at the last flush that succeeded
pub record Content : Type 0 where
  pub blocks : List (List ℕ)
  pub kept : List (List ℕ)

-- this number of blocks of this size, and as many kept
pub record HasShape (size number : ℕ) (content : Content) : Type 0 where
  pub blocks : length content.blocks ≡ number
  pub kept : length content.kept ≡ number
  pub sizes : All (λ b. length b ≡ size) content.blocks
  pub kept_sizes : All (λ b. length b ≡ size) content.kept

-- what is told has this shape
abbrev pub IsShaped : ℕ → ℕ → Option Content → Type 0
IsShaped size number content = IfSome content (HasShape size number)

-- a call changes neither the block size nor the number of blocks
pub record KeepsShape (size number : ℕ) (size_after number_after : ℕ) (content : Option Content) : Type 0 where
  pub same_size : size_after ≡ size
  pub same_number : number_after ≡ number
  pub told : IsShaped size number content

-- what a read of a block gives
abbrev pub ReadsBlock : Option Content → ℕ → List ℕ → Type 0
ReadsBlock content block out = IfSome content (λ c. slice_get c.blocks block ≡ Some out)

-- the content after a block was written
abbrev pub written : ℕ → List ℕ → Option Content → Option Content
written block bytes content = option_map {T = Content} (λ c. record c { blocks = slice_set c.blocks block bytes }) content

-- a content of which every block is kept as it is read
abbrev pub all_kept : Content → Content
all_kept c = record c { kept = c.blocks }

-- nothing is pending: every block is kept as it is read, if that is told
abbrev pub HasNothingPending : Option Content → Type 0
HasNothingPending content = IfSome content (λ c. c.kept ≡ c.blocks)

-- the content after a flush
abbrev pub flushed : Option Content → Option Content
flushed content = option_map {T = Content} (λ c. record c { kept = c.blocks }) content

-- blocks of zeros, kept so
abbrev pub zeros : ℕ → ℕ → Content
zeros size number = record { blocks = replicate number (replicate size 0); kept = replicate number (replicate size 0) }
