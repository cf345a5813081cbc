-- A set of nodes as a number: bit i is node i.
use Rattle.std.specs.Prelude.{◌≡◌, ◌≢◌, ◌<◌, ℕ, List, slice_index}
use Rattle.std.specs.Int.{bit_at}

abbrev pub IsIn : ℕ → ℕ → Type 0
IsIn mask node = (node < 32) × (bit_at mask node ≡ 1)

-- the set with one node more, and with one less
pub record With (old node new : ℕ) : Type 0 where
  pub same : bit_at new node ≡ 1
  pub others : (i : ℕ) → i ≢ node → bit_at new i ≡ bit_at old i

pub record Without (old node new : ℕ) : Type 0 where
  pub same : bit_at new node ≡ 0
  pub others : (i : ℕ) → i ≢ node → bit_at new i ≡ bit_at old i

-- the node is one of the first nodes of a list
abbrev pub IsAmong : List ℕ → ℕ → ℕ → Type 0
IsAmong nodes n node = (k : ℕ) × (k < n) × (slice_index nodes k ≡ node)
