-- A table with a flag for each node.
use Rattle.std.specs.Prelude.{◌≡◌, ℕ, ◌<◌, List, length, slice_index_or, Bool, false}
use Rattle.hist_plain.specs.declared.TheConstants.{MAX_NODES}

-- the flags of the first nodes are the test's
pub record AreFlags (test : ℕ → Bool) (nodes : ℕ) (flags : List Bool) : Type 0 where
  pub len : length flags ≡ MAX_NODES
  pub flag : (node : ℕ) → node < nodes → slice_index_or flags node false ≡ test node
