-- A table with a number for each node.
use Rattle.std.specs.Prelude.{◌≡◌, ℕ, ◌<◌, List, length, slice_index}
use Rattle.hist_plain.specs.declared.TheConstants.{MAX_NODES}

-- the numbers of the first nodes are the function's
pub record AreNumbers (value : ℕ → ℕ) (nodes : ℕ) (numbers : List ℕ) : Type 0 where
  pub len : length numbers ≡ MAX_NODES
  pub number : (node : ℕ) → node < nodes → slice_index numbers node ≡ value node
