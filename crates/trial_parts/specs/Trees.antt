-- What a tree's lists of parents and frames have to keep at a node.
use Rattle.std.specs.Prelude.{◌≡◌, ℕ, ◌<◌, List, slice_index}

-- the parent of the node comes before it, and is no leaf
pub record Hangs (parents frames : List ℕ) (node : ℕ) : Type 0 where
  pub after : slice_index parents node < node
  pub layer : slice_index frames (slice_index parents node) ≡ 0
