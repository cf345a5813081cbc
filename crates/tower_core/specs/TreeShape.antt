-- What a tree of nodes is, seen as its lists. (The plain file's own shape is another record: a page size and parents.)
use Rattle.std.specs.Prelude.{◌≡◌, ℕ, ◌<◌, List, length, slice_index, Bool}
use Rattle.hist_plain.specs.Plain.{is_within as is_below}

-- the parents of the nodes, and how many frames each has: 0 for a node that is no leaf
pub record TreeShape : Type 0 where
  pub parents : List ℕ
  pub frames : List ℕ

abbrev pub nodes : TreeShape → ℕ
nodes shape = length shape.parents

-- the parent of a node
abbrev pub parent : TreeShape → ℕ → ℕ
parent shape node = slice_index shape.parents node

abbrev pub frames_of : TreeShape → ℕ → ℕ
frames_of shape node = slice_index shape.frames node

-- a node of the tree other than the ground, which is node 0
pub record IsUpper (shape : TreeShape) (node : ℕ) : Type 0 where
  pub above : 0 < node
  pub inside : node < nodes shape

pub record IsChild (shape : TreeShape) (child node : ℕ) : Type 0 where
  pub upper : IsUpper shape child
  pub hangs : parent shape child ≡ node

-- each parent comes before its node, the ground is its own, and what has frames is a leaf
pub record IsTree (shape : TreeShape) : Type 0 where
  pub grounded : 0 < nodes shape
  pub framed : length shape.frames ≡ nodes shape
  pub ground : parent shape 0 ≡ 0
  pub ordered : (node : ℕ) → IsUpper shape node → parent shape node < node
  pub leaves : (child node : ℕ) → IsChild shape child node → frames_of shape node ≡ 0

-- the node is of the subtree of the top: the top is on its path to the ground
abbrev pub is_within : TreeShape → ℕ → ℕ → Bool
is_within shape node top = is_below shape.parents node top
