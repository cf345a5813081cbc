-- A file seen as a list of bytes and a life for each node.
use Rattle.std.specs.Prelude.{ℕ, List}

-- the size of a page, and the parent of each node
pub record Shape : Type 0 where
  pub page_size : ℕ
  pub parents : List ℕ

-- the bytes of the file, and the life of each node
pub record File : Type 0 where
  pub bytes : List ℕ
  pub lives : List ℕ

-- a file, and how many events it has taken
pub record Counted : Type 0 where
  pub shape : Shape
  pub file : File
  pub len : ℕ
