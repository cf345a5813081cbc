-- Operations of one name in a table.
use Rattle.std.specs.Prelude.{◌≡◌, ◌≢◌, ℕ, List, Some, slice_get, Any, AllPairs}
use Rattle.idl_reader.specs.Tree.{DeclTree}
use Rattle.idl_check.specs.FitsTogether.{StandsAt}
use Rattle.idl_tables.specs.Tables.{Operation}

-- no two of the operations have one name
abbrev pub HaveOwnNames : List Operation → Type 0
HaveOwnNames ops = AllPairs (λ one other. one.name ≢ other.name) ops

-- two of the operations have one name, and different interfaces declare them
abbrev pub ShareName : List Operation → Type 0
ShareName ops = Any (λ one. Any (λ other. (one.name ≡ other.name) × (one.declarer ≢ other.declarer)) ops) ops

-- the place is that of a declaration's name, in whose table two operations share a name
pub record SharesAt (decls : List DeclTree) (tables : List (List Operation)) (place : ℕ) : Type 0 where
  pub number : ℕ
  pub stands : StandsAt decls number place
  pub table : List Operation
  pub table_at : slice_get tables number ≡ Some table
  pub share : ShareName table
