-- Operations that tables have, and that they lack.
use Rattle.std.specs.Prelude.{◌≡◌, ◌<◌, ℕ, List, length, Some, slice_get, slice_index}
use Rattle.pager_channel.specs.declared.numbers.Ops.{Ops}
use Rattle.pager_channel.specs.declared.operation.Operation.{Operation}
use Rattle.pager_channel.specs.Numbers.{number_of}
use Rattle.idl_tables.specs.TableSet.{Tabled, IsNumberOf}
use Rattle.run_texts.specs.OperationNames.{called}

-- the number of the operation in the table of its interface
abbrev pub IsNumber : Tabled → Operation → ℕ → Type 0
IsNumber set which number = IsNumberOf set (called which).interface (called which).name number

-- the table of its interface has the operation
abbrev pub IsThere : Tabled → Operation → Type 0
IsThere set which = (number : ℕ) × IsNumber set which number

-- it does not
abbrev pub IsMissing : Tabled → Operation → Type 0
IsMissing set which = ¬ IsThere set which

-- the numbers of some operations, in order, one for each
pub record AreNumbers (set : Tabled) (operations : List Operation) (numbers : List ℕ) : Type 0 where
  pub count : length numbers ≡ length operations
  pub each : (place : ℕ) (which : Operation) → slice_get operations place ≡ Some which → IsNumber set which (slice_index numbers place)

-- each operation has its number in the table of its interface
pub record HasNumbers (set : Tabled) (ops : Ops) : Type 0 where
  pub each : (which : Operation) → IsNumber set which (number_of ops which)

-- the first of some operations that is missing: each before it is there
pub record IsFirstMissing (set : Tabled) (operations : List Operation) (which : Operation) : Type 0 where
  pub place : ℕ
  pub stands : slice_get operations place ≡ Some which
  pub missing : IsMissing set which
  pub before : (k : ℕ) (one : Operation) → k < place → slice_get operations k ≡ Some one → IsThere set one
