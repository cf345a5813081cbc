-- An operation by its number.
use Rattle.std.specs.Prelude.{ℕ, ◌==◌, List, slice_get, position, Option}
use Rattle.std.specs.Option.{option_and_then}
use Rattle.pager_channel.specs.declared.operation.Operation.{Operation}

-- the operation that stands where the number stands
abbrev pub named : List Operation → List ℕ → ℕ → Option Operation
named operations numbers number = option_and_then (slice_get operations) (position (λ n. n == number) numbers)
