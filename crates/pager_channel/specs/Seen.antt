-- What contracts see of a frame that was read.
use Rattle.std.specs.Prelude.{ℕ, List}
use Rattle.pager_channel.specs.declared.front.Head.{Head}
use Rattle.pager_channel.specs.declared.operation.Operation.{Operation}

-- its head, the operation that this names, and its data
pub record FrameSeen : Type 0 where
  pub head : Head
  pub which : Operation
  pub body : List ℕ
