-- What contracts see of a reply that was read.
use Rattle.std.specs.Prelude.{ℕ, List}

-- its fields, in the order of its bytes
pub record ReturnedSeen : Type 0 where
  pub number : ℕ
  pub caller : ℕ
  pub kind : ℕ
  pub value : ℕ
  pub disk : ℕ
  pub place : ℕ
  pub rest : List ℕ
