-- When a call may answer that the outside failed.
use Rattle.std.specs.Prelude.{ℕ, ◌+◌, ◌-◌, ◌<◌, ◌≤◌, ◌^◌, min}

-- the count rose, or stands at its type's end
abbrev pub Rose : ℕ → ℕ → Type 0
Rose before now = min (before + 1) (2 ^ 64 - 1) ≤ now

-- the count of a shelf, a bay or a sink never falls, and it rose if the call failed
pub record HasCause (before now : ℕ) (Fails : Type 0) : Type 0 where
  pub later : before ≤ now
  pub rose : Fails → Rose before now

-- a store's count never falls, is at most the greatest of its type, and rose if the call failed
pub record Counts (before now : ℕ) (Fails : Type 0) : Type 0 where
  pub later : before ≤ now
  pub rose : Fails → before < now
  pub fits : now < 2 ^ 64
