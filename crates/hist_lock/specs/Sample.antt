-- The roll of calls that the tests keep under a lock, what one caller made of them, and what a hold leaves of a seat.
use Rattle.std.specs.Prelude.{◌≡◌, ℕ, zero, suc, ◌<◌, ◌≤◌, ◌==◌, false, List, [], ◌∷◌, ◌++◌, filter, Option, Some}
use Rattle.hist_lock.specs.Known.{Known}

-- who made it, and how many calls its caller had made before
abbrev pub Call : Type 0
Call = ℕ × ℕ

abbrev pub call : ℕ → ℕ → Call
call caller number = (caller, number)

abbrev pub by : Call → Option ℕ
by c = Some c.0

-- the calls of one caller, in order
abbrev pub mine : ℕ → List Call → List Call
mine caller calls = filter (λ c. c.0 == caller) calls

-- the first n calls of a caller, numbered from 0
abbrev pub numbered : ℕ → ℕ → List Call
numbered caller zero = []
numbered caller (suc n) = numbered caller n ++ call caller n ∷ []

-- between the two lists the caller made just these calls
abbrev pub Made : ℕ → List Call → List Call → List Call → Type 0
Made caller calls old new = mine caller new ≡ mine caller old ++ calls

-- of `count` calls the caller made the first few
pub record MadeFew (caller count : ℕ) (old new : List Call) : Type 0 where
  pub few : ℕ
  pub fewer : few < count
  pub calls : Made caller (numbered caller few) old new

-- each caller from first up to end made `count` calls
pub record EachMade (first end count : ℕ) (old new : List Call) : Type 0 where
  pub each : (caller : ℕ) → first ≤ caller → caller < end → Made caller (numbered caller count) old new

-- the same seat, free again, which may know more
pub record IsSame (old new : Known Call ℕ) : Type 0 where
  pub lock : new.lock ≡ old.lock
  pub first : new.first ≡ old.first
  pub end : new.end ≡ old.end
  pub free : new.taken ≡ false
  pub part : new.part ≡ old.part
