-- Numbers of operations.
use Rattle.std.specs.Prelude.{◌≡◌, ℕ, Bool, true, not, ◌&&◌, ◌==◌, IsTrue, List, [], ◌∷◌, length}
use Rattle.std.specs.List.{list_all}

-- whether no number stands twice
abbrev pub all_differ : List ℕ → Bool
all_differ [] = true
all_differ (x ∷ xs) = list_all (λ y. not (x == y)) xs && all_differ xs

-- so many numbers, which differ
pub record AreOwn (many : ℕ) (numbers : List ℕ) : Type 0 where
  pub count : length numbers ≡ many
  pub differ : IsTrue (all_differ numbers)
