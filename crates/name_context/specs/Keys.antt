-- The key of a path: no two paths have the same.
use Rattle.std.specs.Prelude.{ℕ, zero, suc, List, [], ◌∷◌, ◌++◌}
use Rattle.std.specs.List.{flat_map}

-- a byte as a key has it: a zero is written as 0 1
abbrev pub byte_key : ℕ → List ℕ
byte_key zero = 0 ∷ 1 ∷ []
byte_key (suc n) = suc n ∷ []

-- a part as a key has it: 0 0 ends it
abbrev pub part_key : List ℕ → List ℕ
part_key part = flat_map byte_key part ++ 0 ∷ 0 ∷ []

-- the key of a path
abbrev pub path_key : List (List ℕ) → List ℕ
path_key path = flat_map part_key path
