-- The names that objects have.
use Rattle.std.specs.Prelude.{ℕ, List, codes}

-- the name of every manager
abbrev pub manager_name : List ℕ
manager_name = codes "vmm"
