-- The file of a test, and a pass of its volume.
use Rattle.std.specs.Prelude.{◌≡◌, ℕ, ◌<◌, length}
use Rattle.std.specs.List.{AllByRecursion}
use Rattle.tower_core.specs.TreeShape.{IsUpper}
use Rattle.stack_engine.specs.Engine.{file_in, tree_in}
use Rattle.stack_engine.specs.Tower.{TowerSeen}
use Rattle.spr_volume.specs.FilePasses.{FilesSeen, FilesKnown}

-- four pages of 64 bytes, under three layers
pub record IsSmall (t : TowerSeen) : Type 0 where
  pub layers : (node : ℕ) → 0 < node → node < 4 → IsUpper (tree_in t.engine) node
  pub file : file_in t.engine ≡ record { number = 0; page_size = 64; pages = 4 }

-- a volume of one such file
abbrev pub HasOne : FilesSeen → Type 0
HasOne v = (length v.towers ≡ 1) × AllByRecursion IsSmall v.towers

-- a pass of the volume, for these callers
abbrev pub IsFor : FilesSeen → ℕ → ℕ → FilesKnown → Type 0
IsFor v first end p = (p.owners ≡ v.owners) × (p.first ≡ first) × (p.end ≡ end)
