-- The files of a case's volume, and a pass of it.
use Rattle.std.specs.Prelude.{◌≡◌, ℕ, ◌<◌, length}
use Rattle.std.specs.List.{AllByRecursion}
use Rattle.tower_core.specs.TreeShape.{IsUpper}
use Rattle.stack_engine.specs.Engine.{file_in, tree_in}
use Rattle.stack_engine.specs.Tower.{TowerSeen}
use Rattle.spr_volume.specs.Passes.{Knows, VolumeSeen}
use Rattle.trial_volumes.specs.declared.open.Alike.{Alike}

-- a tower of so many nodes, over a file of so many pages of 64 bytes
pub record IsLike (a : Alike) (t : TowerSeen) : Type 0 where
  pub layers : (node : ℕ) → 0 < node → node < a.nodes → IsUpper (tree_in t.engine) node
  pub file : file_in t.engine ≡ record { number = 0; page_size = 64; pages = a.pages }

-- a volume of such towers, as many as there are files
pub record AreLike (a : Alike) (v : VolumeSeen) : Type 0 where
  pub count : length v.towers ≡ a.files
  pub each : AllByRecursion (IsLike a) v.towers

-- a pass of the volume, for these callers
abbrev pub IsFor : VolumeSeen → ℕ → ℕ → Knows → Type 0
IsFor v first end p = (p.owners ≡ v.owners) × (p.first ≡ first) × (p.end ≡ end)
