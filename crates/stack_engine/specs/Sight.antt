-- The lists of the leaves, beside the sheet.
use Rattle.std.specs.Prelude.{◌≢◌, ◌<◌, ℕ}
use Rattle.tower_core.specs.declared.sheet.Sheet.{Sheet}
use Rattle.tower_core.specs.Sheet.{seen}
use Rattle.tower_core.specs.TreeShape.{frames_of}
use Rattle.vmm_cache.specs.Used.{AreUses}
use Rattle.page_exchange.specs.declared.tables.Tables.{Tables}
use Rattle.page_exchange.specs.Tables.{tree_of, uses}

-- each leaf lists the pages that it holds by their last uses
abbrev pub AreListed : Tables → Sheet → Type 0
AreListed tables sheet = (leaf : ℕ) → 0 < leaf → frames_of (tree_of tables) leaf ≢ 0 → AreUses (seen sheet) leaf (uses tables leaf)
