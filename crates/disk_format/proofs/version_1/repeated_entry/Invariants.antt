use Rattle.std.proofs.Common.{◌≡◌, ◌+◌}
use Rattle.disk_format.specs.Shape.{map_blocks}
use Rattle.disk_format.proofs.SeenLaws.{Looked}
use Rattle.disk_format.proofs.version_1.repeated_entry.Given as goal

abbrev pub invariant-loop-page : goal.invariant-loop-page
invariant-loop-page l = (l.data ≡ 1 + map_blocks l.shape) × Looked l.shape l.page l.entries l.used.items
