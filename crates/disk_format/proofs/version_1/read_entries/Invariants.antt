use Rattle.std.proofs.Common.{◌≡◌}
use Rattle.disk_format.specs.VersionOne.{entries_in}
use Rattle.disk_format.proofs.version_1.read_entries.Given as goal

abbrev pub invariant-loop-page : goal.invariant-loop-page
invariant-loop-page l = l.entries.items ≡ entries_in l.page l.map
