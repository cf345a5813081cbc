use Rattle.std.proofs.Common.{◌≡◌}
use Rattle.std.specs.List.{flat_map, range_with_len}
use Rattle.file_stores.specs.Keys.{stores_of_file}
use Rattle.file_stores.proofs.keys.stores_of.Given as goal

abbrev pub invariant-loop-file : goal.invariant-loop-file
invariant-loop-file l = l.keys.items ≡ flat_map (stores_of_file l.disks) (range_with_len 0 l.file)
