use Rattle.std.proofs.Common.{◌≡◌, ◌++◌}
use Rattle.file_stores.specs.Keys.{stores_of_file}
use Rattle.file_stores.proofs.keys.put_stores.Given as goal

abbrev pub invariant-loop-disk : goal.invariant-loop-disk
invariant-loop-disk l = l.keys.items ≡ l.fn.keys.items ++ stores_of_file l.disk l.file
