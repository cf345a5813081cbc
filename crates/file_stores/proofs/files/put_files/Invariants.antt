use Rattle.std.proofs.Common.{◌≡◌, ◌++◌, vec_capacity}
use Rattle.file_stores.specs.Files.{stores_in}
use Rattle.file_stores.proofs.files.put_files.Given as goal

-- the stores of the files so far stand behind the others
abbrev pub invariant-loop-file : goal.invariant-loop-file
invariant-loop-file g l = record {
  behind : l.stores.items ≡ l.fn.stores.items ++ stores_in l.yielded;
  room : vec_capacity l.stores ≡ vec_capacity l.fn.stores;
}
