use Rattle.std.proofs.Common.{◌≡◌, ◌++◌, length, map, vec_capacity}
use Rattle.file_stores.specs.Files.{keyed}
use Rattle.file_stores.proofs.files.put_file.Given as goal

-- the stores so far stand behind the others
abbrev pub invariant-loop-store : goal.invariant-loop-store
invariant-loop-store g l = record {
  behind : l.stores.items ≡ l.fn.stores.items ++ keyed l.number 0 (map (λ s. record { size = g.S.Store.size s; number = g.S.Store.number s; state = record { content = g.S.Store.content s; faults = g.S.Store.faults s } }) l.yielded);
  disk : l.disk ≡ length l.yielded;
  room : vec_capacity l.stores ≡ vec_capacity l.fn.stores;
}
