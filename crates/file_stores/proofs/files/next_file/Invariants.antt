use Rattle.std.proofs.Common.{◌≡◌, ◌++◌, ◌≤◌, length, map, vec_capacity}
use Rattle.std.specs.Vec.Iter.{into_iter_items, into_iter_len}
use Rattle.file_stores.specs.Files.{keyed}
use Rattle.file_stores.proofs.files.next_file.Given as goal

-- the stores so far are in the room
abbrev pub invariant-loop : goal.invariant-loop
invariant-loop g l = record {
  filled : into_iter_items l.fn.rest ≡ keyed l.file 0 (map (λ s. record { size = g.S.Store.size s; number = g.S.Store.number s; state = record { content = g.S.Store.content s; faults = g.S.Store.faults s } }) l.stores.items) ++ into_iter_items l.rest;
  number : length l.stores.items ≡ l.counter;
  many : into_iter_len l.rest ≡ length (into_iter_items l.rest);
  room : l.disks ≤ vec_capacity l.stores;
}
