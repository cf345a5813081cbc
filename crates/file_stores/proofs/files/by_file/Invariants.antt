use Rattle.std.proofs.Common.{◌≡◌, ◌++◌, ◌-◌, ◌≤◌, length, vec_capacity}
use Rattle.std.specs.List.{flat_map, range_with_len}
use Rattle.std.specs.Vec.Iter.{into_iter_items, into_iter_len}
use Rattle.file_stores.specs.Keys.{EachAt, stores_of_file}
use Rattle.file_stores.specs.Held.{keys_of}
use Rattle.file_stores.specs.Files.{stores_in}
use Rattle.file_stores.proofs.files.by_file.Given as goal

-- the stores of the first files are parted, and the others are to come
abbrev pub invariant-loop-room : goal.invariant-loop-room
invariant-loop-room g l = record {
  all : l.fn.stores.items ≡ stores_in l.files.items ++ into_iter_items l.rest;
  keys : keys_of (into_iter_items l.rest) ≡ flat_map (stores_of_file l.disks) (range_with_len (length l.files.items) (length l.mount.files - length l.files.items));
  each : EachAt (λ at f. (f.file ≡ at) × (keys_of f.stores ≡ stores_of_file l.disks at)) l.files.items;
  number : length l.files.items ≡ length l.yielded;
  many : into_iter_len l.rest ≡ length (into_iter_items l.rest);
  room : length l.mount.files ≤ vec_capacity l.files;
}
