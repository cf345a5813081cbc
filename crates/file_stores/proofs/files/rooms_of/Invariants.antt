use Rattle.std.proofs.Common.{◌≡◌, ◌≤◌, length, vec_capacity}
use Rattle.file_stores.specs.Keys.{EachAt}
use Rattle.file_stores.specs.Held.{IsRoom}
use Rattle.file_stores.proofs.files.rooms_of.Given as goal

-- the rooms so far are empty
abbrev pub invariant-loop : goal.invariant-loop
invariant-loop g l = record {
  empty : EachAt (λ at room. IsRoom l.disks room) l.rooms.items;
  number : length l.rooms.items ≡ l.counter;
  room : l.files ≤ vec_capacity l.rooms;
}
