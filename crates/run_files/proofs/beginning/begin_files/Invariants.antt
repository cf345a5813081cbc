use Rattle.std.proofs.Common.{◌≡◌, ◌≤◌, length, map, vec_capacity}
use Rattle.run_files.specs.Beginning.{AreTried}
use Rattle.run_files.proofs.BeginLaws.{Beginning}
use Rattle.run_files.proofs.beginning.begin_files.Given as goal

-- which files were read so far
abbrev pub invariant-loop-tower : goal.invariant-loop-tower
invariant-loop-tower g l = record {
  beginning : Beginning l.caller l.yielded l.begun.items (map (λ b. b.items) l.bytes.items) l.stopped;
  tried : AreTried l.caller l.yielded l.begun.items;
  many : length l.bytes.items ≤ length l.begun.items;
  begun_room : vec_capacity l.begun ≡ vec_capacity l.fn.begun;
  bytes_room : vec_capacity l.bytes ≡ vec_capacity l.fn.bytes;
}
