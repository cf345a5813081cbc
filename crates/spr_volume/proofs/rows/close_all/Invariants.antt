use Rattle.std.proofs.Common.{◌≤◌, ◌+◌, length, vec_capacity}
use Rattle.spr_volume.proofs.RowLemmas.{ClosesSoFar}
use Rattle.spr_volume.proofs.rows.close_all.Given as goal

-- the locks that were popped are closed
abbrev pub invariant-loop-lock : goal.invariant-loop-lock
invariant-loop-lock g l = record {
  so_far : ClosesSoFar l.initial.locks.items l.locks.items l.initial.seats.items l.seats.items l.initial.towers.items l.towers.items;
  room : length l.locks.items + length l.towers.items ≤ vec_capacity l.towers;
}

abbrev pub decreases-loop-lock : goal.decreases-loop-lock
decreases-loop-lock g l = length l.locks.items
