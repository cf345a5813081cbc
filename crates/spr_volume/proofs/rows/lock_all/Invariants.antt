use Rattle.std.proofs.Common.{◌≡◌, length, vec_capacity}
use Rattle.spr_volume.proofs.RowLemmas.{LocksSoFar}
use Rattle.spr_volume.proofs.rows.lock_all.Given as goal

-- the towers that were popped have locks
abbrev pub invariant-loop-tower : goal.invariant-loop-tower
invariant-loop-tower g l = record {
  so_far : LocksSoFar l.callers l.initial.towers.items l.towers.items l.locks.items l.seats.items;
  locks : vec_capacity l.locks ≡ vec_capacity l.initial.locks;
  seats : vec_capacity l.seats ≡ vec_capacity l.initial.seats;
  towers : vec_capacity l.towers ≡ vec_capacity l.initial.towers;
}

abbrev pub decreases-loop-tower : goal.decreases-loop-tower
decreases-loop-tower g l = length l.towers.items
