use Rattle.std.proofs.Common.{◌≡◌, ◌++◌, ◌≤◌, drop, length, vec_capacity}
use Rattle.image_looks.specs.Disks.{lost_at}
use Rattle.image_looks.proofs.disks.list_lost.Given as goal

-- those that are listed, and those that are left to list
abbrev pub invariant-loop-look : goal.invariant-loop-look
invariant-loop-look l = record {
  lost : l.lost.items ++ lost_at (drop l.look-index l.looks) ≡ lost_at l.looks;
  few : length l.lost.items ≤ l.look-index;
  room : length l.looks ≤ vec_capacity l.lost;
}
