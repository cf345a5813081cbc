use Rattle.std.proofs.Common.{◌≤◌}
use Rattle.tower_log.specs.Log.{place_of}
use Rattle.spr_volume.specs.Holds.{IsSame}
use Rattle.spr_volume.specs.FilePasses.{Quietly}
use Rattle.spr_volume.proofs.file_calls.sync.Given as goal

-- so far others alone, and none, have added entries, and the place at which the sync begins is one of those that are known
abbrev pub invariant-loop : goal.invariant-loop
invariant-loop g l = record {
  can : (goal.iterator-loop g).can_next l.iterator';
  finite : (goal.iterator-loop g).is_finite l.iterator';
  seat : IsSame l.fn.seat l.seat;
  quietly : Quietly l.fn.seat.first l.fn.seat.end l.fn.seat.seen l.seat.seen;
  from : l.from ≤ place_of l.seat.seen;
}
