use Rattle.spr_volume.specs.Holds.{IsSame}
use Rattle.spr_volume.specs.FilePasses.{Quietly}
use Rattle.spr_volume.proofs.file_calls.end.Given as goal

-- so far others alone, and none, have added entries
abbrev pub invariant-loop : goal.invariant-loop
invariant-loop g l = record {
  can : (goal.iterator-loop g).can_next l.iterator';
  finite : (goal.iterator-loop g).is_finite l.iterator';
  seat : IsSame l.initial.seat l.seat;
  quietly : Quietly l.initial.seat.first l.initial.seat.end l.initial.seat.seen l.seat.seen;
}
