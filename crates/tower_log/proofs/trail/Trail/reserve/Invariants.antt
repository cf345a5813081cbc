use Rattle.std.proofs.Common.{◌≡◌, ◌≤◌}
use Rattle.tower_log.proofs.trail.Trail.reserve.Given as goal

abbrev pub invariant-loop-spare : goal.invariant-loop-spare
invariant-loop-spare l = record {
  same : l.self ≡ record l.initial.self { spare = l.self.spare; room = l.self.room };
  spare : l.self.spare ≡ l._spare;
  kept : l.initial.self.spare ≤ l.self.spare;
}
