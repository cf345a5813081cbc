use Rattle.std.proofs.Common.{◌≡◌, ◌+◌, ◌*◌, ◌≤◌}
use Rattle.tower_log.proofs.blocks.Blocks.reserve.Given as goal

abbrev pub invariant-loop-fresh : goal.invariant-loop-fresh
invariant-loop-fresh l = record {
  entries : l.self.entries ≡ l.initial.self.entries;
  room : l.self.room ≡ l.free + 256 * l._fresh;
  kept : l.initial.self.room ≤ l.self.room;
}
