use Rattle.std.proofs.Common.{◌≡◌, length}
use Rattle.std.specs.List.{AllByRecursion}
use Rattle.trial_volumes.specs.Alike.{IsLike}
use Rattle.trial_volumes.proofs.open.towers.Given as goal

-- so many towers were made, and each is like these
abbrev pub invariant-loop-file : goal.invariant-loop-file
invariant-loop-file l = record {
  count : length l.towers.items ≡ l._file;
  each : AllByRecursion (IsLike l.alike) l.towers.items;
}
