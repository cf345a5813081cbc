use Rattle.std.proofs.Common.{◌≡◌}
use Rattle.tower_core.specs.Sheet.{pages_of}
use Rattle.tower_plan.specs.Reached.{IsReached}
use Rattle.trial_towers.proofs.plan.bring.Given as goal

abbrev pub invariant-loop-count : goal.invariant-loop-count
invariant-loop-count l = record {
  reached : IsReached l.tree l.sheet;
  pages : pages_of l.sheet ≡ pages_of l.fn.sheet;
}
