use Rattle.std.proofs.Common.{◌<◌, ℕ}
use Rattle.tower_core.specs.Sheet.{seen}
use Rattle.tower_core.specs.Trail.{IsSettled}
use Rattle.stack_engine.proofs.plans.lowest_unsettled.Given as goal

abbrev pub invariant-loop-page : goal.invariant-loop-page
invariant-loop-page l = (lower : ℕ) → lower < l.page → IsSettled l.from ((seen l.sheet).column lower)
