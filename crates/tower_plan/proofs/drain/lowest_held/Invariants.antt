use Rattle.tower_core.specs.Trail.{HoldsNothing}
use Rattle.tower_plan.proofs.drain.lowest_held.Given as goal

abbrev pub invariant-loop-page : goal.invariant-loop-page
invariant-loop-page g l = HoldsNothing l.page (g.R.Rights.state l.rights) l.node
