use Rattle.std.proofs.Common.{◌≡◌, ◌<◌, ℕ, false}
use Rattle.tower_core.specs.TreeShape.{IsChild}
use Rattle.tower_plan.specs.Plan.{hinders}
use Rattle.tower_plan.proofs.plan.is_hindered_below.Given as goal

-- no child before this one hinders
abbrev pub invariant-loop-child : goal.invariant-loop-child
invariant-loop-child g l = (other : ℕ) → other < l.child → IsChild l.tree other l.node → hinders l.want (((g.R.Rights.state l.rights).column l.page).right other) ≡ false
