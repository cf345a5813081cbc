use Rattle.std.proofs.Common.{◌≡◌, ◌≤◌, ◌<◌, ℕ, MatchOption, true, false}
use Rattle.tower_core.specs.TreeShape.{nodes}
use Rattle.tower_plan.specs.Plan.{depth_of}
use Rattle.tower_plan.specs.Drain.{is_held}
use Rattle.tower_plan.proofs.drain.first_holder.Given as goal

abbrev pub invariant-loop-node : goal.invariant-loop-node
invariant-loop-node g l =
    let col = (g.R.Rights.state l.rights).column l.page in
    MatchOption
    l.first
    ((other : ℕ) → other < l.node → is_held l.tree col l.top other ≡ false)
    (λ best. record {
      inside : best < nodes l.tree;
      held : is_held l.tree col l.top best ≡ true;
      deepest : (other : ℕ) → other < l.node → is_held l.tree col l.top other ≡ true → depth_of l.tree other ≤ depth_of l.tree best;
      greatest : (other : ℕ) → other < l.node → is_held l.tree col l.top other ≡ true → depth_of l.tree other ≡ depth_of l.tree best → other ≤ best;
    })
