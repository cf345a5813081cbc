use Rattle.tower_plan.proofs.Reached.{reached_new}
use Rattle.trial_towers.proofs.plan.fresh.Goals as goal

pub invariant_of-result : goal.invariant_of-result
invariant_of-result c = record { reached = reached_new c.args.tree c.in_ok-sheet.sheet c.in_ok-sheet.ensures.nodes c.in_ok-sheet.ensures.state }
