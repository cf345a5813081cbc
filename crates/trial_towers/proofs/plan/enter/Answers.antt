use Rattle.tower_plan.proofs.Reached.{reached_after}
use Rattle.trial_towers.proofs.plan.enter.Goals as goal

pub returns-clause-reached : goal.returns-clause-reached
returns-clause-reached c =
    reached_after c.args.tree.now c.args.sheet.now c.take.new.self c.args.event.now c.nodes-nodes.ensures.tree c.requires.reached
    (c.allowed.ensures.0 c.if-not-allowed.false) c.take.ensures.nodes c.take.ensures.pages c.take.ensures.state
