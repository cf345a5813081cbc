use Rattle.tower_plan.proofs.Rules.{cost_of-le}
use Rattle.tower_plan.proofs.plan.cost.Goals as goal

pub returns-clause-few : goal.returns-clause-few
returns-clause-few g c =
    rw c.events_left.ensures
    (cost_of-le c.args.tree.now (g.R.Rights.page_count c.args.rights.now) (g.R.Rights.state c.args.rights.now) c.args.node c.args.page c.args.want c.nodes-nodes.ensures.tree c.requires.upper c.requires.ground)
