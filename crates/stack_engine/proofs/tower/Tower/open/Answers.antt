use Rattle.stack_engine.proofs.Driving as driving
use Rattle.stack_engine.proofs.tower.Tower.open.Goals as goal

pub returns-in-Ok-clause-began : goal.returns-in-Ok-clause-began
returns-in-Ok-clause-began g c = driving.opened_of c.args.tree c.args.file (g.G.Ground.seen c.args.ground) c.in-Ok.engine c.nodes-nodes.ensures.tree c.in-Ok.ensures.opened
