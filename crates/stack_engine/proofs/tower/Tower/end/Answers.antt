use Rattle.std.proofs.Common.{subst, sym}
use Rattle.stack_engine.specs.Ended.{event_ended}
use Rattle.stack_engine.specs.Engine.{IsNext}
use Rattle.stack_engine.specs.Tower.{TowerSeen}
use Rattle.stack_engine.proofs.Endings as ending
use Rattle.stack_engine.proofs.tower.Tower.end.Goals as goal

pub end-result-requires-clause-next : goal.end-result-requires-clause-next
end-result-requires-clause-next g c κs within =
    subst (λ (t : TowerSeen). IsNext t.engine (event_ended c.args.end c.args.caller c.args.number c.args.node)) (sym c.self.view_is)
    (ending.end_next c.args.self.now.engine c.args.end c.args.caller c.args.number c.args.node c.requires.upper c.requires.drained)
