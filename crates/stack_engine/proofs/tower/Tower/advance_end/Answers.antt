use Rattle.std.proofs.Common.{subst}
use Rattle.stack_engine.specs.Ended.{DrainsBy}
use Rattle.stack_engine.specs.Tower.{TowerSeen}
use Rattle.stack_engine.proofs.tower.Tower.advance_end.Goals as goal

pub returns-in-Some-next_drain-clause-idle : goal.returns-in-Some-next_drain-clause-idle
returns-in-Some-next_drain-clause-idle g c = λ needless.
    c.drain.ensures.idle (λ needs. needless (record {
      event = c.in-Some-next_drain.event;
      drains = subst (λ (t : TowerSeen). DrainsBy t.engine c.args.node c.in-Some-next_drain.event) c.self.view_is c.in-Some-next_drain.ensures.drains;
      needs = needs;
    }))
