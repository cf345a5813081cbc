use Rattle.std.proofs.Common.{inl, inr, subst}
use Rattle.tower_core.specs.Trail.{IsAllSettled}
use Rattle.stack_engine.specs.Engine.{file_in, state_in}
use Rattle.stack_engine.specs.Tower.{TowerSeen}
use Rattle.stack_engine.proofs.tower.Tower.advance_sync.Goals as goal

pub returns-in-None-clause-idle : goal.returns-in-None-clause-idle
returns-in-None-clause-idle g c = λ needless. absurd (needless (inl (subst (λ (t : TowerSeen). IsAllSettled (file_in t.engine).pages c.args.from (state_in t.engine)) c.self.view_is c.in-None.ensures.none)))

pub returns-in-Some-clause-idle : goal.returns-in-Some-clause-idle
returns-in-Some-clause-idle g c = λ needless. c.settle.ensures.idle (λ push. needless (inr push))
