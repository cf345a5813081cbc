use Rattle.std.proofs.Common.{subst}
use Rattle.hist_plain.specs.declared.event.Event.TheVariants as events
use Rattle.stack_engine.specs.Engine.{IsNext}
use Rattle.stack_engine.specs.Plans.{IsMissed}
use Rattle.stack_engine.specs.Tower.{TowerSeen}
use Rattle.stack_engine.proofs.Sparing.{spares_hit, spares_missed}
use Rattle.stack_engine.proofs.tower.Tower.advance.Goals as goal

pub hit-requires-clause-next : goal.hit-requires-clause-next
hit-requires-clause-next g c κs within =
    subst (λ (t : TowerSeen). IsNext t.engine (events.Access c.args.caller c.args.number c.args.node c.args.life c.args.op.now)) c.self.view_is (c.in-None.ensures.allowed c.args.caller c.args.number)

pub returns-in-None-clause-spare : goal.returns-in-None-clause-spare
returns-in-None-clause-spare g c =
    let next = subst (λ (t : TowerSeen). IsNext t.engine (events.Access c.args.caller c.args.number c.args.node c.args.life c.args.op.now)) c.self.view_is (c.in-None.ensures.allowed c.args.caller c.args.number) in
    spares_hit c.args.caller c.args.number c.args.node c.args.life c.args.op.now _ _ _ next c.hit.ensures.spare

pub returns-in-Some-clause-idle : goal.returns-in-Some-clause-idle
returns-in-Some-clause-idle g c = λ needless.
    let is = subst (λ (t : TowerSeen). IsMissed t.engine c.args.node c.args.life c.args.op.now c.in-Some.missed) c.self.view_is c.in-Some.ensures.missed in
    c.miss.ensures.idle (λ needs. needless (record { missed = c.in-Some.missed; is = is; needs = needs }))

pub returns-in-Some-clause-spare : goal.returns-in-Some-clause-spare
returns-in-Some-clause-spare g c =
    let is = subst (λ (t : TowerSeen). IsMissed t.engine c.args.node c.args.life c.args.op.now c.in-Some.missed) c.self.view_is c.in-Some.ensures.missed in
    spares_missed c.args.caller c.args.number c.args.node c.args.life c.args.op.now _ _ _ c.in-Some.missed is c.miss.ensures.spare
