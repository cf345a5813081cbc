use Rattle.std.proofs.Common.{refl, subst}
use Rattle.stack_engine.specs.Ended.{DrainsBy, IsDrained}
use Rattle.stack_engine.specs.Engine.{EngineSeen, IsNext}
use Rattle.stack_engine.proofs.Draining as draining
use Rattle.stack_engine.proofs.Planning as planning
use Rattle.stack_engine.proofs.engine.Engine.next_drain.Goals as goal

pub next_drain-requires-clause-coherent : goal.next_drain-requires-clause-coherent
next_drain-requires-clause-coherent g c = λ page inside. planning.planned_coherent _ c.self.inside.book.sheet c.tree.result.now c.self.invariant c.tree.ensures.value page

pub returns-in-Do-clause-kind : goal.returns-in-Do-clause-kind
returns-in-Do-clause-kind g c = draining.drain_kind _ _ _ _ c.in-Do.event c.in-Do.ensures.rule

pub returns-in-Do-clause-next : goal.returns-in-Do-clause-next
returns-in-Do-clause-next g c = subst (λ (e : EngineSeen). IsNext e c.in-Do.event) c.self.view_is
    (planning.planned_next _ c.self.inside.book.sheet c.tree.result.now c.self.invariant c.tree.ensures.value c.in-Do.event
    (draining.drain_fits _ _ _ _ _ _ c.in-Do.event c.self.invariant.sheet_is.pages_are c.in-Do.ensures.rule) c.in-Do.ensures.allowed)

pub returns-in-Do-clause-drains : goal.returns-in-Do-clause-drains
returns-in-Do-clause-drains g c = subst (λ (e : EngineSeen). DrainsBy e c.args.node c.in-Do.event) c.self.view_is
    (draining.planned_drains _ c.self.inside.book.sheet c.tree.result.now c.self.invariant c.tree.ensures.value c.args.node c.in-Do.event c.in-Do.ensures.rule c.in-Do.ensures.cheaper)

pub returns-in-Ready-clause-drained : goal.returns-in-Ready-clause-drained
returns-in-Ready-clause-drained g c = subst (λ (e : EngineSeen). IsDrained e c.args.node) c.self.view_is
    (draining.planned_drained _ c.self.inside.book.sheet c.tree.result.now c.self.invariant c.tree.ensures.value c.args.node (c.in-Ready.ensures.ready.0 refl))
