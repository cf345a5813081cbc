use Rattle.std.proofs.Common.{◌<◌, subst, sym}
use Rattle.stack_engine.specs.Engine.{EngineSeen, IsNext, file_in}
use Rattle.stack_engine.proofs.Planning as planning
use Rattle.stack_engine.proofs.engine.Engine.next_push.Goals as goal

pub next_sync-requires-clause-coherent : goal.next_sync-requires-clause-coherent
next_sync-requires-clause-coherent g c = planning.planned_coherent _ c.self.inside.book.sheet c.tree.result.now c.self.invariant c.tree.ensures.value c.args.page

pub next_sync-requires-clause-ground : goal.next_sync-requires-clause-ground
next_sync-requires-clause-ground g c = planning.planned_ground _ c.self.inside.book.sheet c.tree.result.now c.self.invariant c.tree.ensures.value c.args.page

pub returns-clause-kind : goal.returns-clause-kind
returns-clause-kind g c = planning.sync_kind _ _ _ _ _ _ c.in-Do.event c.in-Do.ensures.rule

pub returns-clause-next : goal.returns-clause-next
returns-clause-next g c = subst (λ (e : EngineSeen). IsNext e c.in-Do.event) c.self.view_is
    (planning.planned_next _ c.self.inside.book.sheet c.tree.result.now c.self.invariant c.tree.ensures.value c.in-Do.event
    (planning.sync_fits _ _ _ _ _ _ _ _ c.in-Do.event (subst (λ (e : EngineSeen). c.args.page < (file_in e).pages) (sym c.self.view_is) c.requires.lowest.inside) c.in-Do.ensures.rule) c.in-Do.ensures.allowed)
