use Rattle.std.proofs.Common.{◌≡◌, ◌<◌, subst, sym}
use Rattle.tower_plan.specs.declared.plan.Next.{Next}
use Rattle.stack_engine.specs.Plans.{StepsTo}
use Rattle.tower_core.specs.TreeShape.{IsUpper, TreeShape}
use Rattle.stack_engine.specs.Engine.{EngineSeen, IsNext, file_in, tree_in}
use Rattle.stack_engine.proofs.Planning as planning
use Rattle.stack_engine.proofs.engine.Engine.next_towards.Goals as goal

pub next_for-requires-clause-coherent : goal.next_for-requires-clause-coherent
next_for-requires-clause-coherent g c = planning.planned_coherent _ c.self.inside.book.sheet c.tree.result.now c.self.invariant c.tree.ensures.value c.args.page

pub next_for-requires-clause-ground : goal.next_for-requires-clause-ground
next_for-requires-clause-ground g c = planning.planned_ground _ c.self.inside.book.sheet c.tree.result.now c.self.invariant c.tree.ensures.value c.args.page

pub returns-in-Do-clause-kind : goal.returns-in-Do-clause-kind
returns-in-Do-clause-kind g c = planning.plan_kind _ _ _ _ _ _ c.in-Do.event c.in-Do.ensures.rule

pub returns-in-Do-clause-next : goal.returns-in-Do-clause-next
returns-in-Do-clause-next g c = subst (λ (e : EngineSeen). IsNext e c.in-Do.event) c.self.view_is
    (planning.planned_next _ c.self.inside.book.sheet c.tree.result.now c.self.invariant c.tree.ensures.value c.in-Do.event
    (planning.plan_fits _ _ _ _ _ _ _ _ c.in-Do.event c.self.invariant.sheet_is.pages_are
    (subst (λ (e : EngineSeen). c.args.page < (file_in e).pages) (sym c.self.view_is) c.requires.page) c.in-Do.ensures.rule) c.in-Do.ensures.allowed)

pub next_for-requires-clause-framed : goal.next_for-requires-clause-framed
next_for-requires-clause-framed g c = planning.planned_framed _ c.self.inside.book.sheet c.tree.result.now c.self.invariant c.tree.ensures.value c.args.node
    (subst (λ (t : TreeShape). IsUpper t c.args.node) (sym c.tree.ensures.value) (subst (λ (e : EngineSeen). IsUpper (tree_in e) c.args.node) (sym c.self.view_is) c.requires.upper))

pub returns-in-Do-clause-steps : goal.returns-in-Do-clause-steps
returns-in-Do-clause-steps g c = subst (λ (e : EngineSeen). StepsTo e c.args.node c.args.page c.args.want c.in-Do.event) c.self.view_is
    (planning.planned_steps _ c.self.inside.book.sheet c.tree.result.now c.self.invariant c.tree.ensures.value c.args.node c.args.page c.args.want c.in-Do.event
    (λ may. let no : Next.Do c.in-Do.event ≡ Next.Ready = c.in-Do.ensures.may.1 may in let f : ⊥ = cc in f) c.in-Do.ensures.rule c.in-Do.ensures.cheaper)
