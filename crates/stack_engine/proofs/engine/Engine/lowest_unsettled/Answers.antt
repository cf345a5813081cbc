use Rattle.std.proofs.Common.{◌<◌, ℕ, IfNone, IfSome, ap, subst}
use Rattle.tower_core.specs.Trail.{IsSettled}
use Rattle.page_messages.specs.declared.paged.PagedFile.{PagedFile}
use Rattle.stack_engine.specs.Engine.{EngineSeen, column_in, file_in}
use Rattle.stack_engine.specs.Plans.{IsLowestUnsettled}
use Rattle.stack_engine.proofs.Driving as driving
use Rattle.stack_engine.proofs.engine.Engine.lowest_unsettled.Goals as goal

pub returns-clause-none : goal.returns-clause-none
returns-clause-none g c =
    subst (λ (e : EngineSeen). IfNone c.lowest_unsettled.result ((page : ℕ) → page < (file_in e).pages → IsSettled c.args.from (column_in e page))) c.self.view_is
    (driving.none_unsettled _ c.self.inside.book.sheet c.self.invariant c.file.result.pages c.args.from (ap (λ (f : PagedFile). f.pages) c.file.ensures.value) c.lowest_unsettled.result c.lowest_unsettled.ensures.none)

pub returns-clause-some : goal.returns-clause-some
returns-clause-some g c =
    subst (λ (e : EngineSeen). IfSome c.lowest_unsettled.result (IsLowestUnsettled e c.args.from)) c.self.view_is
    (driving.some_unsettled _ c.self.inside.book.sheet c.self.invariant c.file.result.pages c.args.from (ap (λ (f : PagedFile). f.pages) c.file.ensures.value) c.lowest_unsettled.result c.lowest_unsettled.ensures.some)
