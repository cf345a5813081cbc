use Rattle.std.proofs.Common.{ap, sym, subst, ◌∙◌}
use Rattle.disk_format.specs.declared.shape.ImageShape.{ImageShape}
use Rattle.file_stores.specs.Keys.{image_shape}
use Rattle.file_stores.specs.State.{StoreState}
use Rattle.file_stores.specs.Held.{StoreSeen, BecameOne}
use Rattle.image_commands.specs.Fresh.{IsFresh}
use Rattle.image_commands.proofs.FreshLaws.{fresh-of}
use Rattle.image_commands.proofs.fresh.format_store.Goals as goal

pub returns-in-Ok-clause-fresh : goal.returns-in-Ok-clause-fresh
returns-in-Ok-clause-fresh g c =
    let old : StoreState = c.args.held.state in
    let new : StoreState = record { content = g.S.Store.content c.close-store.result; faults = g.S.Store.faults c.close-store.result } in
    let store = c.held.inside.store in
    subst (λ (s : ImageShape). BecameOne old new (IsFresh s)) (c.shape_of-shape.ensures.shape ∙ ap (λ (s : StoreSeen). image_shape c.args.mount.now s.key) c.held.view_is)
    (fresh-of (record { disk = c.held.inside.key.disk; shape = c.shape_of-shape.result; content = g.S.Store.content store; faults = g.S.Store.faults store }) c.in-Ok.disk old new
    (sym (ap (λ (s : StoreSeen). s.state.content) c.held.view_is)) (sym (ap (λ (s : StoreSeen). s.state.faults) c.held.view_is)) c.close-store.ensures.content c.close-store.ensures.faults c.in-Ok.ensures.ok)
