use Rattle.disk_layer.proofs.DiskLaws.{sound-image}
use Rattle.disk_layer.proofs.layer.over.Goals as goal

pub returns-clause-image : goal.returns-clause-image
returns-clause-image g c =
    let store = c.args.store in
    let l = c.args.loaded in
    sound-image l.front l.generation (g.S.Store.size store) (g.S.Store.number store) (g.S.Store.content store) c.args.disk (g.S.Store.faults store) (g.S.Store.faults store) c.requires
