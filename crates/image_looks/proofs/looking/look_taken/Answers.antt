use Rattle.std.proofs.Common.{ap}
use Rattle.file_stores.specs.Held.{StoreSeen}
use Rattle.image_looks.proofs.LookLaws.{lost-at}
use Rattle.image_looks.proofs.looking.look_taken.Goals as goal

pub returns-in-Err-clause-back : goal.returns-in-Err-clause-back
returns-in-Err-clause-back g c =
    lost-at c.args.mount.now c.held.inside.key c.args.held (g.B.Bay.told c.args.bay.now).berths (g.B.Bay.told c.give.new.self).berths c.disk_name-disk.result.now c.file_name-file.result.now _ _ (ap (λ (s : StoreSeen). s.key) c.held.view_is)
    (ap (λ (s : StoreSeen). s.state.faults) c.held.view_is) c.disk_name-disk.ensures c.file_name-file.ensures c.find-store.ensures.later c.in-Err.ensures.refused
