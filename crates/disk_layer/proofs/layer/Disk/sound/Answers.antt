use Rattle.std.proofs.Common.{subst, refl, arith}
use Rattle.page_ground.specs.Seen.{Keeps}
use Rattle.disk_layer.specs.Disk.{Disk, HasImage, seen_of}
use Rattle.disk_layer.proofs.DiskLaws.{sound-image, keeps-same}
use Rattle.disk_layer.proofs.layer.Disk.sound.Goals as goal

pub returns-clause-image : goal.returns-clause-image
returns-clause-image g c =
    let d = c.self.inside in
    subst HasImage c.self.view_is
    (sound-image d.front d.generation (g.S.Store.size d.store) (g.S.Store.number d.store) (g.S.Store.content d.store) d.disk (g.S.Store.faults d.store) d.opened c.self.invariant.0)

pub returns-clause-keeps : goal.returns-clause-keeps
returns-clause-keeps g c =
    let d = c.self.inside in
    let faults = g.S.Store.faults d.store in
    let content = g.S.Store.content d.store in
    subst (λ (v : Disk). Keeps (seen_of v) (seen_of v)) c.self.view_is
    (keeps-same d.front d.front d.generation d.disk faults faults d.opened content content (record { shape = refl; later = omega arith; since = c.self.invariant.1 }) refl)
