use Rattle.std.proofs.Common.{ap, ◌∙◌, arith}
use Rattle.disk_layer.specs.Disk.{Disk}
use Rattle.mirror_layer.specs.Shut.{ShutSeen}
use Rattle.mirror_layer.specs.View.{beside_in}
use Rattle.mirror_layer.proofs.CloseSteps.{shut-held, shut-shut, shut-both, other-number, others-both, every-first, every_left, every_right, differ_left, differ_right}
use Rattle.mirror_layer.proofs.SoundSteps.{disk-since}
use Rattle.mirror_layer.proofs.close.+shut_all.Goals as goal

pub put_at-requires-after_bounds : goal.put_at-requires-after_bounds
put_at-requires-after_bounds g t c κs within = let b = every-first (rw c.in-Opened.is at c.requires.below) in omega (arith, b, c.number-disk.ensures, ap (λ (d : Disk). d.disk) c.held.view_is)

pub put_at-requires-in-Shut-after_bounds : goal.put_at-requires-in-Shut-after_bounds
put_at-requires-in-Shut-after_bounds g t c κs within =
    let b = every-first (rw c.in-Shut.is at c.requires.below) in omega (arith, b, ap (λ (s : ShutSeen). s.disk) c.shut.view_is, ap (λ (s : ShutSeen). s.disk) c.kept.view_is)

pub shut_all-requires-clause-below : goal.shut_all-requires-clause-below
shut_all-requires-clause-below g t c κs within = rw c.into_inner.ensures (rw c.in-Coherency.is at c.requires.below)

pub shut_all-requires-in-Mirror-clause-there : goal.shut_all-requires-in-Mirror-clause-there
shut_all-requires-in-Mirror-clause-there g t c κs within = rw c.into_inner-in-Mirror.ensures (every_left (beside_in c.in-Mirror.left.value) (beside_in c.in-Mirror.right.value) (rw c.in-Mirror.is at c.requires.there))

pub shut_all-requires-in-Mirror-clause-below : goal.shut_all-requires-in-Mirror-clause-below
shut_all-requires-in-Mirror-clause-below g t c κs within = rw c.into_inner-in-Mirror.ensures (every_left (beside_in c.in-Mirror.left.value) (beside_in c.in-Mirror.right.value) (rw c.in-Mirror.is at c.requires.below))

pub shut_all-requires-in-Mirror-clause-differ : goal.shut_all-requires-in-Mirror-clause-differ
shut_all-requires-in-Mirror-clause-differ g t c κs within = rw c.into_inner-in-Mirror.ensures (differ_left (beside_in c.in-Mirror.left.value) (beside_in c.in-Mirror.right.value) (rw c.in-Mirror.is at c.requires.differ))

pub shut_all-requires-in-Mirror-2-clause-there : goal.shut_all-requires-in-Mirror-2-clause-there
shut_all-requires-in-Mirror-2-clause-there g t c κs within = rw c.into_inner-in-Mirror-2.ensures (every_right (beside_in c.in-Mirror.left.value) (beside_in c.in-Mirror.right.value) (rw c.in-Mirror.is at c.requires.there))

pub shut_all-requires-in-Mirror-2-clause-below : goal.shut_all-requires-in-Mirror-2-clause-below
shut_all-requires-in-Mirror-2-clause-below g t c κs within = rw (c.into_inner-in-Mirror-2.ensures, c.shut_all-in-Mirror.auto.places) (every_right (beside_in c.in-Mirror.left.value) (beside_in c.in-Mirror.right.value) (rw c.in-Mirror.is at c.requires.below))

pub shut_all-requires-in-Mirror-2-clause-differ : goal.shut_all-requires-in-Mirror-2-clause-differ
shut_all-requires-in-Mirror-2-clause-differ g t c κs within = rw c.into_inner-in-Mirror-2.ensures (differ_right (beside_in c.in-Mirror.left.value) (beside_in c.in-Mirror.right.value) (rw c.in-Mirror.is at c.requires.differ))

pub returns-in-Opened-clause-shut : goal.returns-in-Opened-clause-shut
returns-in-Opened-clause-shut g t c = rw c.in-Opened.is
    (shut-held (λ s. g.S.Store.content s) (λ s. g.S.Store.faults s) c.in-Opened.field-0 c.held.inside.disk c.in-Opened.held c.close.result c.number-disk.result c.put_at.new.places c.held.view_is c.number-disk.ensures c.close.ensures.content c.close.ensures.faults c.close.ensures.image (disk-since c.held.inside.disk c.sound.ensures.keeps) c.put_at.ensures.at)

pub returns-in-Opened-clause-others : goal.returns-in-Opened-clause-others
returns-in-Opened-clause-others g t c d h =
    c.put_at.ensures.others d (other-number c.number-disk.result c.in-Opened.held.disk d (omega (arith, c.number-disk.ensures, ap (λ (d : Disk). d.disk) c.held.view_is)) (every-first (rw c.in-Opened.is at h)))

pub returns-in-Shut-clause-shut : goal.returns-in-Shut-clause-shut
returns-in-Shut-clause-shut g t c = rw c.in-Shut.is
    (shut-shut (λ s. g.S.Store.content s) (λ s. g.S.Store.faults s) c.in-Shut.kept c.shut.inside.disk c.shut.inside.shape c.shut.inside.bad c.shut.inside.blank c.shut.inside.opened c.shut.inside.store c.put_at-in-Shut.new.places (c.shut.view_is ∙ c.kept.view_is) (every-first (rw c.in-Shut.is at c.requires.there)) (rw c.kept.view_is at c.sound-in-Shut.ensures) c.put_at-in-Shut.ensures.at)

pub returns-in-Shut-clause-others : goal.returns-in-Shut-clause-others
returns-in-Shut-clause-others g t c d h =
    c.put_at-in-Shut.ensures.others d (other-number c.shut.inside.disk c.in-Shut.kept.disk d (omega (arith, ap (λ (s : ShutSeen). s.disk) c.shut.view_is, ap (λ (s : ShutSeen). s.disk) c.kept.view_is)) (every-first (rw c.in-Shut.is at h)))

pub returns-in-Mirror-clause-shut : goal.returns-in-Mirror-clause-shut
returns-in-Mirror-clause-shut g t c = rw c.in-Mirror.is
    (shut-both (beside_in c.in-Mirror.left.value) (beside_in c.in-Mirror.right.value) (rw c.in-Mirror.is at c.requires.differ) (rw c.into_inner-in-Mirror-2.ensures at c.shut_all-in-Mirror-2.ensures.others)
    (rw c.into_inner-in-Mirror.ensures at c.shut_all-in-Mirror.ensures.shut) (rw c.into_inner-in-Mirror-2.ensures at c.shut_all-in-Mirror-2.ensures.shut))

pub returns-in-Mirror-clause-others : goal.returns-in-Mirror-clause-others
returns-in-Mirror-clause-others g t c d h =
    others-both (beside_in c.in-Mirror.left.value) (beside_in c.in-Mirror.right.value) d (rw c.in-Mirror.is at h) (rw c.into_inner-in-Mirror.ensures at c.shut_all-in-Mirror.ensures.others d) (rw c.into_inner-in-Mirror-2.ensures at c.shut_all-in-Mirror-2.ensures.others d)
