use Rattle.mirror_rules.proofs.RoundLaws.{pairs-append}
use Rattle.mirror_layer.specs.View.{beside_in}
use Rattle.mirror_layer.proofs.CloseSteps.{every_left, every_right}
use Rattle.mirror_layer.proofs.SoundSteps.{opened-counted, shut-counted}
use Rattle.mirror_layer.proofs.open.+sound_all.Goals as goal

pub sound_all-requires-in-Mirror-after_bounds : goal.sound_all-requires-in-Mirror-after_bounds
sound_all-requires-in-Mirror-after_bounds g t c κs l =
    rw c.deref-in-Mirror.ensures (every_left (beside_in c.in-Mirror.left.value) (beside_in c.in-Mirror.right.value) (rw c.in-Mirror.is at c.requires))

pub sound_all-requires-in-Mirror-2-after_bounds : goal.sound_all-requires-in-Mirror-2-after_bounds
sound_all-requires-in-Mirror-2-after_bounds g t c κs l =
    rw c.deref-in-Mirror-2.ensures (every_right (beside_in c.in-Mirror.left.value) (beside_in c.in-Mirror.right.value) (rw c.in-Mirror.is at c.requires))

pub returns-in-Opened : goal.returns-in-Opened
returns-in-Opened g t c = rw (c.in-Opened.is, ← c.held.view_is) (opened-counted c.in-Opened.field-0 c.held.inside.disk c.sound.ensures.keeps)

pub returns-in-Shut : goal.returns-in-Shut
returns-in-Shut g t c = rw (c.in-Shut.is, ← c.kept.view_is) (shut-counted c.kept.inside.shut c.sound-in-Shut.ensures)

pub returns-in-Mirror : goal.returns-in-Mirror
returns-in-Mirror g t c =
    rw c.in-Mirror.is (pairs-append (rw c.deref-in-Mirror.ensures at c.sound_all-in-Mirror.ensures) (rw c.deref-in-Mirror-2.ensures at c.sound_all-in-Mirror-2.ensures))
