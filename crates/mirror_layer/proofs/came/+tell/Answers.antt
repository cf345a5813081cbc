use Rattle.std.proofs.Common.{ap, ◌∙◌}
use Rattle.mirror_rules.specs.Tree as machine
use Rattle.disk_layer.specs.Disk.{Disk}
use Rattle.mirror_layer.specs.Shut.{ShutSeen}
use Rattle.mirror_layer.specs.View.{beside_in, tree_of}
use Rattle.mirror_layer.proofs.CloseSteps.{every_left, every_right, every-first, differ_left, differ_right, other-number, others-both}
use Rattle.mirror_layer.proofs.CameSteps.{listed-opened, listed-shut, listed-both}
use Rattle.mirror_layer.proofs.came.+tell.Goals as goal

pub tell-requires-clause-below : goal.tell-requires-clause-below
tell-requires-clause-below g t c κs within = rw c.deref.ensures (rw c.in-Coherency.is at c.requires.below)

pub tell-next-requires-clause-below : goal.tell-next-requires-clause-below
tell-next-requires-clause-below g t c κs within = rw c.deref-in-Mirror.ensures (every_left (beside_in c.in-Mirror.left.value) (beside_in c.in-Mirror.right.value) (rw c.in-Mirror.is at c.requires.below))

pub tell-next-requires-clause-differ : goal.tell-next-requires-clause-differ
tell-next-requires-clause-differ g t c κs within = rw c.deref-in-Mirror.ensures (differ_left (beside_in c.in-Mirror.left.value) (beside_in c.in-Mirror.right.value) (rw c.in-Mirror.is at c.requires.differ))

pub tell-requires-in-Mirror-clause-below : goal.tell-requires-in-Mirror-clause-below
tell-requires-in-Mirror-clause-below g t c κs within = rw (c.deref-in-Mirror-2.ensures, c.tell-next.auto.came) (every_right (beside_in c.in-Mirror.left.value) (beside_in c.in-Mirror.right.value) (rw c.in-Mirror.is at c.requires.below))

pub tell-requires-in-Mirror-clause-differ : goal.tell-requires-in-Mirror-clause-differ
tell-requires-in-Mirror-clause-differ g t c κs within = rw c.deref-in-Mirror-2.ensures (differ_right (beside_in c.in-Mirror.left.value) (beside_in c.in-Mirror.right.value) (rw c.in-Mirror.is at c.requires.differ))

pub returns-in-Opened-clause-told : goal.returns-in-Opened-clause-told
returns-in-Opened-clause-told g t c =
    rw c.in-Opened.is (listed-opened c.set_at.new.came c.args.words.now c.args.first c.in-Opened.mark c.held.inside.disk c.in-Opened.held c.number.result c.of_opened.result c.held.view_is c.number.ensures c.set_at.ensures.at c.of_opened.ensures)

pub returns-in-Opened-clause-others : goal.returns-in-Opened-clause-others
returns-in-Opened-clause-others g t c d h =
    c.set_at.ensures.others d (other-number c.number.result c.in-Opened.held.disk d (c.number.ensures ∙ ap (λ (d : Disk). d.disk) c.held.view_is) (every-first (rw c.in-Opened.is at h)))

pub returns-in-Shut-clause-told : goal.returns-in-Shut-clause-told
returns-in-Shut-clause-told g t c =
    rw c.in-Shut.is
    (listed-shut c.set_at-in-Shut.new.came c.args.words.now c.args.first c.kept.inside.shut c.in-Shut.kept c.number_of.result c.of_shut.result c.kept.view_is c.number_of.ensures c.set_at-in-Shut.ensures.at c.of_shut.ensures)

pub returns-in-Shut-clause-others : goal.returns-in-Shut-clause-others
returns-in-Shut-clause-others g t c d h =
    c.set_at-in-Shut.ensures.others d (other-number c.number_of.result c.in-Shut.kept.disk d (c.number_of.ensures ∙ ap (λ (s : ShutSeen). s.disk) c.kept.view_is) (every-first (rw c.in-Shut.is at h)))

pub returns-in-Mirror-clause-told : goal.returns-in-Mirror-clause-told
returns-in-Mirror-clause-told g t c =
    rw c.in-Mirror.is
    (listed-both (beside_in c.in-Mirror.left.value) (beside_in c.in-Mirror.right.value) (machine.seats (tree_of c.in-Mirror.left.value)) (machine.seats (tree_of c.in-Mirror.right.value)) (rw c.deref-in-Mirror.ensures at c.tell-next.ensures.next) (rw c.in-Mirror.is at c.requires.differ)
    (rw c.deref-in-Mirror-2.ensures at c.tell-in-Mirror.ensures.others) (rw c.deref-in-Mirror.ensures at c.tell-next.ensures.told) (rw c.deref-in-Mirror-2.ensures at c.tell-in-Mirror.ensures.told))

pub returns-in-Mirror-clause-others : goal.returns-in-Mirror-clause-others
returns-in-Mirror-clause-others g t c d h =
    others-both (beside_in c.in-Mirror.left.value) (beside_in c.in-Mirror.right.value) d (rw c.in-Mirror.is at h) (rw c.deref-in-Mirror.ensures at c.tell-next.ensures.others d) (rw c.deref-in-Mirror-2.ensures at c.tell-in-Mirror.ensures.others d)
