use Rattle.std.proofs.Common.{sym, ◌∙◌}
use Rattle.mirror_rules.specs.Tree.{seats}
use Rattle.mirror_layer.specs.View.{tree_of, cell_of, store_of}
use Rattle.mirror_layer.proofs.CloseSteps.{every_left}
use Rattle.mirror_layer.proofs.RefuseSteps.{opened-bad, bad-there}
use Rattle.mirror_layer.proofs.refuse.+first_bad.Goals as goal

pub unreachable-requires : goal.unreachable-requires
unreachable-requires g t c = opened-bad c.in-Opened.field-0 (cell_of c.in-Opened.field-1) (rw c.in-Opened.is at c.requires.shut) (rw c.in-Opened.is at c.requires.bad)

pub first_bad-requires-in-Mirror-clause-bad : goal.first_bad-requires-in-Mirror-clause-bad
first_bad-requires-in-Mirror-clause-bad g t c κs l =
    rw c.deref-in-Mirror.ensures (every_left (seats (tree_of c.in-Mirror.left.value)) (seats (tree_of c.in-Mirror.field-1.value)) (rw c.in-Mirror.is at c.requires.bad))

pub unreachable-requires-in_default-None : goal.unreachable-requires-in_default-None
unreachable-requires-in_default-None g t c =
    bad-there c.kept.inside.shut.bad c.kept.inside.shut.blank (store_of c.kept.inside.shut) (rw (← c.kept.view_is) at (rw c.in-Shut.is at c.requires.bad)) (sym c.bad_of.ensures.bad ∙ c.in_default-None.is-1)
