use Rattle.mirror_rules.specs.Steps.{pays_twice, pays_unraised}
use Rattle.mirror_layer.specs.View.{tree_of}
use Rattle.mirror_layer.proofs.GroundSteps.{raised-tree}
use Rattle.mirror_layer.proofs.flush.raise_twice.Goals as goal

pub raise_all-requires-in-Ok : goal.raise_all-requires-in-Ok
raise_all-requires-in-Ok g c = raised-tree (tree_of c.raise_all.new.node) c.in-Ok.ensures.raised

pub returns-in-Ok-clause-pays : goal.returns-in-Ok-clause-pays
returns-in-Ok-clause-pays g c = pays_twice c.in-Ok.ensures.raised c.raise_all-in-Ok.ensures.raised

pub returns-in-Err-clause-pays : goal.returns-in-Err-clause-pays
returns-in-Err-clause-pays g c = pays_unraised c.in-Err.ensures.raised
