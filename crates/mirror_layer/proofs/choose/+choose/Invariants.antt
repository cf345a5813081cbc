use Rattle.mirror_rules.specs.Tree.{seats}
use Rattle.mirror_layer.specs.View.{tree_of}
use Rattle.mirror_layer.specs.Choosing.{goods}
use Rattle.mirror_layer.proofs.choose.+choose.Given as goal

abbrev pub decreases-choose : goal.decreases-choose
decreases-choose g l = goods (seats (tree_of l.node.now))
