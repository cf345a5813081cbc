use Rattle.std.proofs.Common.{◌∙◌}
use Rattle.trial_volumes.proofs.StackLaws.{tower_of_one}
use Rattle.trial_volumes.proofs.stack.tower.Goals as goal

pub returns : goal.returns
returns c =
    let one = c.in-Some.ensures in
    let same = c.in_ok-tree.ensures ∙ c.tree.ensures.value in
    tower_of_one c.args.mount.now _ _ _ one.0 one.1 same c.tower_over.ensures.tree c.tower_over.ensures.file
