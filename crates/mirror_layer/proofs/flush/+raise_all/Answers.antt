use Rattle.std.proofs.Common.{◌≡◌, ◌<◌, arith}
use Rattle.mirror_rules.specs.Tree.{seats, lives}
use Rattle.mirror_layer.specs.View.{tree_of}
use Rattle.mirror_layer.proofs.GroundSteps.{whole, again, none, fell}
use Rattle.mirror_layer.proofs.TreeSteps.{suits-raise}
use Rattle.mirror_layer.proofs.flush.+raise_all.Goals as goal

pub pass-requires-clause-suits : goal.pass-requires-clause-suits
pass-requires-clause-suits g t c = suits-raise c.next_generation-generation.result c.args.node.now c.next_generation-generation.ensures.low c.next_generation-generation.ensures.high

pub raise_all-requires : goal.raise_all-requires
raise_all-requires g t c κs within =
    let d : lives (seats (tree_of c.args.node.now)) ≡ t = c.decreases in
    let f = fell c.in-Ok-false.ensures.passes c.in-Ok-false.field-0-test in
    let fall : lives (seats (tree_of c.pass.new.node)) < t = omega (arith, d, f.1) in
    (fall, (within.0, (within.1, f.0)))

pub returns-in-Ok-true-clause-raised : goal.returns-in-Ok-true-clause-raised
returns-in-Ok-true-clause-raised g t c = whole c.in-Ok-true.ensures.passes c.in-Ok-true.field-0-test c.next_generation-generation.ensures.next

pub returns-in-Ok-false-clause-raised : goal.returns-in-Ok-false-clause-raised
returns-in-Ok-false-clause-raised g t c = again c.in-Ok-false.ensures.passes c.in-Ok-false.field-0-test c.next_generation-generation.ensures.next c.raise_all.ensures.raised

pub returns-in-Err-clause-raised : goal.returns-in-Err-clause-raised
returns-in-Err-clause-raised g t c = none c.in-Err.ensures.passes c.next_generation-generation.ensures.next
