use Rattle.mirror_layer.proofs.GroundSteps.{fell, owed-paid, flushed, lost-paid, refused-all}
use Rattle.mirror_layer.proofs.TreeSteps.{suits-flush}
use Rattle.mirror_layer.proofs.flush.flush.Goals as goal

pub returns-then-owed-clause-flushes : goal.returns-then-owed-clause-flushes
returns-then-owed-clause-flushes g c = owed-paid c.if-owed.true c.pay.ensures.owes c.pay.ensures.pays

pub pass-requires-clause-suits : goal.pass-requires-clause-suits
pass-requires-clause-suits g c = suits-flush c.args.node.now

pub pay-requires-in-Ok-false : goal.pay-requires-in-Ok-false
pay-requires-in-Ok-false g c = let f = fell c.in-Ok-false.ensures.passes c.in-Ok-false.field-0-test in f.0

pub returns-in-Ok-true-clause-flushes : goal.returns-in-Ok-true-clause-flushes
returns-in-Ok-true-clause-flushes g c = flushed c.if-owed.false c.in-Ok-true.ensures.passes c.in-Ok-true.field-0-test

pub returns-in-Ok-false-clause-flushes : goal.returns-in-Ok-false-clause-flushes
returns-in-Ok-false-clause-flushes g c = lost-paid c.if-owed.false c.in-Ok-false.ensures.passes c.in-Ok-false.field-0-test c.pay-in-Ok-false.ensures.owes c.pay-in-Ok-false.ensures.pays

pub returns-in-Err-clause-flushes : goal.returns-in-Err-clause-flushes
returns-in-Err-clause-flushes g c = refused-all c.if-owed.false c.in-Err.ensures.passes
