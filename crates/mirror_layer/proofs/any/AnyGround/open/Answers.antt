use Rattle.std.proofs.Common.{length, ap, arith}
use Rattle.mirror_layer.proofs.ReadySteps.{is-ground, opened-with, came-below}
use Rattle.mirror_layer.proofs.any.AnyGround.open.Goals as goal

pub tell-requires-clause-words : goal.tell-requires-clause-words
tell-requires-clause-words g c κs within = omega (arith, c.deref.ensures.len, ap (λ l. length l) c.deref.ensures.value, c.in-Ok.ensures.ready.words_many)

pub tell-requires-clause-below : goal.tell-requires-clause-below
tell-requires-clause-below g c κs within = came-below c.args.came.now c.in-Ok.ensures.ready c.requires.plan c.requires.came

pub tell-requires-clause-differ : goal.tell-requires-clause-differ
tell-requires-clause-differ g c κs within = c.in-Ok.ensures.ready.differ

pub new-requires-after_bounds : goal.new-requires-after_bounds
new-requires-after_bounds g c κs within = is-ground c.in-Ok.ensures.ready

pub returns-in-Ok-clause-opened : goal.returns-in-Ok-clause-opened
returns-in-Ok-clause-opened g c = opened-with c.new.result c.tell.new.came c.in-Ok.ensures.ready (rw c.deref.ensures.value at c.tell.ensures.told) c.new.ensures
