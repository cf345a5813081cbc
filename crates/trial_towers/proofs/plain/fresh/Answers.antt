use Rattle.std.proofs.Common.{refl, arith}
use Rattle.trial_towers.proofs.plain.fresh.Goals as goal

pub new-requires-clause-size : goal.new-requires-clause-size
new-requires-clause-size c = (6, omega arith, omega arith, refl)

pub new-requires-clause-pages : goal.new-requires-clause-pages
new-requires-clause-pages c = (2, omega arith, omega arith, omega (arith, c.deref.ensures.len, c.in_ok-image.ensures.len))
