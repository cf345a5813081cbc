use Rattle.std.proofs.Common.{refl}
use Rattle.mirror_rules.proofs.PageLaws.{flush_keeps, keeps-holds, flush-kept, flush-done}
use Rattle.mirror_rules.proofs.GenLaws.{flush-live}
use Rattle.mirror_rules.proofs.session.flush_keeps_the_pages.Goals as goal

pub returns-clause-same : goal.returns-clause-same
returns-clause-same c = λ F o q g h s xs ys k p. keeps-holds (flush_keeps k) p

pub returns-clause-kept : goal.returns-clause-kept
returns-clause-kept c = λ F o q g h s xs ys k p. flush-kept k p

pub returns-clause-taken : goal.returns-clause-taken
returns-clause-taken c = λ F o q w g h xs ys k p. flush-done k p

pub returns-clause-live : goal.returns-clause-live
returns-clause-live c = λ o q w g h xs ys k. flush-live k refl
