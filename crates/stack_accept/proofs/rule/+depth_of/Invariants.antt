use Rattle.std.proofs.Common.{length}
use Rattle.stack_accept.proofs.rule.+depth_of.Given as goal

abbrev pub decreases-depth_of : goal.decreases-depth_of
decreases-depth_of l = length l.earlier.now
