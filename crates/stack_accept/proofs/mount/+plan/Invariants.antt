use Rattle.std.proofs.Common.{length}
use Rattle.stack_accept.proofs.mount.+plan.Given as goal

abbrev pub decreases-plan : goal.decreases-plan
decreases-plan l = length l.lines.now
