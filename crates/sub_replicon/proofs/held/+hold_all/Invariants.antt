use Rattle.std.proofs.Common.{length}
use Rattle.sub_replicon.proofs.held.+hold_all.Given as goal

abbrev pub decreases-hold_all : goal.decreases-hold_all
decreases-hold_all l = length l.doors.now
