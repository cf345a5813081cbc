use Rattle.std.proofs.Common.{length}
use Rattle.spr_client.proofs.replicas.+open_doors.Given as goal

abbrev pub decreases-open_doors : goal.decreases-open_doors
decreases-open_doors g l = length l.doors.now
