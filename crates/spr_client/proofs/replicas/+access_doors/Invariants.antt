use Rattle.std.proofs.Common.{ℕ, List, length}
use Rattle.client_replicas.specs.declared.replicas.OpenReplicon.{OpenReplicon}
use Rattle.spr_client.specs.Doors.{doors_left}
use Rattle.spr_client.proofs.replicas.+access_doors.Given as goal

abbrev pub decreases-access_doors : goal.decreases-access_doors
decreases-access_doors g l = doors_left l.name.now l.client.now.state.replicas
