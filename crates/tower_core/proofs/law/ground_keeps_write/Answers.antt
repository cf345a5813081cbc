use Rattle.tower_core.proofs.Trails.{trail_ground}
use Rattle.tower_core.proofs.law.ground_keeps_write.Goals as goal

pub returns : goal.returns
returns c = trail_ground
