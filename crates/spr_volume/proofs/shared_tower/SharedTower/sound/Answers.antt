use Rattle.std.proofs.Common.{subst}
use Rattle.spr_volume.specs.TowerShared.{IsNeeded, IsPlain, SharedSeen, log_of}
use Rattle.spr_volume.proofs.Sharing.{needed_later, plain_later}
use Rattle.spr_volume.proofs.shared_tower.SharedTower.sound.Goals as goal

pub returns-clause-plain : goal.returns-clause-plain
returns-clause-plain g c =
    subst (λ (s : SharedSeen). IsPlain s.began.engine (log_of s)) c.self.view_is (plain_later c.self.inside.began.value.engine c.self.inside.tower.value.engine c.self.invariant.later)

pub returns-clause-needed : goal.returns-clause-needed
returns-clause-needed g c =
    subst (λ (s : SharedSeen). IsNeeded s.began.engine (log_of s)) c.self.view_is (needed_later c.self.inside.began.value.engine c.self.inside.tower.value.engine c.self.invariant.later)
