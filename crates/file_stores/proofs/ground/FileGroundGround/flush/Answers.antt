use Rattle.file_stores.proofs.ground.FileGroundGround.flush.Goals as goal
use Rattle.file_stores.proofs.ground.FileGroundGround.flush.Goals.{in-One, in-Many}

pub returns-clause-keeps : goal.returns-clause-keeps
returns-clause-keeps g c =
    elim c.match-self.branch [
      | in-One w ↦ rw (w.self-inside-is, ← c.self.view_is, w.in-One.is) w.flush.ensures.keeps
      | in-Many w ↦ rw (w.self-inside-is, ← c.self.view_is, w.in-Many.is) w.flush-in-Many.ensures.keeps
    ]
