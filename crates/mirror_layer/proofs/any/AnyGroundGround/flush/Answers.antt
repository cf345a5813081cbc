use Rattle.mirror_layer.proofs.any.AnyGroundGround.flush.Goals as goal

pub returns-clause-guards : goal.returns-clause-guards
returns-clause-guards g c = rw c.self.view_is at c.flush.ensures.guards

pub returns-clause-begins : goal.returns-clause-begins
returns-clause-begins g c = rw c.self.view_is at c.flush.ensures.begins
