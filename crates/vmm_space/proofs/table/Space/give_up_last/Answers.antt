use Rattle.vmm_space.proofs.SpaceLaws.{sound_front}
use Rattle.vmm_space.proofs.table.Space.give_up_last.Goals as goal

pub invariant_of-self : goal.invariant_of-self
invariant_of-self c = sound_front _ _ _ _ _ c.pop-region.ensures.items c.self.invariant
