use Rattle.vmm_space.proofs.SpaceLaws.{mapped_by}
use Rattle.vmm_space.proofs.table.Space.map.Goals as goal

pub invariant_of-self-2 : goal.invariant_of-self-2
invariant_of-self-2 c =
    mapped_by _ _ _ _ _ _ _ c.self.invariant
    (rw (← c.self.view_is) at c.in_ok-may_map.ensures.value) c.as_str.ensures c.requires.address c.in_ok-reserve.ensures.items
    c.push_reserved.ensures.items
