use Rattle.std.proofs.Common.{sym}
use Rattle.vmm_space.specs.Regions.{has_address}
use Rattle.vmm_space.proofs.FoundLaws.{find_passes}
use Rattle.vmm_space.proofs.SpaceLaws.{leads_by}
use Rattle.vmm_space.proofs.table.Space.translate.Goals as goal

pub access-requires-clause-inside : goal.access-requires-clause-inside
access-requires-clause-inside c = find_passes (has_address c.self.inside.page_size c.args.address) _ _ (sym c.in-Some.ensures)

pub returns-in-Some-clause-leads : goal.returns-in-Some-clause-leads
returns-in-Some-clause-leads c =
    leads_by c.args.self.now c.self.inside.page_size c.self.inside.files.items c.self.inside.regions.items c.args.address c.args.len c.in-Some.region.now c.access.result
    c.self.view_is c.self.invariant (rw c.deref.ensures.value at (sym c.in-Some.ensures)) c.access.ensures.within
