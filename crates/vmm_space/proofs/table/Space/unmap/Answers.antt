use Rattle.std.proofs.Common.{◌≡◌, Some, None, ◌∙◌}
use Rattle.std.specs.Prelude.{position}
use Rattle.vmm_space.specs.Regions.{is_named}
use Rattle.vmm_space.proofs.FoundLaws.{placed, unplaced, removed}
use Rattle.vmm_space.proofs.SpaceLaws.{sound_as, unmapped, without_as}
use Rattle.vmm_space.proofs.table.Space.unmap.Goals as goal

pub invariant_of-self : goal.invariant_of-self
invariant_of-self c =
    sound_as _ _ _ _ c.remove-region.ensures.items (unmapped _ _ _ _ (rw c.deref.ensures.value at c.in-Some.ensures.inside) c.self.invariant)

pub returns-in_default-clause-none : goal.returns-in_default-clause-none
returns-in_default-clause-none c =
    let none : position (is_named c.args.name.now) c.self.inside.regions.items ≡ None = cc in
    rw (← c.self.view_is) (unplaced (is_named c.args.name.now) c.self.inside.regions.items none)

pub returns-clause-found : goal.returns-clause-found
returns-clause-found c =
    let some : position (is_named c.args.name.now) c.self.inside.regions.items ≡ Some c.in-Some.place = cc in
    rw (← c.self.view_is) (placed (is_named c.args.name.now) c.self.inside.regions.items c.in-Some.place some)

pub returns-clause-ok : goal.returns-clause-ok
returns-clause-ok c =
    let some : position (is_named c.args.name.now) c.self.inside.regions.items ≡ Some c.in-Some.place = cc in
    let rest = removed c.args.name.now c.self.inside.regions.items c.in-Some.place some (rw c.deref.ensures.value at c.in-Some.ensures.inside) in
    without_as c.args.name.now c.args.self.now c.self.inside.page_size c.self.inside.files.items c.self.inside.regions.items c.remove-region.new.self.items c.self.view_is (c.remove-region.ensures.items ∙ rest)
