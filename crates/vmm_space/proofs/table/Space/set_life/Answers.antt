use Rattle.std.proofs.Common.{◌≡◌, [], suc, ◌-◌, ◌<◌, length, vec_len, refl, ap, ◌∙◌, arith}
use Rattle.vmm_space.specs.Spaces.{SpaceShape}
use Rattle.vmm_space.proofs.SpaceLaws.{seen_life, sound_life}
use Rattle.vmm_space.proofs.table.Space.set_life.Goals as goal

pub invariant_of-self-2 : goal.invariant_of-self-2
invariant_of-self-2 c =
    let some : 0 < vec_len c.self.inside.regions = c.in-Some.ensures.variant.0 refl in
    let len : vec_len c.self.inside.regions ≡ length c.self.inside.regions.items = c.self.inside.regions.ok.0 in
    let last : suc (vec_len c.self.inside.regions - 1) ≡ length c.self.inside.regions.items = omega (arith, some, len) in
    sound_life c.self.inside.page_size c.self.inside.files.items c.self.inside.regions.items (vec_len c.self.inside.regions - 1) c.in-Some.last.now c.args.life last c.in-Some.ensures.value c.self.invariant

pub returns-clause-last : goal.returns-clause-last
returns-clause-last c space region is =
    let some : 0 < vec_len c.self.inside.regions = c.in-Some.ensures.variant.0 refl in
    let len : vec_len c.self.inside.regions ≡ length c.self.inside.regions.items = c.self.inside.regions.ok.0 in
    let last : suc (vec_len c.self.inside.regions - 1) ≡ length c.self.inside.regions.items = omega (arith, some, len) in
    seen_life c.self.inside.page_size c.self.inside.files.items c.self.inside.regions.items (vec_len c.self.inside.regions - 1) c.in-Some.last.now c.args.life space region last c.in-Some.ensures.value (c.self.view_is ∙ is)

pub returns-clause-none : goal.returns-clause-none
returns-clause-none c none =
    let some : 0 < vec_len c.self.inside.regions = c.in-Some.ensures.variant.0 refl in
    let len : vec_len c.self.inside.regions ≡ length c.self.inside.regions.items = c.self.inside.regions.ok.0 in
    let empty : c.self.inside.regions.items ≡ [] = ap (λ (s : SpaceShape). s.regions) c.self.view_is ∙ none in
    let zero : length c.self.inside.regions.items ≡ 0 = ap length empty in
    absurd (omega (arith, some, len, zero))
