use Rattle.std.proofs.Common.{◌≡◌, suc, ◌-◌, ◌<◌, length, vec_len, refl, ◌∙◌, arith}
use Rattle.client_objects.proofs.HeldLaws.{are_held-life, seen-life, seen-no_last}
use Rattle.client_objects.proofs.objects.Objects.set_life.Goals as goal

pub invariant_of-self-2 : goal.invariant_of-self-2
invariant_of-self-2 c =
    let some : 0 < vec_len c.self.inside.entries = c.in-Some.ensures.variant.0 refl in
    let len : vec_len c.self.inside.entries ≡ length c.self.inside.entries.items = c.self.inside.entries.ok.0 in
    let last : suc (vec_len c.self.inside.entries - 1) ≡ length c.self.inside.entries.items = omega (arith, some, len) in
    are_held-life c.self.inside.domain c.self.inside.entries.items (vec_len c.self.inside.entries - 1) c.in-Some.last.now c.args.life c.self.invariant last c.in-Some.ensures.value

pub returns-clause-last : goal.returns-clause-last
returns-clause-last c objects name word target is =
    let some : 0 < vec_len c.self.inside.entries = c.in-Some.ensures.variant.0 refl in
    let len : vec_len c.self.inside.entries ≡ length c.self.inside.entries.items = c.self.inside.entries.ok.0 in
    let last : suc (vec_len c.self.inside.entries - 1) ≡ length c.self.inside.entries.items = omega (arith, some, len) in
    seen-life c.self.inside.domain c.self.inside.entries.items (vec_len c.self.inside.entries - 1) c.in-Some.last.now c.args.life objects name word target last c.in-Some.ensures.value (c.self.view_is ∙ is)

pub returns-clause-none : goal.returns-clause-none
returns-clause-none c none =
    let some : 0 < vec_len c.self.inside.entries = c.in-Some.ensures.variant.0 refl in
    let len : vec_len c.self.inside.entries ≡ length c.self.inside.entries.items = c.self.inside.entries.ok.0 in
    let last : suc (vec_len c.self.inside.entries - 1) ≡ length c.self.inside.entries.items = omega (arith, some, len) in
    seen-no_last c.self.inside.domain c.self.inside.entries.items (vec_len c.self.inside.entries - 1) last (c.self.view_is ∙ none)
