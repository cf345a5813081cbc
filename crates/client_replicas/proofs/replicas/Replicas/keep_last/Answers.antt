use Rattle.std.proofs.Common.{◌≡◌, suc, ◌+◌, ◌-◌, ◌<◌, ℕ, [], ◌∷◌, List, length, vec_len, refl, sym, ap, ◌∙◌, arith, length-append}
use Rattle.std.specs.Prelude.{slice_set}
use Rattle.client_replicas.specs.declared.door.OpenDoor.{OpenDoor}
use Rattle.client_replicas.specs.declared.replicas.OpenReplicon.{OpenReplicon}
use Rattle.client_replicas.specs.OpenDoors.{with_life}
use Rattle.client_replicas.proofs.NamedLaws.{last-is, last-set}
use Rattle.client_replicas.proofs.replicas.Replicas.keep_last.Goals as goal

pub returns-in_default : goal.returns-in_default
returns-in_default c = λ objects name doors is.
    let more = length-append objects (record { name = name; doors = doors } ∷ []) in
    let same = ap length (c.self.view_is ∙ is) in
    let len : vec_len c.self.inside.entries ≡ length c.self.inside.entries.items = c.self.inside.entries.ok.0 in
    let some : 0 < vec_len c.self.inside.entries = omega (arith, more, same, len) in
    let never = c.in_default.ensures.variant.1 some in
    absurd cc

pub returns : goal.returns
returns c = λ objects name doors is.
    let some : 0 < vec_len c.self.inside.entries = c.in-Some.ensures.variant.0 refl in
    let len : vec_len c.self.inside.entries ≡ length c.self.inside.entries.items = c.self.inside.entries.ok.0 in
    let at : ℕ = vec_len c.self.inside.entries - 1 in
    let last : suc at ≡ length c.self.inside.entries.items = omega (arith, some, len) in
    let ends = last-is c.self.inside.entries.items at c.in-Some.last.now objects name doors last c.in-Some.ensures.value (c.self.view_is ∙ is) in
    let kept : c.keep_life.new.self ≡ with_life c.args.k c.args.life doors = c.keep_life.ensures ∙ ap (λ (e : OpenReplicon). with_life c.args.k c.args.life e.doors) ends.1 in
    ap (λ (ds : List OpenDoor). slice_set c.self.inside.entries.items at (record { name = c.in-Some.last.now.name; doors = ds })) kept
    ∙ last-set c.self.inside.entries.items at c.in-Some.last.now objects name doors (with_life c.args.k c.args.life doors) last c.in-Some.ensures.value (c.self.view_is ∙ is)
