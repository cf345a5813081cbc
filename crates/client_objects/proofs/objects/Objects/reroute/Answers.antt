use Rattle.std.proofs.Common.{◌≡◌, ◌<◌, ℕ, List, length, None, Some, Option, refl, sym, subst, ◌∙◌, ap, position}
use Rattle.std.specs.Prelude.{slice_index_or}
use Rattle.std.specs.Str.{bytes_eq}
use Rattle.client_objects.specs.declared.kind.ObjectKind.{ObjectKind}
use Rattle.client_objects.specs.declared.target.Target.{Target}
use Rattle.client_objects.specs.declared.entry.Entry.{Entry}
use Rattle.client_objects.specs.Objects.{OpenObject, object_of, with_target}
use Rattle.client_objects.specs.Reconnected.{IsReconnectable, reconnected}
use Rattle.client_objects.specs.Held.{IsHeld, target_in}
use Rattle.client_objects.proofs.HeldLaws.{all_at, are_held-led, held_led, led_entry, object_of-at, object_of-none, of_life, seen-led}
use Rattle.client_objects.proofs.objects.Objects.reroute.Goals as goal

pub unreachable-requires : goal.unreachable-requires
unreachable-requires c =
    let none : position (λ (e : Entry). bytes_eq e.name c.args.name.now) c.self.inside.entries.items ≡ None =
    rw (← c.deref.ensures.value) (sym c.place_of.ensures.place ∙ c.in_default.is) in
    let missing : object_of c.args.name.now c.args.self.now ≡ None =
    ap (object_of c.args.name.now) (sym c.self.view_is) ∙ object_of-none c.self.inside.domain c.args.name.now c.self.inside.entries.items none in
    absurd (subst (λ (o : Option Target). IsReconnectable o) missing c.requires)

pub invariant_of-self : goal.invariant_of-self
invariant_of-self c =
    let within : c.in-Some.place < length c.self.inside.entries.items = rw (← c.deref.ensures.value) c.in-Some.ensures.within in
    let held : IsHeld c.self.inside.domain c.index_mut.result.now.kind c.index_mut.result.now.object =
    all_at (λ (e : Entry). IsHeld c.self.inside.domain e.kind e.object) c.self.inside.entries.items c.in-Some.place c.index_mut.result.now c.self.invariant.held within c.index_mut.ensures.value in
    are_held-led c.self.inside.domain c.exchange.new.self c.self.inside.entries.items c.in-Some.place c.index_mut.result.now (of_life c.index_mut.result.now c.args.life) c.args.door c.self.invariant within c.index_mut.ensures.value
    c.in-Ok.ensures.updates refl (held_led c.self.inside.domain c.exchange.new.self c.index_mut.result.now c.args.door c.args.life held c.in-Ok.ensures.updates)

pub returns : goal.returns
returns c =
    let within : c.in-Some.place < length c.self.inside.entries.items = rw (← c.deref.ensures.value) c.in-Some.ensures.within in
    let at : position (λ (e : Entry). bytes_eq e.name c.args.name.now) c.self.inside.entries.items ≡ Some c.in-Some.place =
    rw (← c.deref.ensures.value) (sym c.place_of.ensures.place ∙ c.in-Some.is) in
    let held : IsHeld c.self.inside.domain c.index_mut.result.now.kind c.index_mut.result.now.object =
    all_at (λ (e : Entry). IsHeld c.self.inside.domain e.kind e.object) c.self.inside.entries.items c.in-Some.place c.index_mut.result.now c.self.invariant.held within c.index_mut.ensures.value in
    let here : object_of c.args.name.now c.args.self.now ≡ Some (target_in c.self.inside.domain c.index_mut.result.now.kind c.index_mut.result.now.object) =
    ap (object_of c.args.name.now) (sym c.self.view_is) ∙ object_of-at c.self.inside.domain c.args.name.now c.self.inside.entries.items c.in-Some.place c.index_mut.result.now at c.index_mut.ensures.value in
    let kind : c.index_mut.result.now.kind ≡ ObjectKind.Reconnectable = subst (λ (o : Option Target). IsReconnectable o) here c.requires in
    seen-led c.self.inside.domain c.exchange.new.self c.args.name.now c.self.inside.entries.items c.in-Some.place c.index_mut.result.now (of_life c.index_mut.result.now c.args.life) c.args.door (reconnected c.args.door c.args.life)
    c.self.invariant at c.index_mut.ensures.value c.in-Ok.ensures.updates
    (led_entry c.self.inside.domain c.exchange.new.self c.index_mut.result.now c.args.door c.args.life kind held c.in-Ok.ensures.updates)
    ∙ ap (λ (os : List OpenObject). with_target c.args.name.now (reconnected c.args.door c.args.life) os) c.self.view_is
