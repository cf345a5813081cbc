use Rattle.std.proofs.Common.{◌≡◌, ◌<◌, List, length, None, Some, sym, subst, ◌∙◌, ap, position}
use Rattle.std.specs.Str.{bytes_eq}
use Rattle.client_objects.specs.declared.entry.Entry.{Entry}
use Rattle.client_objects.specs.Objects.{without}
use Rattle.client_objects.specs.Held.{seen, AreHeld}
use Rattle.client_objects.proofs.HeldLaws.{are_held-remove, seen-remove, without-none}
use Rattle.client_objects.proofs.objects.Objects.remove.Goals as goal

pub returns-in_default : goal.returns-in_default
returns-in_default c =
    let none : position (λ (e : Entry). bytes_eq e.name c.args.name.now) c.self.inside.entries.items ≡ None =
    rw (← c.deref.ensures.value) (sym c.place_of.ensures.place ∙ c.in_default.is) in
    sym c.self.view_is ∙ without-none c.self.inside.domain c.args.name.now c.self.inside.entries.items none ∙ ap (without c.args.name.now) c.self.view_is

pub invariant_of-self : goal.invariant_of-self
invariant_of-self c =
    let within : c.in-Some.place < length c.self.inside.entries.items = rw (← c.deref.ensures.value) c.in-Some.ensures.within in
    subst (λ (es : List Entry). AreHeld c.give_up.new.domain es) (sym c.remove-kind.ensures.items)
    (are_held-remove c.self.inside.domain c.give_up.new.domain c.self.inside.entries.items c.in-Some.place c.remove-kind.result c.self.invariant within c.remove-kind.ensures.value c.give_up.ensures)

pub returns : goal.returns
returns c =
    let at : position (λ (e : Entry). bytes_eq e.name c.args.name.now) c.self.inside.entries.items ≡ Some c.in-Some.place =
    rw (← c.deref.ensures.value) (sym c.place_of.ensures.place ∙ c.in-Some.is) in
    ap (seen c.give_up.new.domain) c.remove-kind.ensures.items
    ∙ seen-remove c.self.inside.domain c.give_up.new.domain c.args.name.now c.self.inside.entries.items c.in-Some.place c.remove-kind.result c.self.invariant at c.remove-kind.ensures.value c.give_up.ensures
    ∙ ap (without c.args.name.now) c.self.view_is
