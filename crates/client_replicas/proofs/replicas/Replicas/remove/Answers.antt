use Rattle.std.proofs.Common.{◌≡◌, None, Some, sym, ap, ◌∙◌, position}
use Rattle.client_replicas.specs.Objects.{without_replicon}
use Rattle.client_replicas.proofs.NamedLaws.{IsNamed, none-removed, removed}
use Rattle.client_replicas.proofs.replicas.Replicas.remove.Goals as goal

pub returns-in_default : goal.returns-in_default
returns-in_default c =
    let none : position (IsNamed c.args.name.now) c.self.inside.entries.items ≡ None = rw (← c.deref.ensures.value) (sym c.place_of.ensures.place ∙ c.in_default.is) in
    sym c.self.view_is ∙ (none-removed c.args.name.now c.self.inside.entries.items none ∙ ap (without_replicon c.args.name.now) c.self.view_is)

pub returns : goal.returns
returns c =
    let at : position (IsNamed c.args.name.now) c.self.inside.entries.items ≡ Some c.in-Some.place = rw (← c.deref.ensures.value) (sym c.place_of.ensures.place ∙ c.in-Some.is) in
    c.remove-object.ensures.items ∙ (removed c.args.name.now c.self.inside.entries.items c.in-Some.place at ∙ ap (without_replicon c.args.name.now) c.self.view_is)
