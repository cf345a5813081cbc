use Rattle.std.proofs.Common.{◌≡◌, ◌∷◌, List, None, Some, sym, ap, ◌∙◌, position}
use Rattle.client_replicas.specs.declared.door.OpenDoor.{OpenDoor}
use Rattle.client_replicas.specs.declared.replicas.OpenReplicon.{OpenReplicon}
use Rattle.client_replicas.specs.Objects.{doors_of}
use Rattle.client_replicas.proofs.NamedLaws.{IsNamed, doors_of-at, doors_of-none}
use Rattle.client_replicas.proofs.replicas.Replicas.first.Goals as goal

pub returns-in_err-place-clause-none : goal.returns-in_err-place-clause-none
returns-in_err-place-clause-none c = λ _.
    let none : position (IsNamed c.args.name.now) c.self.inside.entries.items ≡ None = rw (← c.deref.ensures.value) (sym c.place_of.ensures.place ∙ c.in_err-place.was) in
    ap (doors_of c.args.name.now) (sym c.self.view_is) ∙ doors_of-none c.args.name.now c.self.inside.entries.items none

pub returns-clause-some : goal.returns-clause-some
returns-clause-some c =
    let at : position (IsNamed c.args.name.now) c.self.inside.entries.items ≡ Some c.in_ok-place.place = rw (← c.deref.ensures.value) (sym c.place_of.ensures.place ∙ c.in_ok-place.was) in
    let here = ap (doors_of c.args.name.now) (sym c.self.view_is) ∙ doors_of-at c.args.name.now c.self.inside.entries.items c.in_ok-place.place c.index.result.now at c.index.ensures in
    (c.first.ensures.0, here ∙ ap (λ (ds : List OpenDoor). Some ds) c.first.ensures.1)
