use Rattle.std.proofs.Common.{◌≡◌, ◌++◌, ◌∷◌, [], List, None, Some, Option, sym, ap, ◌∙◌, position}
use Rattle.std.specs.Prelude.{is_some, true}
use Rattle.client_replicas.specs.declared.door.OpenDoor.{OpenDoor}
use Rattle.client_replicas.specs.declared.replicas.OpenReplicon.{OpenReplicon}
use Rattle.client_replicas.specs.Objects.{doors_of, with_replicon}
use Rattle.client_replicas.proofs.NamedLaws.{IsNamed, doors_of-at, doors_of-none}
use Rattle.client_replicas.proofs.replicas.Replicas.copy.Goals as goal

pub unreachable-requires : goal.unreachable-requires
unreachable-requires c =
    let none : position (IsNamed c.args.name.now) c.self.inside.entries.items ≡ None = rw (← c.deref.ensures.value) (sym c.place_of.ensures.place ∙ c.in_default.is) in
    let missing : doors_of c.args.name.now c.args.self.now ≡ None = ap (doors_of c.args.name.now) (sym c.self.view_is) ∙ doors_of-none c.args.name.now c.self.inside.entries.items none in
    let some : is_some (doors_of c.args.name.now c.args.self.now) ≡ true = c.requires in
    let never = sym (ap (λ (t : Option (List OpenDoor)). is_some t) missing) ∙ some in
    cc

pub returns-clause-ok : goal.returns-clause-ok
returns-clause-ok c = λ doors is.
    let at : position (IsNamed c.args.name.now) c.self.inside.entries.items ≡ Some c.in-Some.place = rw (← c.deref.ensures.value) (sym c.place_of.ensures.place ∙ c.in-Some.is) in
    let here = ap (doors_of c.args.name.now) (sym c.self.view_is) ∙ doors_of-at c.args.name.now c.self.inside.entries.items c.in-Some.place c.index.result.now at c.index.ensures in
    let same : c.index.result.now.doors ≡ doors = cc (here, is) in
    c.in_ok-push.ensures.items
    ∙ (ap (λ (os : List OpenReplicon). with_replicon os c.args.other c.in_ok-doors.doors) c.self.view_is ∙ ap (with_replicon c.args.self.now c.args.other) (c.in_ok-doors.ensures ∙ same))
