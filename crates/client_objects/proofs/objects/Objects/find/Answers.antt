use Rattle.std.proofs.Common.{◌≡◌, ◌<◌, List, length, None, Some, sym, subst, ◌∙◌, ap, position}
use Rattle.std.specs.List.{AllByRecursion}
use Rattle.std.specs.Option.{option_map}
use Rattle.std.specs.Str.{bytes_eq}
use Rattle.client_objects.specs.declared.target.Found.{Found}
use Rattle.client_objects.specs.declared.entry.Entry.{Entry}
use Rattle.client_objects.specs.Found.{found_on, IsChosen}
use Rattle.client_objects.specs.Objects.{OpenObject, IsOnStack, object_of}
use Rattle.client_objects.proofs.HeldLaws.{object_of-none, object_of-at, leads_to_view}
use Rattle.client_objects.proofs.ChosenLaws.{chosen_in}
use Rattle.client_objects.proofs.objects.Objects.find.Goals as goal

pub returns-in_err-place-clause-is : goal.returns-in_err-place-clause-is
returns-in_err-place-clause-is c =
    let none : position (λ (e : Entry). bytes_eq e.name c.args.name.now) c.self.inside.entries.items ≡ None =
    rw (← c.deref.ensures.value) (sym c.place_of.ensures.place ∙ c.in_err-place.was) in
    let missing = ap (object_of c.args.name.now) (sym c.self.view_is) ∙ object_of-none c.self.inside.domain c.args.name.now c.self.inside.entries.items none in
    c.from_residual.ensures ∙ ap (option_map (found_on c.args.mount.now c.args.machine)) (sym missing)

pub found_of-requires-clause-leads : goal.found_of-requires-clause-leads
found_of-requires-clause-leads c =
    let within : c.in_ok-place.place < length c.self.inside.entries.items = rw (← c.deref.ensures.value) c.in_ok-place.ensures.within in
    leads_to_view c.args.mount.now c.self.inside.domain c.self.inside.entries.items c.in_ok-place.place c.index.result.now
    (subst (λ (os : List OpenObject). AllByRecursion (IsOnStack c.args.mount.now) os) (sym c.self.view_is) c.requires.leads) within c.index.ensures

pub returns-clause-is : goal.returns-clause-is
returns-clause-is c =
    let found : position (λ (e : Entry). bytes_eq e.name c.args.name.now) c.self.inside.entries.items ≡ Some c.in_ok-place.place =
    rw (← c.deref.ensures.value) (sym c.place_of.ensures.place ∙ c.in_ok-place.was) in
    let here =
    sym (object_of-at c.self.inside.domain c.args.name.now c.self.inside.entries.items c.in_ok-place.place c.index.result.now found c.index.ensures)
    ∙ ap (object_of c.args.name.now) c.self.view_is in
    ap (λ (f : Found). Some f) c.found_of.ensures ∙ ap (option_map (found_on c.args.mount.now c.args.machine)) here

pub returns-clause-chosen : goal.returns-clause-chosen
returns-clause-chosen c =
    subst (λ (f : Found). IsChosen f.target) (sym c.found_of.ensures) (chosen_in c.self.inside.domain c.index.result.now.kind c.index.result.now.object)
