use Rattle.std.proofs.Common.{◌≡◌, ◌∷◌, [], List, None, Some, Option, Bool, true, false, length, refl, sym, ap, subst, ◌∙◌, position, arith}
use Rattle.std.specs.Prelude.{is_some, slice_set}
use Rattle.std.proofs.lemmas.List.{set-get_or}
use Rattle.client_replicas.specs.declared.door.OpenDoor.{OpenDoor}
use Rattle.client_replicas.specs.declared.replicas.OpenReplicon.{OpenReplicon}
use Rattle.client_replicas.specs.Objects.{doors_of, with_doors}
use Rattle.client_replicas.specs.OpenDoors.{DropsFirst}
use Rattle.client_replicas.proofs.NamedLaws.{IsNamed, doors_of-at, doors_of-none, set-doors}
use Rattle.client_replicas.proofs.replicas.Replicas.drop_first.Goals as goal

-- a door is dropped where another one is left, and none else
dropped : (b : Bool) (old new : List OpenDoor) (door next : OpenDoor) (more : List OpenDoor) → old ≡ door ∷ next ∷ more → (b ≡ true → DropsFirst old new) → (b ≡ false → length old ≡ 1) → (b ≡ true) × (new ≡ next ∷ more)
dropped true old new door next more is drops last =
    let d = drops refl in
    let same : (d.0 ∷ d.1 ∷ d.2) ≡ (door ∷ next ∷ more) = sym d.3 ∙ is in
    (refl, d.4 ∙ cc (same))
dropped false old new door next more is drops last = let one = last refl in let two = ap length is in absurd (omega (arith, one, two))

kept : (b : Bool) (old new : List OpenDoor) (door : OpenDoor) → old ≡ door ∷ [] → (b ≡ true → DropsFirst old new) → (b ≡ false → new ≡ old) → (b ≡ false) × (new ≡ old)
kept true old new door is drops stays =
    let d = drops refl in
    let same : (d.0 ∷ d.1 ∷ d.2) ≡ (door ∷ []) = sym d.3 ∙ is in
    absurd cc
kept false old new door is drops stays = (refl, stays refl)

pub unreachable-requires : goal.unreachable-requires
unreachable-requires c =
    let none : position (IsNamed c.args.name.now) c.self.inside.entries.items ≡ None = rw (← c.deref.ensures.value) (sym c.place_of.ensures.place ∙ c.in_default.is) in
    let missing : doors_of c.args.name.now c.args.self.now ≡ None = ap (doors_of c.args.name.now) (sym c.self.view_is) ∙ doors_of-none c.args.name.now c.self.inside.entries.items none in
    let some : is_some (doors_of c.args.name.now c.args.self.now) ≡ true = c.requires in
    let never = sym (ap (λ (t : Option (List OpenDoor)). is_some t) missing) ∙ some in
    cc

pub returns-clause-dropped : goal.returns-clause-dropped
returns-clause-dropped c = λ door next more is.
    let at : position (IsNamed c.args.name.now) c.self.inside.entries.items ≡ Some c.in-Some.place = rw (← c.deref.ensures.value) (sym c.place_of.ensures.place ∙ c.in-Some.is) in
    let here = ap (doors_of c.args.name.now) (sym c.self.view_is) ∙ doors_of-at c.args.name.now c.self.inside.entries.items c.in-Some.place c.index_mut.result.now at c.index_mut.ensures.value in
    let same : c.index_mut.result.now.doors ≡ door ∷ next ∷ more = cc (here, is) in
    (dropped c.drop_first.result c.index_mut.result.now.doors c.drop_first.new.self door next more same c.drop_first.ensures.dropped c.drop_first.ensures.last).0

pub returns-clause-goes_on : goal.returns-clause-goes_on
returns-clause-goes_on c = λ door next more is.
    let entries = c.self.inside.entries.items in
    let place = c.in-Some.place in
    let at : position (IsNamed c.args.name.now) entries ≡ Some place = rw (← c.deref.ensures.value) (sym c.place_of.ensures.place ∙ c.in-Some.is) in
    let here = ap (doors_of c.args.name.now) (sym c.self.view_is) ∙ doors_of-at c.args.name.now entries place c.index_mut.result.now at c.index_mut.ensures.value in
    let same : c.index_mut.result.now.doors ≡ door ∷ next ∷ more = cc (here, is) in
    let left = (dropped c.drop_first.result c.index_mut.result.now.doors c.drop_first.new.self door next more same c.drop_first.ensures.dropped c.drop_first.ensures.last).1 in
    ap (λ (ds : List OpenDoor). slice_set entries place (record { name = c.index_mut.result.now.name; doors = ds })) left
    ∙ (set-doors c.args.name.now entries place c.index_mut.result.now (next ∷ more) at c.index_mut.ensures.value ∙ ap (with_doors c.args.name.now (next ∷ more)) c.self.view_is)

pub returns-clause-last : goal.returns-clause-last
returns-clause-last c = λ door is.
    let at : position (IsNamed c.args.name.now) c.self.inside.entries.items ≡ Some c.in-Some.place = rw (← c.deref.ensures.value) (sym c.place_of.ensures.place ∙ c.in-Some.is) in
    let here = ap (doors_of c.args.name.now) (sym c.self.view_is) ∙ doors_of-at c.args.name.now c.self.inside.entries.items c.in-Some.place c.index_mut.result.now at c.index_mut.ensures.value in
    let same : c.index_mut.result.now.doors ≡ door ∷ [] = cc (here, is) in
    (kept c.drop_first.result c.index_mut.result.now.doors c.drop_first.new.self door same c.drop_first.ensures.dropped c.drop_first.ensures.kept).0

pub returns-clause-kept : goal.returns-clause-kept
returns-clause-kept c = λ door is.
    let entries = c.self.inside.entries.items in
    let place = c.in-Some.place in
    let at : position (IsNamed c.args.name.now) entries ≡ Some place = rw (← c.deref.ensures.value) (sym c.place_of.ensures.place ∙ c.in-Some.is) in
    let here = ap (doors_of c.args.name.now) (sym c.self.view_is) ∙ doors_of-at c.args.name.now entries place c.index_mut.result.now at c.index_mut.ensures.value in
    let same : c.index_mut.result.now.doors ≡ door ∷ [] = cc (here, is) in
    let left = (kept c.drop_first.result c.index_mut.result.now.doors c.drop_first.new.self door same c.drop_first.ensures.dropped c.drop_first.ensures.kept).1 in
    ap (λ (ds : List OpenDoor). slice_set entries place (record { name = c.index_mut.result.now.name; doors = ds })) left
    ∙ (ap (slice_set entries place) c.index_mut.ensures.value ∙ (set-get_or entries place c.index_mut.result.now ∙ c.self.view_is))
