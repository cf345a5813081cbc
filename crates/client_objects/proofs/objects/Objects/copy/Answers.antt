use Rattle.std.proofs.Common.{◌≡◌, ◌<◌, ◌++◌, ◌∷◌, [], List, length, None, Some, Option, sym, subst, ◌∙◌, ap, position}
use Rattle.std.specs.Prelude.{is_some, true, slice_index_or}
use Rattle.std.specs.Str.{bytes_eq}
use Rattle.client_objects.specs.declared.target.Target.{Target}
use Rattle.client_objects.specs.declared.entry.Entry.{Entry}
use Rattle.client_objects.specs.Objects.{OpenObject, object_of, with_object, word_of}
use Rattle.client_objects.specs.Held.{seen, target_in, AreHeld}
use Rattle.client_objects.proofs.HeldLaws.{are_held-copy, seen-copy, object_of-none, object_of-at, word_of-at}
use Rattle.client_objects.proofs.objects.Objects.copy.Goals as goal

pub unreachable-requires : goal.unreachable-requires
unreachable-requires c =
    let none : position (λ (e : Entry). bytes_eq e.name c.args.name.now) c.self.inside.entries.items ≡ None =
    rw (← c.deref.ensures.value) (sym c.place_of.ensures.place ∙ c.in_default.is) in
    let missing : object_of c.args.name.now c.args.self.now ≡ None =
    ap (object_of c.args.name.now) (sym c.self.view_is) ∙ object_of-none c.self.inside.domain c.args.name.now c.self.inside.entries.items none in
    let some : is_some (object_of c.args.name.now c.args.self.now) ≡ true = c.requires in
    let never = sym (ap (λ (t : Option Target). is_some t) missing) ∙ some in
    cc

pub invariant_of-self-2 : goal.invariant_of-self-2
invariant_of-self-2 c =
    let within : c.in-Some.place < length c.self.inside.entries.items = rw (← c.deref.ensures.value) c.in-Some.ensures.within in
    let at : c.index.result.now ≡ slice_index_or c.self.inside.entries.items c.in-Some.place c.index.result.now = rw (← c.reserve.ensures.items) c.index.ensures in
    let entry : Entry = record { name = c.args.other; kind = c.index.result.now.kind; object = c.in_ok-object.object } in
    let items = c.push_reserved.ensures.items ∙ ap (λ (es : List Entry). es ++ entry ∷ []) c.reserve.ensures.items in
    subst (λ (es : List Entry). AreHeld c.copy_of.new.domain es) (sym items)
    (are_held-copy c.self.inside.domain c.copy_of.new.domain c.self.inside.entries.items c.in-Some.place c.index.result.now c.args.other c.in_ok-object.object c.self.invariant within at c.in_ok-object.ensures.ok)

pub returns-clause-ok : goal.returns-clause-ok
returns-clause-ok c target is =
    let found : position (λ (e : Entry). bytes_eq e.name c.args.name.now) c.self.inside.entries.items ≡ Some c.in-Some.place =
    rw (← c.deref.ensures.value) (sym c.place_of.ensures.place ∙ c.in-Some.is) in
    let at : c.index.result.now ≡ slice_index_or c.self.inside.entries.items c.in-Some.place c.index.result.now = rw (← c.reserve.ensures.items) c.index.ensures in
    let here : object_of c.args.name.now c.args.self.now ≡ Some (target_in c.self.inside.domain c.index.result.now.kind c.index.result.now.object) =
    ap (object_of c.args.name.now) (sym c.self.view_is) ∙ object_of-at c.self.inside.domain c.args.name.now c.self.inside.entries.items c.in-Some.place c.index.result.now found at in
    let word : c.index.result.now.object.name ≡ word_of c.args.name.now c.args.self.now =
    sym (word_of-at c.self.inside.domain c.args.name.now c.self.inside.entries.items c.in-Some.place c.index.result.now found at) ∙ ap (word_of c.args.name.now) c.self.view_is in
    let same : target_in c.self.inside.domain c.index.result.now.kind c.index.result.now.object ≡ target = cc (here, is) in
    let entry : Entry = record { name = c.args.other; kind = c.index.result.now.kind; object = c.in_ok-object.object } in
    let items = c.push_reserved.ensures.items ∙ ap (λ (es : List Entry). es ++ entry ∷ []) c.reserve.ensures.items in
    ap (seen c.copy_of.new.domain) items
    ∙ seen-copy c.self.inside.domain c.copy_of.new.domain c.self.inside.entries.items c.index.result.now c.args.other c.in_ok-object.object c.self.invariant c.in_ok-object.ensures.ok
    ∙ ap (λ (os : List OpenObject). with_object os c.args.other (target_in c.self.inside.domain c.index.result.now.kind c.index.result.now.object) c.index.result.now.object.name) c.self.view_is
    ∙ ap (λ (t : Target). with_object c.args.self.now c.args.other t c.index.result.now.object.name) same
    ∙ ap (with_object c.args.self.now c.args.other target) word
