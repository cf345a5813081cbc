use Rattle.std.proofs.Common.{◌≡◌, ◌<◌, ℕ, List, length, None, Some, Option, sym, subst, ◌∙◌, ap, position}
use Rattle.std.specs.Prelude.{slice_index_or, IfOk, IsTrue}
use Rattle.std.specs.Str.{bytes_eq}
use Rattle.text_words.specs.Words.{is_path_word, path_of}
use Rattle.sub_core.specs.Forms.{IsNameOf}
use Rattle.client_objects.specs.declared.kind.ObjectKind.{ObjectKind}
use Rattle.client_objects.specs.declared.target.Target.{Target}
use Rattle.client_objects.specs.declared.entry.Entry.{Entry}
use Rattle.client_objects.specs.Kinds.{form_of}
use Rattle.client_objects.specs.Objects.{object_of, word_of}
use Rattle.client_objects.specs.Reconnected.{IsReconnectable}
use Rattle.client_objects.specs.Held.{IsHeld, target_in}
use Rattle.client_objects.proofs.HeldLaws.{all_at, object_of-at, object_of-none, word_of-at}
use Rattle.client_objects.proofs.objects.Objects.path.Goals as goal

pub unreachable-requires : goal.unreachable-requires
unreachable-requires c =
    let none : position (λ (e : Entry). bytes_eq e.name c.args.name.now) c.self.inside.entries.items ≡ None =
    rw (← c.deref.ensures.value) (sym c.place_of.ensures.place ∙ c.in_default.is) in
    let missing : object_of c.args.name.now c.args.self.now ≡ None =
    ap (object_of c.args.name.now) (sym c.self.view_is) ∙ object_of-none c.self.inside.domain c.args.name.now c.self.inside.entries.items none in
    absurd (subst (λ (o : Option Target). IsReconnectable o) missing c.requires)

-- a reconnectable object is held with a path's word
pub path_in-requires : goal.path_in-requires
path_in-requires c =
    let within : c.in-Some.place < length c.self.inside.entries.items = rw (← c.deref.ensures.value) c.in-Some.ensures.within in
    let at : position (λ (e : Entry). bytes_eq e.name c.args.name.now) c.self.inside.entries.items ≡ Some c.in-Some.place =
    rw (← c.deref.ensures.value) (sym c.place_of.ensures.place ∙ c.in-Some.is) in
    let held : IsHeld c.self.inside.domain c.index.result.now.kind c.index.result.now.object =
    all_at (λ (e : Entry). IsHeld c.self.inside.domain e.kind e.object) c.self.inside.entries.items c.in-Some.place c.index.result.now c.self.invariant.held within c.index.ensures in
    let here : object_of c.args.name.now c.args.self.now ≡ Some (target_in c.self.inside.domain c.index.result.now.kind c.index.result.now.object) =
    ap (object_of c.args.name.now) (sym c.self.view_is) ∙ object_of-at c.self.inside.domain c.args.name.now c.self.inside.entries.items c.in-Some.place c.index.result.now at c.index.ensures in
    let kind : c.index.result.now.kind ≡ ObjectKind.Reconnectable = subst (λ (o : Option Target). IsReconnectable o) here c.requires in
    let path : IsTrue (is_path_word c.index.result.now.object.name) = subst (λ (k : ObjectKind). IsNameOf (form_of k) c.index.result.now.object.name) kind held.of.name in
    subst (λ (w : List ℕ). IsTrue (is_path_word w)) (sym (c.as_bytes.ensures.value ∙ c.as_str.ensures)) path

pub returns : goal.returns
returns c =
    let at : position (λ (e : Entry). bytes_eq e.name c.args.name.now) c.self.inside.entries.items ≡ Some c.in-Some.place =
    rw (← c.deref.ensures.value) (sym c.place_of.ensures.place ∙ c.in-Some.is) in
    let word : c.index.result.now.object.name ≡ word_of c.args.name.now c.args.self.now =
    sym (word_of-at c.self.inside.domain c.args.name.now c.self.inside.entries.items c.in-Some.place c.index.result.now at c.index.ensures) ∙ ap (word_of c.args.name.now) c.self.view_is in
    let bytes : c.as_bytes.result.now ≡ word_of c.args.name.now c.args.self.now = c.as_bytes.ensures.value ∙ (c.as_str.ensures ∙ word) in
    subst (λ (w : List ℕ). IfOk c.path_in.result (λ (path : List (List ℕ)). path_of w ≡ Some path)) bytes c.path_in.ensures
