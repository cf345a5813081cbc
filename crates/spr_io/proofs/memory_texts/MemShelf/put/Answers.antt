use Rattle.std.proofs.Common.{◌≡◌, Some, position, ap, sym, ◌∙◌}
use Rattle.spr_io.specs.MemoryTexts.{Texts, is_named, text_in}
use Rattle.spr_io.proofs.Named.{sets_text, adds_text}
use Rattle.spr_io.proofs.memory_texts.MemShelf.put.Goals as goal

pub returns-in-Some-clause-set : goal.returns-in-Some-clause-set
returns-in-Some-clause-set c =
    let at : position (is_named c.args.name.now) c.self.inside.texts.items ≡ Some c.in-Some.at = rw c.deref.ensures.value at (sym c.in-Some.ensures) in
    let s = sets_text c.args.name.now c.args.text.now c.self.inside.texts.items c.in-Some.at c.index_mut-place.result.now at c.index_mut-place.ensures.value in
    rw (c.set.ensures, c.in_ok-text.ensures.items) s.here

pub returns-in-Some-clause-others : goal.returns-in-Some-clause-others
returns-in-Some-clause-others c other differs =
    let at : position (is_named c.args.name.now) c.self.inside.texts.items ≡ Some c.in-Some.at = rw c.deref.ensures.value at (sym c.in-Some.ensures) in
    let s = sets_text c.args.name.now c.args.text.now c.self.inside.texts.items c.in-Some.at c.index_mut-place.result.now at c.index_mut-place.ensures.value in
    rw (c.set.ensures, c.in_ok-text.ensures.items) (s.others other differs ∙ ap (λ (t : Texts). text_in t.texts other) c.self.view_is)

pub returns-in_ok-push-in-None-clause-set : goal.returns-in_ok-push-in-None-clause-set
returns-in_ok-push-in-None-clause-set c =
    let none = rw c.deref.ensures.value at (sym c.in-None.ensures) in
    let s = adds_text c.args.name.now c.args.text.now c.self.inside.texts.items none in
    rw (c.in_ok-push-in-None.ensures.items, c.in_ok-name-in-None.ensures.ok, c.in_ok-text.ensures.items) s.here

pub returns-in_ok-push-in-None-clause-others : goal.returns-in_ok-push-in-None-clause-others
returns-in_ok-push-in-None-clause-others c other differs =
    let none = rw c.deref.ensures.value at (sym c.in-None.ensures) in
    let s = adds_text c.args.name.now c.args.text.now c.self.inside.texts.items none in
    rw (c.in_ok-push-in-None.ensures.items, c.in_ok-name-in-None.ensures.ok, c.in_ok-text.ensures.items) (s.others other differs ∙ ap (λ (t : Texts). text_in t.texts other) c.self.view_is)
