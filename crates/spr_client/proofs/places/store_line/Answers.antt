use Rattle.std.proofs.Common.{ℕ, ◌<◌, length, true, sym, ap, subst, ◌∙◌}
use Rattle.script_text.specs.declared.script.Reply.{Reply}
use Rattle.vmm_space.specs.Spaces.{translation}
use Rattle.script_meaning.specs.Plan.{ends, storing}
use Rattle.spr_client.specs.Lines.{IsPlaceOf}
use Rattle.spr_client.proofs.LineLaws.{done-as, done-none}
use Rattle.spr_client.proofs.Translated.{page-small, place-err, place-min, place-of, place-ok, translation-min}
use Rattle.spr_client.proofs.places.store_line.Goals as goal

pub store_place-requires-clause-place : goal.store_place-requires-clause-place
store_place-requires-clause-place g c κs within =
    let mount = c.args.common.now.mount.now in
    let some : IsPlaceOf mount c.len_of.result c.in-Ok.place = place-of mount c.args.client.now.state.regions c.len_of.result c.in-Ok.place c.requires.on.regions c.in-Ok.ensures.leads in
    place-min mount (length c.args.bytes.now) 4294967295 c.in-Ok.place (page-small mount.page_size c.page_size-page_size.ensures.sound.page_size)
    (subst (λ n. IsPlaceOf mount n c.in-Ok.place) c.len_of.ensures some)

pub returns-in-Ok : goal.returns-in-Ok
returns-in-Ok g c =
    let mount = c.args.common.now.mount.now in
    let state = c.args.client.now.state in
    let small : state.regions.page_size < 4294967295 = subst (λ n. n < 4294967295) (sym c.requires.on.regions.page_size) (page-small mount.page_size c.page_size-page_size.ensures.sound.page_size) in
    let found = sym (translation-min state.regions c.args.address (length c.args.bytes.now) 4294967295 true small) ∙ ap (λ (n : ℕ). translation state.regions c.args.address n true) (sym c.len_of.ensures) ∙ sym c.translate.ensures.value in
    done-as mount c.args.client.now.caller state _ _ c.args.pass.now c.store_place.new.pass c.store_place.result state
    (place-ok state (translation state.regions c.args.address (length c.args.bytes.now) true) c.in-Ok.place (storing c.args.bytes.now) (found ∙ c.in-Ok.is))
    c.store_place.ensures

pub returns-in-Err : goal.returns-in-Err
returns-in-Err g c =
    let mount = c.args.common.now.mount.now in
    let state = c.args.client.now.state in
    let small : state.regions.page_size < 4294967295 = subst (λ n. n < 4294967295) (sym c.requires.on.regions.page_size) (page-small mount.page_size c.page_size-page_size.ensures.sound.page_size) in
    let found = sym (translation-min state.regions c.args.address (length c.args.bytes.now) 4294967295 true small) ∙ ap (λ (n : ℕ). translation state.regions c.args.address n true) (sym c.len_of.ensures) ∙ sym c.translate.ensures.value in
    done-none mount c.args.client.now.caller state _ c.args.pass.now c.untranslated.result state
    (place-err state (translation state.regions c.args.address (length c.args.bytes.now) true) c.in-Err.why (storing c.args.bytes.now) (found ∙ c.in-Err.is)
    ∙ ap (λ (r : Reply). ends r state) (sym c.untranslated.ensures))
