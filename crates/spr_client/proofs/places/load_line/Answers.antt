use Rattle.std.proofs.Common.{false, sym, ap, ◌∙◌}
use Rattle.script_text.specs.declared.script.Reply.{Reply}
use Rattle.vmm_space.specs.Spaces.{translation}
use Rattle.script_meaning.specs.Plan.{ends, loading}
use Rattle.spr_client.proofs.LineLaws.{done-as, done-none}
use Rattle.spr_client.proofs.Translated.{place-err, place-ok, place-of}
use Rattle.spr_client.proofs.places.load_line.Goals as goal

pub load_place-requires-clause-place : goal.load_place-requires-clause-place
load_place-requires-clause-place g c κs within = place-of c.args.common.now.mount.now c.args.client.now.state.regions c.args.len c.in-Ok.place c.requires.on.regions c.in-Ok.ensures.leads

pub returns-in-Ok : goal.returns-in-Ok
returns-in-Ok g c =
    let state = c.args.client.now.state in
    done-as c.args.common.now.mount.now c.args.client.now.caller state _ _ c.args.pass.now c.load_place.new.pass c.load_place.result state
    (place-ok state (translation state.regions c.args.address c.args.len false) c.in-Ok.place (loading c.args.len) (sym c.translate.ensures.value ∙ c.in-Ok.is))
    c.load_place.ensures

pub returns-in-Err : goal.returns-in-Err
returns-in-Err g c =
    let state = c.args.client.now.state in
    done-none c.args.common.now.mount.now c.args.client.now.caller state _ c.args.pass.now c.untranslated.result state
    (place-err state (translation state.regions c.args.address c.args.len false) c.in-Err.why (loading c.args.len) (sym c.translate.ensures.value ∙ c.in-Err.is)
    ∙ ap (λ (r : Reply). ends r state) (sym c.untranslated.ensures))
