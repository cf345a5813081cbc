use Rattle.std.proofs.Common.{◌≡◌, refl, sym, subst, ◌∙◌}
use Rattle.hist_plain.specs.declared.event.Op.TheVariants as ops
use Rattle.hist_plain.specs.Plain.{Told}
use Rattle.script_text.specs.declared.script.Reply.{Reply}
use Rattle.script_text.specs.declared.script.Reply.TheVariants as replies
use Rattle.vmm_space.specs.declared.regions.Region.{Region}
use Rattle.vmm_space.specs.Spaces.{SpaceShape, with_region}
use Rattle.script_meaning.specs.Plan.{Plan, ends, asking, access, life_in, living, mapping, plan_mapped, region_of, reply_of}
use Rattle.spr_client.specs.Lines.{IsOnMachine, PlanDone}
use Rattle.spr_client.proofs.LineLaws.{plan-lacks}
use Rattle.spr_client.proofs.MapLaws.{memory-alone}
use Rattle.spr_client.proofs.Spaces.{on_machine-mapped}
use Rattle.spr_client.proofs.mapping.map_bound.Goals as goal

pub returns-in-Ok-clause-done : goal.returns-in-Ok-clause-done
returns-in-Ok-clause-done g c =
    let region : Region = region_of c.args.name c.args.address c.args.pages c.args.write c.args.rights in
    c.open_mapped.ensures.done c.args.client.now.state.regions region c.in-Ok.ensures.ok refl refl

pub returns-in-Ok-clause-on : goal.returns-in-Ok-clause-on
returns-in-Ok-clause-on g c =
    let region : Region = region_of c.args.name c.args.address c.args.pages c.args.write c.args.rights in
    on_machine-mapped c.args.common.now.mount.now c.open_mapped.new.client.state c.args.client.now.state region c.requires.on c.requires.leads
    (c.open_mapped.ensures.on c.args.client.now.state.regions region c.in-Ok.ensures.ok)

pub returns-in-Err-clause-done : goal.returns-in-Err-clause-done
returns-in-Err-clause-done g c =
    let mount = c.args.common.now.mount.now in
    let caller = c.args.client.now.caller in
    let state = c.args.client.now.state in
    let region : Region = region_of c.args.name c.args.address c.args.pages c.args.write c.args.rights in
    let go_on : Told → Plan = λ told. ends (reply_of told) (mapping state (with_region state.regions (living region (life_in told.answer)))) in
    let memory : c.unmappable.result ≡ replies.Memory = c.unmappable.ensures ∙ memory-alone _ c.in-Err.why c.requires.free c.in-Err.ensures.why in
    subst (λ (s : SpaceShape). PlanDone mount caller (plan_mapped state region) c.args.pass.now c.args.pass.now c.unmappable.result (mapping state s)) (sym c.in-Err.ensures.err)
    (subst (λ (r : Reply). PlanDone mount caller (plan_mapped state region) c.args.pass.now c.args.pass.now r state) (sym memory)
    (plan-lacks mount caller (plan_mapped state region) (asking region.file (access region.leaf 0 ops.Open)) state go_on c.args.pass.now refl))

pub returns-in-Err-clause-on : goal.returns-in-Err-clause-on
returns-in-Err-clause-on g c =
    subst (λ (s : SpaceShape). IsOnMachine c.args.common.now.mount.now (mapping c.args.client.now.state s)) (sym c.in-Err.ensures.err) c.requires.on
