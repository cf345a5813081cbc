use Rattle.std.proofs.Common.{◌≡◌, ℕ, ◌<◌, List, length, Some, None, sym, ap, subst, ◌∙◌}
use Rattle.script_text.specs.declared.script.Reply.{Reply}
use Rattle.script_text.specs.declared.script.Reply.TheVariants as replies
use Rattle.memory_object.specs.declared.binding.MemoryObject.{MemoryObject}
use Rattle.vmm_space.specs.Spaces.{refusal}
use Rattle.script_meaning.specs.Plan.{Plan, ends, plan_mapped, region_of}
use Rattle.spr_client.proofs.LineLaws.{done-as, done-lacks, done-none, line_of}
use Rattle.spr_client.proofs.MapLaws.{map-bound, map-refused, map-unmanaged, rights-file}
use Rattle.spr_client.proofs.Spaces.{manager_leads}
use Rattle.spr_client.proofs.mapping.map_object.Goals as goal

pub returns-in-Err-clause-done : goal.returns-in-Err-clause-done
returns-in-Err-clause-done g c =
    let mount = c.args.common.now.mount.now in
    let state = c.args.client.now.state in
    let refused : refusal state.regions c.args.region.now c.args.found.target.file c.args.address c.args.pages ≡ Some c.in-Err.why =
    ap (λ (n : List ℕ). refusal state.regions n c.args.found.target.file c.args.address c.args.pages) (sym c.as_str.ensures) ∙ c.in-Err.ensures.value in
    done-none mount c.args.client.now.caller state _ c.args.pass.now c.unmappable.result state
    (map-refused mount state c.args.region.now c.args.address c.args.pages c.args.write c.args.found.target c.in-Err.why refused ∙ ap (λ (r : Reply). ends r state) (sym c.unmappable.ensures))

pub returns-in_default-bind-clause-done : goal.returns-in_default-bind-clause-done
returns-in_default-bind-clause-done g c =
    let mount = c.args.common.now.mount.now in
    let state = c.args.client.now.state in
    let free : refusal state.regions c.args.region.now c.args.found.target.file c.args.address c.args.pages ≡ None =
    ap (λ (n : List ℕ). refusal state.regions n c.args.found.target.file c.args.address c.args.pages) (sym c.as_str.ensures) ∙ c.in_default.ensures.value in
    done-none mount c.args.client.now.caller state _ c.args.pass.now replies.NoManager state
    (map-unmanaged mount state c.args.region.now c.args.address c.args.pages c.args.write c.args.found.target free c.in_default-bind.ensures.value)

pub returns-in_default-of-clause-done : goal.returns-in_default-of-clause-done
returns-in_default-of-clause-done g c = done-lacks c.args.common.now.mount.now c.args.client.now.caller c.args.client.now.state _ c.args.pass.now

pub map_bound-requires-clause-leads : goal.map_bound-requires-clause-leads
map_bound-requires-clause-leads g c κs within =
    let mount = c.args.common.now.mount.now in
    let object : MemoryObject = record { view = c.args.found.target.view; file = c.args.found.target.file } in
    let file = rights-file mount object c.args.client.now.state.machine c.in-Ok.rights c.in-Ok.ensures.value in
    manager_leads mount c.args.found.target.view c.args.client.now.state.machine c.in-Ok.rights.leaf c.in-Ok.rights.file c.nodes-nodes.ensures.sound
    (subst (λ n. n < length mount.files) (sym file) c.requires.target.file) c.in-Ok.ensures.first.manager

pub map_bound-requires-clause-free : goal.map_bound-requires-clause-free
map_bound-requires-clause-free g c κs within =
    let mount = c.args.common.now.mount.now in
    let state = c.args.client.now.state in
    let object : MemoryObject = record { view = c.args.found.target.view; file = c.args.found.target.file } in
    let file = rights-file mount object state.machine c.in-Ok.rights c.in-Ok.ensures.value in
    let name : c.in-Ok-of.name ≡ c.as_str.result.now = c.in-Ok-of.ensures ∙ c.as_str-2.ensures ∙ sym c.as_str.ensures in
    ap (λ (n : List ℕ). refusal state.regions n c.in-Ok.rights.file c.args.address c.args.pages) name
    ∙ ap (λ (n : ℕ). refusal state.regions c.as_str.result.now n c.args.address c.args.pages) file ∙ c.in_default.ensures.value

pub returns-clause-done : goal.returns-clause-done
returns-clause-done g c =
    let mount = c.args.common.now.mount.now in
    let caller = c.args.client.now.caller in
    let state = c.args.client.now.state in
    let name : c.in-Ok-of.name ≡ c.args.region.now = c.in-Ok-of.ensures ∙ c.as_str-2.ensures in
    let free : refusal state.regions c.args.region.now c.args.found.target.file c.args.address c.args.pages ≡ None =
    ap (λ (n : List ℕ). refusal state.regions n c.args.found.target.file c.args.address c.args.pages) (sym c.as_str.ensures) ∙ c.in_default.ensures.value in
    let mapped : List ℕ → Plan = λ n. plan_mapped state (region_of n c.args.address c.args.pages c.args.write c.in-Ok.rights) in
    done-as mount caller state (mapped c.in-Ok-of.name) _ c.args.pass.now c.map_bound.new.pass c.map_bound.result c.map_bound.new.client.state
    (map-bound mount state c.args.region.now c.args.address c.args.pages c.args.write c.args.found.target c.in-Ok.rights free c.in-Ok.ensures.value ∙ ap mapped (sym name))
    (line_of mount caller state (mapped c.in-Ok-of.name) c.args.pass.now c.map_bound.new.pass c.map_bound.result c.map_bound.new.client.state c.map_bound.ensures.done)
