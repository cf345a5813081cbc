use Rattle.std.proofs.Common.{◌≡◌, ℕ, List, true, false, sym, ap, subst, ◌∙◌}
use Rattle.script_text.specs.declared.script.Reply.TheVariants as replies
use Rattle.vmm_space.specs.Spaces.{SpaceShape, has_region, without_region}
use Rattle.script_meaning.specs.Plan.{ends, mapping}
use Rattle.spr_client.specs.Lines.{IsSpaceOf}
use Rattle.spr_client.proofs.LineLaws.{done-left, done-none}
use Rattle.spr_client.proofs.MapLaws.{unmap-done, unmap-none}
use Rattle.spr_client.proofs.Spaces.{on_machine-mapping, space-without}
use Rattle.spr_client.proofs.mapping.unmap_line.Goals as goal

pub returns-in-Ok-clause-done : goal.returns-in-Ok-clause-done
returns-in-Ok-clause-done g c =
    let mount = c.args.common.now.mount.now in
    let caller = c.args.client.now.caller in
    let state = c.args.client.now.state in
    let name = c.args.name.now in
    let has : has_region name state.regions ≡ true = ap (λ (n : List ℕ). has_region n state.regions) (sym c.as_str.ensures) ∙ c.in-Ok.ensures.found in
    let left : c.unmap.new.self ≡ without_region name state.regions = c.in-Ok.ensures.ok ∙ ap (λ (n : List ℕ). without_region n state.regions) c.as_str.ensures in
    done-none mount caller state _ c.args.pass.now replies.Done (mapping state c.unmap.new.self)
    (unmap-done state name has ∙ ap (λ (s : SpaceShape). ends replies.Done (mapping state s)) (sym left))

pub returns-in-Ok-clause-on : goal.returns-in-Ok-clause-on
returns-in-Ok-clause-on g c =
    let mount = c.args.common.now.mount.now in
    let state = c.args.client.now.state in
    on_machine-mapping mount state c.unmap.new.self c.requires.on
    (subst (λ (s : SpaceShape). IsSpaceOf mount s) (sym c.in-Ok.ensures.ok) (space-without mount c.as_str.result.now state.regions c.requires.on.regions))

pub returns-in-Err-clause-done : goal.returns-in-Err-clause-done
returns-in-Err-clause-done g c =
    let mount = c.args.common.now.mount.now in
    let caller = c.args.client.now.caller in
    let state = c.args.client.now.state in
    let name = c.args.name.now in
    let none : has_region name state.regions ≡ false = ap (λ (n : List ℕ). has_region n state.regions) (sym c.as_str.ensures) ∙ c.in-Err.ensures.none in
    done-left mount caller state _ c.args.pass.now c.args.pass.now replies.NoRegion state (mapping state c.unmap.new.self) (ap (mapping state) c.in-Err.ensures.err)
    (done-none mount caller state _ c.args.pass.now replies.NoRegion state (unmap-none state name none))
