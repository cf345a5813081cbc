use Rattle.std.proofs.Common.{sym, ◌∙◌}
use Rattle.client_objects.specs.Objects.{object_of}
use Rattle.script_meaning.specs.Plan.{plan_map}
use Rattle.spr_client.proofs.LineLaws.{done-none, named-none}
use Rattle.spr_client.proofs.Targets.{found-none}
use Rattle.spr_client.proofs.mapping.map_line.Goals as goal

pub returns-in_default-clause-done : goal.returns-in_default-clause-done
returns-in_default-clause-done g c =
    let mount = c.args.common.now.mount.now in
    let state = c.args.client.now.state in
    done-none mount c.args.client.now.caller state _ c.args.pass.now _ state
    (named-none state (object_of c.args.name.now state.objects) (plan_map mount state c.args.region.now c.args.address c.args.pages c.args.write)
    (found-none mount state.machine (object_of c.args.name.now state.objects) (sym c.find.ensures.is ∙ c.in_default.is)))
