use Rattle.std.proofs.Common.{sym, ap, subst, ◌∙◌}
use Rattle.client_objects.specs.Objects.{object_of}
use Rattle.script_meaning.specs.Plan.{by_door, plan_named, plan_sync}
use Rattle.client_replicas.specs.declared.door.OpenDoor.{OpenDoor}
use Rattle.spr_client.proofs.DoorLaws.{doors-on, line-doors, line-no_doors}
use Rattle.spr_client.proofs.replicas.sync_held.Goals as goal

pub sync_door-requires-clause-door : goal.sync_door-requires-clause-door
sync_door-requires-clause-door g c κs within =
    let held = c.in-Some.ensures.some in
    (doors-on c.args.common.now.mount.now c.args.name.now c.args.client.now.state.replicas _ c.requires.on.replicas held.1).0

pub returns-in-Some-clause-done : goal.returns-in-Some-clause-done
returns-in-Some-clause-done g c =
    let mount = c.args.common.now.mount.now in
    let state = c.args.client.now.state in
    let name = c.args.name.now in
    let held = c.in-Some.ensures.some in
    line-doors mount c.args.client.now.caller state state.replicas name (λ (door : OpenDoor) more. plan_sync mount state c.args.keep (by_door door)) (plan_named state (object_of name state.objects) (plan_sync mount state c.args.keep)) c.in-Some.door held.0 c.args.pass.now c.sync_door.new.pass c.sync_door.result c.sync_door.new.client.state held.1 c.sync_door.ensures.done

pub returns-in-None-clause-done : goal.returns-in-None-clause-done
returns-in-None-clause-done g c =
    let mount = c.args.common.now.mount.now in
    let state = c.args.client.now.state in
    let name = c.args.name.now in
    line-no_doors mount c.args.client.now.caller state state.replicas name (λ (door : OpenDoor) more. plan_sync mount state c.args.keep (by_door door)) (plan_named state (object_of name state.objects) (plan_sync mount state c.args.keep)) c.args.pass.now c.sync_line.new.pass c.sync_line.result c.sync_line.new.client.state (c.first.ensures.none c.in-None.is) c.sync_line.ensures.done
