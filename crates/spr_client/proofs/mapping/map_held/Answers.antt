use Rattle.std.proofs.Common.{sym, ap, subst, ◌∙◌}
use Rattle.client_objects.specs.Objects.{object_of}
use Rattle.client_objects.specs.declared.target.Found.{Found}
use Rattle.script_meaning.specs.Plan.{by_door, plan_map, plan_named}
use Rattle.client_replicas.specs.declared.door.OpenDoor.{OpenDoor}
use Rattle.spr_client.specs.Lines.{IsTarget, LineDone}
use Rattle.spr_client.proofs.DoorLaws.{door-target, doors-on, line-doors, line-no_doors}
use Rattle.spr_client.proofs.mapping.map_held.Goals as goal

pub map_object-requires-clause-target : goal.map_object-requires-clause-target
map_object-requires-clause-target g c κs within =
    let mount = c.args.common.now.mount.now in
    let held = c.in-Some.ensures.some in
    subst (λ (f : Found). IsTarget mount f) (sym c.found_by-found.ensures)
    (door-target mount c.in-Some.door c.nodes-nodes.ensures.sound (doors-on mount c.args.name.now c.args.client.now.state.replicas _ c.requires.on.replicas held.1).0)

pub returns-in-Some-clause-done : goal.returns-in-Some-clause-done
returns-in-Some-clause-done g c =
    let mount = c.args.common.now.mount.now in
    let caller = c.args.client.now.caller in
    let state = c.args.client.now.state in
    let name = c.args.name.now in
    let held = c.in-Some.ensures.some in
    let done = subst (λ (f : Found). LineDone mount caller state (plan_map mount state c.args.region.now c.args.address c.args.pages c.args.write f.target) c.args.pass.now c.map_object.new.pass c.map_object.result c.map_object.new.client.state) c.found_by-found.ensures c.map_object.ensures.done in
    line-doors mount caller state state.replicas name (λ (door : OpenDoor) more. plan_map mount state c.args.region.now c.args.address c.args.pages c.args.write (by_door door)) (plan_named state (object_of name state.objects) (plan_map mount state c.args.region.now c.args.address c.args.pages c.args.write)) c.in-Some.door held.0 c.args.pass.now c.map_object.new.pass c.map_object.result c.map_object.new.client.state held.1 done

pub returns-in-None-clause-done : goal.returns-in-None-clause-done
returns-in-None-clause-done g c =
    let mount = c.args.common.now.mount.now in
    let state = c.args.client.now.state in
    let name = c.args.name.now in
    line-no_doors mount c.args.client.now.caller state state.replicas name (λ (door : OpenDoor) more. plan_map mount state c.args.region.now c.args.address c.args.pages c.args.write (by_door door)) (plan_named state (object_of name state.objects) (plan_map mount state c.args.region.now c.args.address c.args.pages c.args.write)) c.args.pass.now c.map_line.new.pass c.map_line.result c.map_line.new.client.state (c.first.ensures.none c.in-None.is) c.map_line.ensures.done
