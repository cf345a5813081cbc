use Rattle.std.proofs.Common.{sym, ap, ◌∙◌, Option}
use Rattle.client_objects.specs.Objects.{object_of, word_of}
use Rattle.script_meaning.specs.Plan.{plan_access, plan_by_doors, plan_named, plan_use}
use Rattle.spr_client.proofs.DoorLaws.{line-doors, line-no_doors}
use Rattle.spr_client.proofs.LineLaws.{line_of}
use Rattle.spr_client.proofs.files.use_line.Goals as goal

pub returns-in-Some-clause-done : goal.returns-in-Some-clause-done
returns-in-Some-clause-done g c =
    let mount = c.args.common.now.mount.now in
    let caller = c.args.client.now.caller in
    let state = c.args.client.now.state in
    let name = c.args.name.now in
    let held = c.in-Some.ensures.some in
    line-doors mount caller state state.replicas name (plan_by_doors mount state name c.args.op) (plan_named state (object_of name state.objects) (plan_access mount state name (word_of name state.objects) c.args.op)) c.in-Some.door held.0 c.args.pass.now c.access_doors.new.pass c.access_doors.result c.access_doors.new.client.state held.1
    (line_of mount caller state (plan_by_doors mount state name c.args.op c.in-Some.door held.0) c.args.pass.now c.access_doors.new.pass c.access_doors.result c.access_doors.new.client.state (c.access_doors.ensures.done held.0 held.1))

pub returns-in-None-clause-done : goal.returns-in-None-clause-done
returns-in-None-clause-done g c =
    let mount = c.args.common.now.mount.now in
    let caller = c.args.client.now.caller in
    let state = c.args.client.now.state in
    let name = c.args.name.now in
    line-no_doors mount caller state state.replicas name (plan_by_doors mount state name c.args.op) (plan_named state (object_of name state.objects) (plan_access mount state name (word_of name state.objects) c.args.op)) c.args.pass.now c.access_line.new.pass c.access_line.result c.access_line.new.client.state (c.first.ensures.none c.in-None.is)
    c.access_line.ensures.done
