use Rattle.std.proofs.Common.{refl}
use Rattle.client_objects.specs.Objects.{object_of, word_of}
use Rattle.script_meaning.specs.Plan.{is_open, plan_copy, plan_copy_doors, plan_named}
use Rattle.spr_client.proofs.DoorLaws.{line-doors, line-no_doors}
use Rattle.spr_client.proofs.replicas.copy_held.Goals as goal

pub copy_doors-requires-clause-held : goal.copy_doors-requires-clause-held
copy_doors-requires-clause-held g c κs within = let held = c.in-Some.ensures.some in rw (held.1) refl

pub returns-in-Some-clause-done : goal.returns-in-Some-clause-done
returns-in-Some-clause-done g c =
    let mount = c.args.common.now.mount.now in
    let state = c.args.client.now.state in
    let name = c.args.name.now in
    let other = c.args.other.now in
    let held = c.in-Some.ensures.some in
    line-doors mount c.args.client.now.caller state state.replicas name (plan_copy_doors state other (is_open other state)) (plan_named state (object_of name state.objects) (plan_copy state (word_of name state.objects) other (is_open other state))) c.in-Some.field-0 held.0 c.args.pass.now c.args.pass.now c.copy_doors.result c.copy_doors.new.client.state held.1 (c.copy_doors.ensures.done c.in-Some.field-0 held.0 held.1)

pub returns-in-None-clause-done : goal.returns-in-None-clause-done
returns-in-None-clause-done g c =
    let mount = c.args.common.now.mount.now in
    let state = c.args.client.now.state in
    let name = c.args.name.now in
    let other = c.args.other.now in
    line-no_doors mount c.args.client.now.caller state state.replicas name (plan_copy_doors state other (is_open other state)) (plan_named state (object_of name state.objects) (plan_copy state (word_of name state.objects) other (is_open other state))) c.args.pass.now c.args.pass.now c.copy_line.result c.copy_line.new.client.state (c.first.ensures.none c.in-None.is) c.copy_line.ensures.done
