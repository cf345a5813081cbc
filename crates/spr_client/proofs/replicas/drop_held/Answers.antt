use Rattle.std.proofs.Common.{List, Option, sym, ap, subst, ◌∙◌}
use Rattle.std.specs.List.{AllByRecursion}
use Rattle.script_text.specs.declared.script.Reply.TheVariants as replies
use Rattle.client_objects.specs.Objects.{object_of}
use Rattle.client_replicas.specs.declared.door.OpenDoor.{OpenDoor}
use Rattle.client_replicas.specs.declared.replicas.OpenReplicon.{OpenReplicon}
use Rattle.script_meaning.specs.Plan.{ends, plan_doors, plan_drop, plan_drop_doors, plan_named, replicating}
use Rattle.spr_client.specs.Lines.{IsReplicatedOn}
use Rattle.spr_client.proofs.DoorLaws.{line-no_doors, on-replicating, on-without}
use Rattle.spr_client.proofs.LineLaws.{done-none}
use Rattle.spr_client.proofs.replicas.drop_held.Goals as goal

pub returns-in-Some-clause-done : goal.returns-in-Some-clause-done
returns-in-Some-clause-done g c =
    let state = c.args.client.now.state in
    let name = c.args.name.now in
    let held = c.in-Some.ensures.some in
    done-none c.args.common.now.mount.now c.args.client.now.caller state _ c.args.pass.now replies.Done (replicating state c.remove.new.self)
    (ap (λ (o : Option (List OpenDoor)). plan_doors o (λ door more. plan_drop_doors state name) (plan_named state (object_of name state.objects) (plan_drop state name))) held.1
    ∙ ap (λ (rs : List OpenReplicon). ends replies.Done (replicating state rs)) (sym c.remove.ensures))

pub returns-in-Some-clause-on : goal.returns-in-Some-clause-on
returns-in-Some-clause-on g c =
    let mount = c.args.common.now.mount.now in
    let state = c.args.client.now.state in
    on-replicating mount state c.remove.new.self c.requires.on
    (subst (λ (rs : List OpenReplicon). AllByRecursion (IsReplicatedOn mount) rs) (sym c.remove.ensures) (on-without mount c.args.name.now state.replicas c.requires.on.replicas))

pub returns-in-None-clause-done : goal.returns-in-None-clause-done
returns-in-None-clause-done g c =
    let mount = c.args.common.now.mount.now in
    let state = c.args.client.now.state in
    let name = c.args.name.now in
    line-no_doors mount c.args.client.now.caller state state.replicas name (λ (door : OpenDoor) more. plan_drop_doors state name) (plan_named state (object_of name state.objects) (plan_drop state name)) c.args.pass.now c.args.pass.now c.drop_line.result c.drop_line.new.client.state (c.first.ensures.none c.in-None.is) c.drop_line.ensures.done
