use Rattle.std.proofs.Common.{◌≡◌, ◌≤◌, ◌+◌, [], ◌∷◌, ℕ, List, length, refl, sym, ap, subst, ◌∙◌, arith}
use Rattle.script_text.specs.declared.script.Reply.TheVariants as replies
use Rattle.marshal_buf.specs.declared.door.Door.{Door}
use Rattle.client_replicas.specs.declared.replicas.OpenReplicon.{OpenReplicon}
use Rattle.script_meaning.specs.Plan.{plan_opens, replicating}
use Rattle.spr_client.specs.Lines.{IsOnMachine, PlanDone}
use Rattle.spr_client.proofs.DoorLaws.{opens-lacks}
use Rattle.spr_client.proofs.replicas.open_replicon.Goals as goal

pub open_doors-requires-clause-few : goal.open_doors-requires-clause-few
open_doors-requires-clause-few g c κs within = let few = c.requires.of.few in omega (arith, few)

pub returns-in-Ok-clause-done : goal.returns-in-Ok-clause-done
returns-in-Ok-clause-done g c = c.open_doors.ensures.done c.args.client.now.state.replicas c.args.name [] c.in-Ok.ensures.ok refl

pub returns-in-Ok-clause-on : goal.returns-in-Ok-clause-on
returns-in-Ok-clause-on g c = c.open_doors.ensures.on c.args.client.now.state.replicas c.args.name [] c.in-Ok.ensures.ok refl c.requires.on tt

pub returns-in-Err-clause-done : goal.returns-in-Err-clause-done
returns-in-Err-clause-done g c =
    let mount = c.args.common.now.mount.now in
    let state = c.args.client.now.state in
    subst (λ (rs : List OpenReplicon). PlanDone mount c.args.client.now.caller (plan_opens mount c.args.name [] c.args.doors.now state) c.args.pass.now c.args.pass.now replies.Memory (replicating state rs)) (sym c.in-Err.ensures.err)
    (opens-lacks mount c.args.client.now.caller state c.args.name [] c.args.doors.now c.args.pass.now c.requires.of.some)

pub returns-in-Err-clause-on : goal.returns-in-Err-clause-on
returns-in-Err-clause-on g c =
    let mount = c.args.common.now.mount.now in
    let state = c.args.client.now.state in
    subst (λ (rs : List OpenReplicon). IsOnMachine mount (replicating state rs)) (sym c.in-Err.ensures.err) c.requires.on
